-- A room of which one worker or one editor has gone on.
use Rattle.std.proofs.Common.{◌≡◌, ◌++◌, ℕ, zero, suc, List, [], ◌∷◌, length, take, drop}
use Rattle.std.proofs.Common.{set, get_or, refl, sym, ap, subst, arith}
use Rattle.std.specs.List.{AllZip}
use Rattle.td_site.proofs.Lists.{prefix_self}
use Rattle.td_line.specs.Editors.{EditorValue, LaterEditor}
use Rattle.td_room.specs.Workers.{WorkerValue, LaterWorker}
use Rattle.td_room.specs.Rooms.{AreOfOneRoom}
use Rattle.td_room.proofs.Walks.{zip_self, zip_set}
use Rattle.td_room.proofs.Working.{worker_self}
use Rattle.td_room.proofs.Transport.{room_later}

pub editor_self : (e : EditorValue) → LaterEditor e e
editor_self e =
    record {
      home = refl;
      asks = refl;
      answers = refl;
      views = refl;
      calls = refl;
      submitted = prefix_self e.asks.sent;
      taken = prefix_self e.answers.taken;
      seen = prefix_self e.reader.seen;
      known = prefix_self e.reader.known;
    }

pub worker_on : (ws : List WorkerValue) (es : List EditorValue) (i : ℕ) (w v : WorkerValue) → w ≡ get_or ws i w
    → LaterWorker w v → AreOfOneRoom ws es → AreOfOneRoom (set ws i v) es
worker_on ws es i w v e later room =
    room_later ws (set ws i v) es es (zip_set LaterWorker ws i w v worker_self e later)
    (zip_self LaterEditor es editor_self) room

pub editor_on : (ws : List WorkerValue) (es : List EditorValue) (i : ℕ) (e f : EditorValue) → e ≡ get_or es i e
    → LaterEditor e f → AreOfOneRoom ws es → AreOfOneRoom ws (set es i f)
editor_on ws es i e f is later room =
    room_later ws ws es (set es i f) (zip_self LaterWorker ws worker_self)
    (zip_set LaterEditor es i e f editor_self is later) room

pub zip_front : (ws vs us ts : List WorkerValue) → AllZip LaterWorker ws vs → AllZip LaterWorker us ts
    → AllZip LaterWorker (ws ++ us) (vs ++ ts)
zip_front [] [] us ts a b = b
zip_front [] (v ∷ vs) us ts a b = absurd a
zip_front (w ∷ ws) [] us ts a b = absurd a
zip_front (w ∷ ws) (v ∷ vs) us ts a b = (a.0, zip_front ws vs us ts a.1 b)

pub all_on : (ws vs : List WorkerValue) (es : List EditorValue) → AllZip LaterWorker ws vs → AreOfOneRoom ws es
    → AreOfOneRoom vs es
all_on ws vs es a room = room_later ws vs es es a (zip_self LaterEditor es editor_self) room

as_many : (ws vs : List WorkerValue) → AllZip LaterWorker ws vs → length vs ≡ length ws
as_many [] [] a = refl
as_many [] (v ∷ vs) a = absurd a
as_many (w ∷ ws) [] a = absurd a
as_many (w ∷ ws) (v ∷ vs) a = ap suc (as_many ws vs a.1)

-- what is written over a list of as many
written : (n : ℕ) (ws vs : List WorkerValue) → length vs ≡ length ws → n ≡ length ws
    → take n (vs ++ drop (length vs) ws) ≡ vs
written zero [] [] l e = refl
written (suc n) [] [] l e = refl
written n [] (v ∷ vs) l e = absurd (omega (arith, l))
written n (w ∷ ws) [] l e = absurd (omega (arith, l))
written zero (w ∷ ws) (v ∷ vs) l e = absurd (omega (arith, e))
written (suc n) (w ∷ ws) (v ∷ vs) l e =
    ap (λ (l : List WorkerValue). v ∷ l) (written n ws vs (omega (arith, l)) (omega (arith, e)))

pub written_on : (n : ℕ) (ws vs : List WorkerValue) (es : List EditorValue) → n ≡ length ws → AllZip LaterWorker ws vs
    → AreOfOneRoom ws es → AreOfOneRoom (take n (vs ++ drop (length vs) ws)) es
written_on n ws vs es e a room =
    subst (λ (l : List WorkerValue). AreOfOneRoom l es) (sym (written n ws vs (as_many ws vs a) e))
    (all_on ws vs es a room)
