-- Workers and editors of one room, later.
use Rattle.std.proofs.Common.{◌≡◌, ◌<◌, ◌≤◌, ◌+◌, ℕ, zero, suc, List, [], ◌∷◌, Bool, true, false, cond}
use Rattle.std.proofs.Common.{nat_eq, length, map, slice_get, Some, refl, sym, ap, ◌∙◌, subst}
use Rattle.std.specs.List.{AllByRecursion, AllZip}
use Rattle.logbook.specs.Pages.{Book}
use Rattle.td_base.specs.declared.site.TheConstants.{MAX_SITE}
use Rattle.td_law_meeting.specs.Rows.{AllMatch}
use Rattle.td_line.specs.Lines.{LineValue, LaterLine}
use Rattle.td_line.specs.Editors.{EditorValue, LaterEditor}
use Rattle.td_peer.specs.Peers.{AreLinked}
use Rattle.td_room.specs.Workers.{WorkerValue, LaterWorker}
use Rattle.td_room.specs.Rooms.{AreOfOneRoom, Joined, editors_of}
use Rattle.td_room.proofs.Linked.{LaterRows, all_linked}

rows_later : (ws vs : List WorkerValue) → AllZip LaterWorker ws vs
    → LaterRows (map (λ (w : WorkerValue). w.peers) ws) (map (λ (w : WorkerValue). w.peers) vs)
rows_later [] [] h = h
rows_later [] (v ∷ vs) h = absurd h
rows_later (w ∷ ws) [] h = absurd h
rows_later (w ∷ ws) (v ∷ vs) h = (h.0.peers, rows_later ws vs h.1)

as_many : (ws vs : List WorkerValue) → AllZip LaterWorker ws vs → length vs ≡ length ws
as_many [] [] h = refl
as_many [] (v ∷ vs) h = absurd h
as_many (w ∷ ws) [] h = absurd h
as_many (w ∷ ws) (v ∷ vs) h = ap suc (as_many ws vs h.1)

record Was (ws : List WorkerValue) (place : ℕ) (v : WorkerValue) : Type 0 where
  worker : WorkerValue
  found : slice_get ws place ≡ Some worker
  later : LaterWorker worker v

was : (ws vs : List WorkerValue) → AllZip LaterWorker ws vs → (place : ℕ) (v : WorkerValue) → slice_get vs place
    ≡ Some v
    → Was ws place v
was [] [] h place v e = absurd (cc e)
was [] (x ∷ vs) h place v e = absurd h
was (w ∷ ws) [] h place v e = absurd h
was (w ∷ ws) (x ∷ vs) h zero v e =
    record { worker = w; found = refl; later = subst (λ (y : WorkerValue). LaterWorker w y) (same x v e) h.0 }
  where
    same : (a b : WorkerValue) → Some a ≡ Some b → a ≡ b
    same a b k = cc
was (w ∷ ws) (x ∷ vs) h (suc place) v e =
    let k = was ws vs h.1 place v e in record { worker = k.worker; found = k.found; later = k.later }

-- ---- editors

editors_later : (site : ℕ) (es fs : List EditorValue) → AllZip LaterEditor es fs
    → AllZip LaterEditor (editors_of site es) (editors_of site fs)
editors_later site [] [] h = tt
editors_later site [] (f ∷ fs) h = absurd h
editors_later site (e ∷ es) [] h = absurd h
editors_later site (e ∷ es) (f ∷ fs) h =
    each (nat_eq e.home site) (nat_eq f.home site) (ap (λ (k : ℕ). nat_eq k site) h.0.home)
    (editors_later site es fs h.1)
  where
    each : (b c : Bool) → c ≡ b → AllZip LaterEditor (editors_of site es) (editors_of site fs)
        → AllZip LaterEditor (cond b (e ∷ editors_of site es) (editors_of site es))
        (cond c (f ∷ editors_of site fs) (editors_of site fs))
    each true true g rest = (h.0, rest)
    each true false g rest = absurd (cc g)
    each false true g rest = absurd (cc g)
    each false false g rest = rest

homes_later : (n : ℕ) (es fs : List EditorValue) → AllZip LaterEditor es fs
    → AllByRecursion (λ (e : EditorValue). (0 < e.home) × (e.home ≤ n)) es
    → AllByRecursion (λ (e : EditorValue). (0 < e.home) × (e.home ≤ n)) fs
homes_later n [] [] h k = tt
homes_later n [] (f ∷ fs) h k = absurd h
homes_later n (e ∷ es) [] h k = absurd h
homes_later n (e ∷ es) (f ∷ fs) h k =
    (subst (λ (x : ℕ). (0 < x) × (x ≤ n)) (sym h.0.home) k.0, homes_later n es fs h.1 k.1)

joined_later : (old new : Book) (ls ms : List LineValue) (es fs : List EditorValue) → new ≡ old → AllZip LaterLine ls ms
    → AllZip LaterEditor es fs → AllZip (Joined old) ls es → AllZip (Joined new) ms fs
joined_later old new [] [] [] [] same a b j = tt
joined_later old new [] [] [] (f ∷ fs) same a b j = absurd b
joined_later old new [] [] (e ∷ es) fs same a b j = absurd j
joined_later old new [] (m ∷ ms) es fs same a b j = absurd a
joined_later old new (l ∷ ls) [] es fs same a b j = absurd a
joined_later old new (l ∷ ls) (m ∷ ms) [] fs same a b j = absurd j
joined_later old new (l ∷ ls) (m ∷ ms) (e ∷ es) [] same a b j = absurd b
joined_later old new (l ∷ ls) (m ∷ ms) (e ∷ es) (f ∷ fs) same a b j = (
  record {
    belongs = record {
      asks = b.0.asks ∙ j.0.belongs.asks ∙ sym a.0.asks;
      answers = a.0.answers ∙ j.0.belongs.answers ∙ sym b.0.answers;
    };
    watches = b.0.views ∙ j.0.watches ∙ sym same;
  },
  joined_later old new ls ms es fs same a.1 b.1 j.1,
)

-- ---- the room

pub room_later : (ws vs : List WorkerValue) (es fs : List EditorValue) → AllZip LaterWorker ws vs
    → AllZip LaterEditor es fs
    → AreOfOneRoom ws es → AreOfOneRoom vs fs
room_later ws vs es fs h k r =
    let n = as_many ws vs h in
    record {
      some = subst (λ (x : ℕ). 0 < x) (sym n) r.some;
      few = subst (λ (x : ℕ). x ≤ MAX_SITE) (sym n) r.few;
      sites = λ place v e.
          let w = was ws vs h place v e in
          let s = r.sites place w.worker w.found in
          record {
            site = w.later.site.site ∙ s.site;
            size_is = w.later.site.size ∙ s.size_is ∙ sym n;
            lines = joined_later w.worker.site.writer.views v.site.writer.views w.worker.lines v.lines
                (editors_of (place + 1) es) (editors_of (place + 1) fs) w.later.site.views w.later.lines
                (editors_later (place + 1) es fs k) s.lines;
          };
      linked = subst (λ (x : ℕ). AllMatch AreLinked x (map (λ (w : WorkerValue). w.peers) vs)) (sym n)
          (all_linked (length ws) (map (λ (w : WorkerValue). w.peers) ws) (map (λ (w : WorkerValue). w.peers) vs)
          (rows_later ws vs h) r.linked);
      homes = subst (λ (x : ℕ). AllByRecursion (λ (e : EditorValue). (0 < e.home) × (e.home ≤ x)) fs) (sym n)
          (homes_later (length ws) es fs k r.homes);
    }
