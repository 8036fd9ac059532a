-- What is done to each element of a list.
use Rattle.std.proofs.Common.{◌≡◌, ◌<◌, ℕ, zero, suc, List, [], ◌∷◌, length, get_or, arith}
use Rattle.std.specs.List.{AllZip}
use Rattle.td_line.specs.Editors.{LaterEditor}
use Rattle.td_room.specs.Workers.{WorkerValue, LaterWorker}
use Rattle.td_room.specs.Rooms.{AreOfOneRoom}
use Rattle.td_room.proofs.Transport.{room_later}
use Rattle.td_live.specs.Desks.{DeskValue, LaterDesk}
use Rattle.td_live.specs.Working.{editors_at}

-- lists as long, with R at each place
pub zip_at : {X : Type 0} (R : X → X → Type 0) (xs ys : List X) → length ys ≡ length xs
    → ((i : ℕ) (d : X) → i < length xs → R (get_or xs i d) (get_or ys i d)) → AllZip R xs ys
zip_at R [] [] same each = tt
zip_at R [] (y ∷ ys) same each = absurd (omega (arith, same))
zip_at R (x ∷ xs) [] same each = absurd (omega (arith, same))
zip_at R (x ∷ xs) (y ∷ ys) same each = (
  each zero x (omega arith),
  zip_at R xs ys (omega (arith, same)) (λ i d within. each (suc i) d (omega (arith, within))),
)

editors_later : (desks later : List DeskValue) → AllZip LaterDesk desks later
    → AllZip LaterEditor (editors_at desks) (editors_at later)
editors_later [] [] all = tt
editors_later [] (e ∷ later) all = absurd all
editors_later (d ∷ desks) [] all = absurd all
editors_later (d ∷ desks) (e ∷ later) all = (all.0.editor, editors_later desks later all.1)

pub stays_in_room : (before after : List WorkerValue) (desks later : List DeskValue) → AllZip LaterWorker before after
    → AllZip LaterDesk desks later → AreOfOneRoom before (editors_at desks) → AreOfOneRoom after (editors_at later)
stays_in_room before after desks later workers all room =
    room_later before after (editors_at desks) (editors_at later) workers (editors_later desks later all) room
