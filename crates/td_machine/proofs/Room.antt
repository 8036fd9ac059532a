-- A decision can always be made: operations made and proposals undecided are together at most the greatest number.
use Rattle.std.proofs.Common.{◌≡◌, ◌<◌, ◌≤◌, ◌+◌, ◌-◌, ℕ, suc, List, true, false, refl, arith}
use Rattle.std.proofs.lemmas.List.{get_or-replicate}
use Rattle.td_op.specs.declared.body.Body.{Body}
use Rattle.td_op.specs.declared.body.Body.TheVariants.{Insert, Delete, Propose, Commit, Abort}
use Rattle.td_op.specs.declared.message.Message.{Message}
use Rattle.td_op.specs.Op.{OpValue}
use Rattle.td_machine.specs.Decision.{Ballot, count_open}
use Rattle.td_machine.specs.Machine.{Machine, start, made, undecided}
use Rattle.td_machine.specs.Making.{ballots_after, done, make}
use Rattle.td_machine.proofs.Vectors.{bump_same, bump_other}
use Rattle.td_machine.proofs.Ballots.{close_fewer, closes, counted_fewer}
use Rattle.td_machine.specs.Parts.{RoomFor, IsFit, MayMake, Part, Makes, Proposes, Counts, Takes, Agrees, Declines}
use Rattle.td_machine.specs.Parts.{IsBuilt, proposed_here}
use Rattle.td_machine.proofs.Parts.{by_parts}
use Rattle.td_machine.proofs.Turns.{placed, length_have}

fewer : (body : Body) (ballots : List Ballot) → count_open (ballots_after body ballots) ≤ count_open ballots
fewer (Insert slot run) ballots = omega arith
fewer (Delete target) ballots = omega arith
fewer (Propose slot) ballots = omega arith
fewer (Commit p) ballots = close_fewer p true ballots
fewer (Abort p) ballots = close_fewer p false ballots

module _ {Came : Message → Type 0} {site size : ℕ} where
  made_more : (body : Body) (m : Machine) → IsBuilt Came site size m → made (make body m) ≡ made m + 1
  made_more body m b =
      let long = length_have m b in
      let p = placed m b in
      let within : m.site ≤ m.size = p.1 in
      bump_same m.have m.site p.0 (omega (arith, long, within))

  make_room : (k : ℕ) (body : Body) (m : Machine) → IsBuilt Came site size m → RoomFor (suc k) m
      → RoomFor k (make body m)
  make_room k body m b room =
      let more : made (make body m) ≡ made m + 1 = made_more body m b in
      let less : undecided (make body m) ≤ undecided m = fewer body m.ballots in
      omega (arith, room, more, less)

  -- a decision takes the room that its open proposal kept
  makes_room : (body : Body) (m : Machine) → IsBuilt Came site size m → MayMake body m → RoomFor 0 m
      → RoomFor 0 (make body m)
  makes_room (Insert slot run) m b may room = make_room 0 (Insert slot run) m b may.room
  makes_room (Delete x) m b may room = make_room 0 (Delete x) m b may.room
  makes_room (Propose slot) m b may room =
      let two : RoomFor 2 m = may.room in
      let one : RoomFor 1 m = omega (arith, two) in
      make_room 0 (Propose slot) m b one
  makes_room (Commit p) m b may room =
      let more : made (make (Commit p) m) ≡ made m + 1 = made_more (Commit p) m b in
      let less : suc (undecided (make (Commit p) m)) ≤ undecided m =
      closes p true may.opened.ballot m.ballots may.opened.found may.opened.open_ in
      omega (arith, room, more, less)
  makes_room (Abort p) m b may room =
      let more : made (make (Abort p) m) ≡ made m + 1 = made_more (Abort p) m b in
      let less : suc (undecided (make (Abort p) m)) ≤ undecided m =
      closes p false may.ballot m.ballots may.found may.open_ in
      omega (arith, room, more, less)

  takes_room : (x : OpValue) (m : Machine) → IsBuilt Came site size m → IsFit Came m x → RoomFor 0 m
      → RoomFor 0 (done x m)
  takes_room x m b fit room =
      let same : made (done x m) ≡ made m =
      bump_other m.have x.dot.site m.site fit.offered.valid.dot.site.least (placed m b).0 fit.offered.other in
      let less : undecided (done x m) ≤ undecided m = fewer x.body m.ballots in
      omega (arith, room, same, less)

  pub room : (m : Machine) → IsBuilt Came site size m → RoomFor 0 m
  room = by_parts (RoomFor 0) at_start keeps
    where
      at_start : 0 < site → site ≤ size → RoomFor 0 (start site size)
      at_start some within =
          let none : made (start site size) ≡ 0 = get_or-replicate size (site - 1) 0 0 (omega (arith, some, within)) in
          let decided_all : undecided (start site size) ≡ 0 = refl in
          omega (arith, none, decided_all)

      keeps : (m n : Machine) → IsBuilt Came site size m → Part Came m n → RoomFor 0 m → RoomFor 0 n
      keeps m n b (Makes body e may) h = makes_room body m b may h
      keeps m n b (Proposes slot may) h =
          let one : RoomFor 1 (make (Propose slot) m) = make_room 1 (Propose slot) m b may.room in
          let opened : undecided (proposed_here slot m) ≡ suc (undecided (make (Propose slot) m)) = refl in
          let same : made (proposed_here slot m) ≡ made (make (Propose slot) m) = refl in
          omega (arith, one, opened, same)
      keeps m n b (Counts v k) h =
          let less : undecided n ≤ undecided m = counted_fewer v.proposal v.voter v.yes m.ballots in
          let made_same : made n ≡ made m = refl in
          omega (arith, h, less, made_same)
      keeps m n b (Takes x e fit) h = takes_room x m b fit h
      keeps m n b (Agrees x slot e fit says) h = takes_room x m b fit h
      keeps m n b (Declines x slot e fit says) h = takes_room x m b fit h
      keeps m n b part h = h
