use Rattle.std.proofs.Common.{ℕ, List, Option}
use Rattle.td_law_replay.specs.Counting.{raised}
use Rattle.td_seat.specs.OwnOps.{AreOwnOps, with_more}
use Rattle.td_seat.proofs.own_ops.OwnOps.make.Given as goal

abbrev pub invariant-loop : goal.invariant-loop
invariant-loop l =
    (site n : ℕ) (v : List ℕ) (told : ℕ → Option (List ℕ)) → AreOwnOps site n v told l.fn.self
    → AreOwnOps site n (raised site l.counter v) (with_more site l.counter v told) l.self
