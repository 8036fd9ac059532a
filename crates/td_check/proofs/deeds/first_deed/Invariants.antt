use Rattle.std.proofs.Common.{ℕ, List, take}
use Rattle.std.specs.List.{AllByRecursion}
use Rattle.td_law_replay.specs.Accepted.{IsLogIn}
use Rattle.td_check.specs.Looks.{AreLooks, all_seen}
use Rattle.td_check.proofs.deeds.first_deed.Given as goal

abbrev pub invariant-loop-editor : goal.invariant-loop-editor
invariant-loop-editor l =
    (text_at : ℕ → ℕ → List ℕ) → AreLooks l.trace (all_seen l.trace) text_at l.looks
    → AllByRecursion (IsLogIn l.trace.histories text_at) (take l.editor l.trace.logs)
