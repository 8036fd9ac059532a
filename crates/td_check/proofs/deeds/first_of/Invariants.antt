use Rattle.std.proofs.Common.{◌≡◌, ℕ, List, Some}
use Rattle.std.specs.Prelude.{slice_get}
use Rattle.td_trace.specs.declared.log.EditorLog.{EditorLog}
use Rattle.td_check.specs.Looks.{AreLooks, all_seen}
use Rattle.td_check.proofs.DeedsJudged.{IsSoFar}
use Rattle.td_check.proofs.deeds.first_of.Given as goal

abbrev pub invariant-loop-index : goal.invariant-loop-index
invariant-loop-index l =
    (text_at : ℕ → ℕ → List ℕ) → AreLooks l.trace (all_seen l.trace) text_at l.looks → (log : EditorLog)
    → slice_get l.trace.logs l.editor ≡ Some log → IsSoFar l.trace text_at log l.index l.done
