use Rattle.std.proofs.Common.{◌≡◌, ◌+◌, ℕ, Some, take}
use Rattle.std.specs.Prelude.{slice_get}
use Rattle.td_trace.specs.Editors.{calls_at}
use Rattle.td_trace.specs.declared.log.EditorLog.{EditorLog}
use Rattle.td_check.specs.Alone.{AreCounts}
use Rattle.td_check.proofs.alone.count_calls.Given as goal

abbrev pub invariant-loop-index : goal.invariant-loop-index
invariant-loop-index l =
    (log : EditorLog) → slice_get l.trace.logs l.editor ≡ Some log → (before : ℕ → ℕ) → AreCounts before l.fn.row
    → AreCounts (λ (i : ℕ). before i + calls_at (i + 1) (take l.index log.did)) l.row
