use Rattle.td_check.specs.Looks.{AreDueBefore}
use Rattle.td_check.proofs.looks.due_of.Given as goal

abbrev pub invariant-loop-editor : goal.invariant-loop-editor
invariant-loop-editor l = AreDueBefore l.trace l.editor 0 l.due
