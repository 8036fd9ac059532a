use Rattle.td_check.specs.Looks.{AreDueBefore}
use Rattle.td_check.proofs.looks.note_editor.Given as goal

abbrev pub invariant-loop-index : goal.invariant-loop-index
invariant-loop-index l = AreDueBefore l.trace l.editor 0 l.fn.due → AreDueBefore l.trace l.editor l.index l.due
