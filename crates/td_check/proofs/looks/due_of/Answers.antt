use Rattle.std.proofs.Common.{◌≡◌, ◌∙◌, subst, ℕ, arith}
use Rattle.td_check.specs.Looks.{AreDueBefore}
use Rattle.td_check.proofs.LooksDue.{due_all}
use Rattle.td_check.proofs.looks.due_of.Goals as goal

pub returns : goal.returns
returns c =
    let n : c.loop-editor.editor ≡ c.editors-editor-end.result = omega arith in
    due_all c.args.trace.now c.loop-editor.due
    (subst (λ (e : ℕ). AreDueBefore c.args.trace.now e 0 c.loop-editor.due) (n ∙ c.editors-editor-end.ensures)
    c.loop-editor.invariant)
