use Rattle.std.proofs.Common.{rules}
use Rattle.td_line.proofs.Editing.{counted_more, polled_is, later_report}
use Rattle.td_line.proofs.editor.Editor.poll.Goals as goal

pub invariant_of-self-2 : goal.invariant_of-self-2
invariant_of-self-2 g c =
    let is = c.self.invariant.0 in
    let report = c.in_ok-answer.field-0 in
    let taken = c.in_ok-answer.ensures.taken in
    let upto = c.in_ok-answer.ensures.fits _ is.views in (
      polled_is _ report _ _ is taken (search rules) upto.1 (search rules) (search rules),
      rw c.saturating_add-self-inside.ensures (counted_more c.self.inside.polled _ _ report c.self.invariant.1 taken),
    )

pub returns-clause-later : goal.returns-clause-later
returns-clause-later g c =
    rw (← c.self.view_is)
    (later_report _ c.in_ok-answer.field-0 _ _ c.in_ok-answer.ensures.taken (search rules) (search rules))
