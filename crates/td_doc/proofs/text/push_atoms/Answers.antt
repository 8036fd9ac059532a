use Rattle.std.proofs.Common.{sym, ap, ◌∙◌}
use Rattle.td_doc.specs.Document.{DocRow}
use Rattle.td_doc.proofs.Texts.{text_live, text_gone}
use Rattle.td_doc.proofs.text.push_atoms.Goals as goal
use Rattle.td_doc.proofs.text.push_atoms.Goals.{then-is_live+in_ok-push, else-is_live}

pub loop-row-preserved : goal.loop-row-preserved
loop-row-preserved c =
    let rows = c.args.rows.now in
    let i = c.loop-row.row-index in
    let r = c.row-item.result in
    let start = c.args.text.now in
    elim c.if-is_live.branch [
      | then-is_live+in_ok-push w ↦
          text_live rows i r start c.loop-row.text _ _ c.loop-row-test.true c.row-item.is
          (sym c.is_live.ensures ∙ w.if-is_live.true)
          (w.bytes.ensures.bytes ∙ ap (λ (q : DocRow). q.atom) c.row.view_is) c.loop-row.invariant
          (w.text-is ∙ w.in_ok-push.ensures.ok)
      | else-is_live w ↦ text_gone rows i r start _ c.loop-row-test.true c.row-item.is
          (sym c.is_live.ensures ∙ w.if-is_live.false) (w.text-is ∙ c.loop-row.invariant)
    ]
