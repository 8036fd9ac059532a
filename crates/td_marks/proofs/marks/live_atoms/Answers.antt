use Rattle.std.proofs.Common.{◌∙◌, sym, ap, List}
use Rattle.td_doc.specs.Document.{DocRow}
use Rattle.td_marks.proofs.Lives.{ids_next, ids_end, none_left}
use Rattle.td_marks.proofs.marks.live_atoms.Goals.{in-Some+in_ok-push, in_default}
use Rattle.td_marks.proofs.marks.live_atoms.Goals as goal

pub loop-index-preserved : goal.loop-index-preserved
loop-index-preserved g c =
    let rows : List DocRow = g.D.Doc.rows c.args.doc.now in
    elim c.match-live_at.branch [
      | in-Some+in_ok-push w ↦
          ap (λ v. v.items) w.atoms-is ∙ w.in_ok-push.ensures.items
          ∙ ids_next rows c.args.from c.loop-index.index w.in-Some.id c.loop-index.atoms.items c.loop-index.auto.index
          c.loop-index.invariant (sym c.live_at.ensures ∙ w.in-Some.is)
      | in_default w ↦
          ap (λ v. v.items) w.atoms-is
          ∙ ids_end rows c.args.from c.loop-index.index c.loop-index.atoms.items c.loop-index.auto.index
          c.loop-index.invariant (sym c.live_at.ensures ∙ none_left c.live_at.result w.in_default.not-Some)
    ]
