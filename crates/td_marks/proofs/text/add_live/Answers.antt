use Rattle.std.proofs.Common.{◌∙◌, List, sym}
use Rattle.std.proofs.lemmas.Result.{on_ok_weaker}
use Rattle.td_doc.specs.Document.{DocRow}
use Rattle.td_marks.proofs.Lives.{put_live, row_there}
use Rattle.td_marks.proofs.text.add_live.Goals as goal

pub returns-in-Some-find : goal.returns-in-Some-find
returns-in-Some-find g c = λ d.
    let rows : List DocRow = g.D.Doc.rows c.args.doc.now in
    on_ok_weaker c.add_atom.result
    (λ put before.
    put_live c.args.marks.now.ops rows c.args.index c.in-Some.id c.in-Some-find.row c.args.pieces.now.items
    c.add_atom.new.pieces.items c.bytes.result.now c.names.result d (sym c.live_at.ensures ∙ c.in-Some.is)
    (sym c.find.ensures ∙ c.in-Some-find.is) c.bytes.ensures.bytes c.names.ensures.names put before)
    c.add_atom.ensures

pub returns-in-None : goal.returns-in-None
returns-in-None g c = λ d before.
    absurd (row_there (g.D.Doc.rows c.args.doc.now) c.args.index c.in-Some.id d
    (sym c.live_at.ensures ∙ c.in-Some.is) (sym c.find.ensures ∙ c.in-None.is))
