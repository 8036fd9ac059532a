use Rattle.std.proofs.Common.{◌∙◌, sym, ap, subst, is_some}
use Rattle.td_doc.specs.Document.{IsDocument, find_row}
use Rattle.td_doc.proofs.Rules.{insert_keeps}
use Rattle.test_replica.proofs.Placed.{not_told}
use Rattle.test_replica.proofs.vote.put.Goals as goal

pub returns : goal.returns
returns c =
    subst IsDocument (sym c.in_ok-insert.ensures.ok.1)
    (insert_keeps c.args.doc.now c.args.slot c.of-id.result c.in-Ok.atom c.requires
    (not_told _ (find_row c.of-id.result c.args.doc.now)
    (sym (ap is_some c.find.ensures) ∙ sym c.is_some.ensures ∙ c.if-is_some.false)) c.in_ok-insert.ensures.ok.0)
