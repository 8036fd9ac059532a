use Rattle.std.proofs.Common.{sym, subst}
use Rattle.td_doc.specs.Document.{IsDocument}
use Rattle.td_doc.proofs.Deleted.{delete_document}
use Rattle.test_replica.proofs.vote.write.Goals as goal

pub returns : goal.returns
returns c =
    subst IsDocument (sym c.in_ok-delete.ensures.ok.1)
    (delete_document c.of-gone.result c.in_ok-by.by c.put-2.new.doc c.put-2.ensures)
