use Rattle.td_doc.specs.Document.{IsDocument}
use Rattle.test_replica.proofs.vote.type_on.Given as goal

abbrev pub invariant-loop-seq : goal.invariant-loop-seq
invariant-loop-seq l = IsDocument l.doc
