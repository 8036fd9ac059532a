-- The document that a log leaves.
use Rattle.std.specs.Prelude.{List, [], ◌∷◌}
use Rattle.td_op.specs.Op.{OpValue}
use Rattle.td_doc.specs.Document.{DocRow}
use Rattle.td_machine.specs.Making.{effect}

-- the document after these operations, the newest first
abbrev pub doc_of : List OpValue → List DocRow
doc_of [] = []
doc_of (x ∷ log) = effect log x.dot x.body (doc_of log)
