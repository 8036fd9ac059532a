-- The insertions among operations, one by one.
use Rattle.std.proofs.Common.{List}
use Rattle.td_base.specs.Lists.{In}
use Rattle.td_op.specs.declared.insertion.Insertion.{Insertion}
use Rattle.td_op.specs.Op.{OpValue}
use Rattle.td_op.specs.Insertion.{insertions}
use Rattle.td_op.proofs.InsertionLemmas.{In-insertions, insertions-In}
use Rattle.td_order.specs.Insertions.{IsInsertionOf}

pub to_insertion : (ops : List OpValue) (i : Insertion) → In i (insertions ops) → IsInsertionOf ops i
to_insertion ops i h = let r = In-insertions ops i h in record { op = r.0; inside = r.1; is = r.2 }

pub of_insertion : (ops : List OpValue) (i : Insertion) → IsInsertionOf ops i → In i (insertions ops)
of_insertion ops i h = insertions-In ops h.op i h.inside h.is
