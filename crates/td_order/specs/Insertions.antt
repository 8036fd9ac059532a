-- The insertions among operations, and their atoms.
use Rattle.std.specs.Prelude.{◌≡◌, List, Bool, Some}
use Rattle.std.specs.Option.{is_some}
use Rattle.td_base.specs.Value.{AtomIdValue}
use Rattle.td_base.specs.Lists.{In}
use Rattle.td_op.specs.declared.insertion.Insertion.{Insertion}
use Rattle.td_op.specs.Op.{OpValue}
use Rattle.td_op.specs.Insertion.{ids_of, insertion_of}

-- the operation inserts
abbrev pub is_insertion : OpValue → Bool
is_insertion x = is_some (insertion_of x)

-- the insertion is one of the operations
pub record IsInsertionOf (ops : List OpValue) (a : Insertion) : Type 0 where
  pub op : OpValue
  pub inside : In op ops
  pub is : insertion_of op ≡ Some a

-- the atom is one that an insertion among the operations puts
pub record IsAtomOf (ops : List OpValue) (x : AtomIdValue) : Type 0 where
  pub insertion : Insertion
  pub inside : IsInsertionOf ops insertion
  pub among : In x (ids_of insertion)
