-- Insertions: the operations that put atoms, and the identities of these (Preguiça et al. 2009, with runs).
use Rattle.std.specs.Prelude.{◌≡◌, ℕ, List, Option, Some, None}
use Rattle.std.specs.List.{filter_map}
use Rattle.td_base.specs.Value.{DotValue, AtomIdValue}
use Rattle.td_base.specs.Lists.{In}
use Rattle.td_base.specs.RunAtoms.{run_ids}
use Rattle.td_op.specs.declared.body.Body.{Body}
use Rattle.td_op.specs.declared.body.Body.TheVariants.{Insert, Delete, Propose, Commit, Abort}
use Rattle.td_op.specs.declared.insertion.Insertion.{Insertion}
use Rattle.td_op.specs.Op.{OpValue}

-- the operation with this dot, these dependencies and this body as an insertion, where it is one
abbrev pub insertion_by : DotValue → List ℕ → Body → Option Insertion
insertion_by dot deps (Insert slot run) = Some (record { dot = dot; deps = deps; slot = slot; run = run })
insertion_by dot deps (Delete target) = None
insertion_by dot deps (Propose slot) = None
insertion_by dot deps (Commit proposal) = None
insertion_by dot deps (Abort proposal) = None

abbrev pub insertion_of : OpValue → Option Insertion
insertion_of x = insertion_by x.dot x.deps x.body

abbrev pub insertions : List OpValue → List Insertion
insertions ops = filter_map insertion_of ops

-- the identities of an insertion's atoms, in their order
abbrev pub ids_of : Insertion → List AtomIdValue
ids_of a = run_ids a.dot a.run

-- the operation x puts the atom
pub record Inserts (x : OpValue) (atom : AtomIdValue) : Type 0 where
  pub insertion : Insertion
  pub is : insertion_of x ≡ Some insertion
  pub among : In atom (ids_of insertion)
