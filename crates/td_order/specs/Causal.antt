-- What is known of operations that sites made one after another, as far as their order asks for it.
use Rattle.std.specs.Prelude.{◌≡◌, ◌≢◌, ◌⊎◌, List, [], length, IsTrue}
use Rattle.td_base.specs.Lists.{In}
use Rattle.td_clock.specs.Vector.{vector_covers}
use Rattle.td_path.specs.declared.slot.Slot.{Slot}
use Rattle.td_path.specs.declared.slot.Slot.TheVariants.{Root, At}
use Rattle.td_op.specs.Op.{OpValue, IsOp}
use Rattle.td_op.specs.Past.{in_past}
use Rattle.td_op.specs.declared.insertion.Insertion.{Insertion}
use Rattle.td_order.specs.Insertions.{IsAtomOf, IsInsertionOf}
use Rattle.td_order.specs.LineUp.{DotsDiffer}
use Rattle.td_order.specs.Place.{precedes}

-- operations for one number of sites, each of which knew all that those in its past knew
pub record IsCausal (ops : List OpValue) : Type 0 where
  pub valid : (x : OpValue) → In x ops → IsOp x
  pub one_size : (x y : OpValue) → In x ops → In y ops → length x.deps ≡ length y.deps
  pub knows : (x y : OpValue) → In x ops → In y ops → IsTrue (in_past x y) → IsTrue (vector_covers y.deps x.deps)

-- the slot of a is the root, or names an atom that an insertion among the operations puts, which is in the past of a
abbrev pub IsRootedIn : List OpValue → Insertion → Slot → Type 0
IsRootedIn ops a Root = Unit {0}
IsRootedIn ops a (At x bit) = (put : IsAtomOf ops x) × IsTrue (precedes put.insertion a)

-- causal operations without a dot twice, of which each insertion puts some atom in a slot that was known where it was
-- made
pub record IsWellRooted (ops : List OpValue) : Type 0 where
  pub apart : DotsDiffer ops
  pub causal : IsCausal ops
  pub full : (a : Insertion) → IsInsertionOf ops a → a.run ≢ []
  pub rooted : (a : Insertion) → IsInsertionOf ops a → IsRootedIn ops a a.slot

-- where one insertion in a slot is in the past of another, each third one in the slot comes after the first or before
-- the second. (A slot in which something was put is used again only after a flatten emptied it, and no insertion in
-- the slot is concurrent with that flatten.)
abbrev pub HasEpochs : List OpValue → Type 0
HasEpochs ops =
    (c d e : Insertion) → IsInsertionOf ops c → IsInsertionOf ops d → IsInsertionOf ops e
    → c.slot ≡ d.slot → e.slot ≡ d.slot
    → IsTrue (precedes c d) → IsTrue (precedes c e) ⊎ IsTrue (precedes e d)

-- a part of the operations that has the past of each of its members
pub record IsPart (part all : List OpValue) : Type 0 where
  pub apart : DotsDiffer part
  pub within : (o : OpValue) → In o part → In o all
  pub closed : (o p : OpValue) → In o part → In p all → IsTrue (in_past p o) → In p part
