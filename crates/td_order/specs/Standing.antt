-- Where atoms stand in a list, said of two at a time, and the rules that the order obeys.
use Rattle.std.specs.Prelude.{◌≡◌, ◌≢◌, ◌↔◌, ◌<◌, List, IsTrue}
use Rattle.td_base.specs.declared.bit.Bit.{Bit}
use Rattle.td_base.specs.declared.bit.Bit.TheVariants.{Left, Right}
use Rattle.td_base.specs.Value.{AtomIdValue}
use Rattle.td_base.specs.Lists.{In, StandsBefore, Successive}
use Rattle.td_path.specs.declared.slot.Slot.{Slot}
use Rattle.td_path.specs.declared.slot.Slot.TheVariants.{Root, At}
use Rattle.td_op.specs.Op.{OpValue}
use Rattle.td_op.specs.declared.insertion.Insertion.{Insertion}
use Rattle.td_order.specs.Insertions.{IsAtomOf, IsInsertionOf}
use Rattle.td_base.specs.Order.{dot_lt}
use Rattle.td_op.specs.Insertion.{ids_of}
use Rattle.td_order.specs.Under.{IsUnder}
use Rattle.td_order.specs.Place.{precedes}

-- the atom is of an insertion that is under b
pub record HangsOn (ops : List OpValue) (b : Insertion) (x : AtomIdValue) : Type 0 where
  pub insertion : Insertion
  pub inside : IsInsertionOf ops insertion
  pub below : IsUnder ops b insertion
  pub among : In x (ids_of insertion)

-- x stands on the side of the slot's atom that the slot says
abbrev pub StandsOnSide : List AtomIdValue → Slot → AtomIdValue → Type 0
StandsOnSide list Root x = Unit {0}
StandsOnSide list (At z Left) x = StandsBefore x z list
StandsOnSide list (At z Right) x = StandsBefore z x list

-- of two atoms that hang in the slot, the new one stands nearer to the slot's atom, and at the root nearer to the
-- start
abbrev pub StandsNearer : List AtomIdValue → Slot → AtomIdValue → AtomIdValue → Type 0
StandsNearer list Root new old = StandsBefore new old list
StandsNearer list (At z Left) new old = StandsBefore old new list
StandsNearer list (At z Right) new old = StandsBefore new old list

-- x is the atom z, or hangs on a side of it
pub data HangsAt (ops : List OpValue) (z x : AtomIdValue) : Type 0 where
  the_atom : x ≡ z → HangsAt ops z x
  on_a_side : (b : Insertion) (bit : Bit) → IsInsertionOf ops b → b.slot ≡ At z bit → HangsOn ops b x → HangsAt ops z x

pub record ObeysRules (ops : List OpValue) (list : List AtomIdValue) : Type 0 where
  -- the atoms of all insertions among the operations, each once
  pub atoms : (x : AtomIdValue) → In x list ↔ IsAtomOf ops x
  pub once : Successive (λ (x y : AtomIdValue). x ≢ y) list
  -- what hangs on the left side of an atom stands before the atom, and what hangs on its right side after it
  pub sides : (b : Insertion) → IsInsertionOf ops b → (x : AtomIdValue) → HangsOn ops b x → StandsOnSide list b.slot x
  -- the atoms of an insertion stand in their order, each with all that hangs on its sides
  pub runs : (a : Insertion) → IsInsertionOf ops a → (z w : AtomIdValue) → In z (ids_of a) → In w (ids_of a)
      → z.offset < w.offset
      → (x y : AtomIdValue) → HangsAt ops z x → HangsAt ops w y → StandsBefore x y list
  -- of two concurrent insertions in one slot, all that hangs on the one with the smaller dot stands first
  pub by_dot : (b c : Insertion) → IsInsertionOf ops b → IsInsertionOf ops c → b.slot ≡ c.slot
      → ¬ IsTrue (precedes b c) → ¬ IsTrue (precedes c b) → IsTrue (dot_lt b.dot c.dot)
      → (x y : AtomIdValue) → HangsOn ops b x → HangsOn ops c y → StandsBefore x y list
  -- of two insertions in one slot of which one knew the other, all that hangs on the newer one stands nearer to the
  -- slot's atom
  pub nearer : (b c : Insertion) → IsInsertionOf ops b → IsInsertionOf ops c → b.slot ≡ c.slot → IsTrue (precedes b c)
      → (new old : AtomIdValue) → HangsOn ops c new → HangsOn ops b old → StandsNearer list c.slot new old
