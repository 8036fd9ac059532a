-- Which insertion is under which, by what each wrote alone. No path is looked at.
use Rattle.std.specs.Prelude.{List, [], ◌∷◌, Bool, false, ◌||◌, if◌then◌else◌}
use Rattle.std.specs.List.{list_any}
use Rattle.td_base.specs.Value.{DotValue, AtomIdValue}
use Rattle.td_base.specs.Lists.{In}
use Rattle.td_path.specs.declared.slot.Slot.{Slot}
use Rattle.td_path.specs.declared.slot.Slot.TheVariants.{Root, At}
use Rattle.td_op.specs.Op.{OpValue}
use Rattle.td_op.specs.declared.insertion.Insertion.{Insertion}
use Rattle.td_order.specs.Insertions.{IsInsertionOf}
use Rattle.td_op.specs.Insertion.{ids_of}
use Rattle.td_base.specs.Equality.{same_dot}

-- the slot names an atom of the insertion
abbrev pub NamesAtomOf : Slot → Insertion → Type 0
NamesAtomOf Root a = ⊥
NamesAtomOf (At x bit) a = In x (ids_of a)

-- the slot names an atom of an insertion that passes
abbrev pub names_under : (DotValue → Bool) → Slot → Bool
names_under is_under Root = false
names_under is_under (At x bit) = is_under x.dot

-- of these insertions, the last in line-up first: the one with the dot c is under the one with the dot b, since it is
-- that one, or since the slot that it wrote names an atom of one before it that is under b
abbrev pub under : List Insertion → DotValue → DotValue → Bool
under [] b c = false
under (a ∷ before) b c =
    if same_dot a.dot c then same_dot c b || names_under (under before b) a.slot else under before b c

-- the atom is of an insertion that is under one of these tops
abbrev pub is_under_any : List Insertion → List Insertion → AtomIdValue → Bool
is_under_any placed tops x = list_any (λ (b : Insertion). under placed b.dot x.dot) tops

-- the same as a relation, in no order: the insertion c of these operations is under b since it is b, or since the slot
-- that it wrote names an atom of one of their insertions that is under b
pub data IsUnder (ops : List OpValue) (b : Insertion) : Insertion → Type 0 where
  itself : IsUnder ops b b
  by_slot : (c d : Insertion) → IsInsertionOf ops d → NamesAtomOf c.slot d → IsUnder ops b d → IsUnder ops b c
