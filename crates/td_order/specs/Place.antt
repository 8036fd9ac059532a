-- Where an insertion goes among the atoms of those before it in line-up: the rule by which this project orders
-- concurrent insertions. `placed` are those before it, the last first, and the list has their atoms.
use Rattle.std.specs.Prelude.{List, [], ◌∷◌, ◌++◌, Bool, true, false, ◌&&◌, not, if◌then◌else◌, filter}
use Rattle.std.specs.List.{list_any}
use Rattle.td_base.specs.declared.bit.Bit.TheVariants.{Left, Right}
use Rattle.td_base.specs.Value.{AtomIdValue}
use Rattle.td_clock.specs.Vector.{vector_has}
use Rattle.td_path.specs.declared.slot.Slot.{Slot}
use Rattle.td_path.specs.declared.slot.Slot.TheVariants.{Root, At}
use Rattle.td_op.specs.declared.insertion.Insertion.{Insertion}
use Rattle.td_base.specs.Order.{dot_lt}
use Rattle.td_op.specs.Insertion.{ids_of}
use Rattle.td_base.specs.Equality.{same_id}
use Rattle.td_path.specs.Slot.{same_slot}
use Rattle.td_order.specs.Under.{is_under_any}

-- c is in the past of a: a depends on it
abbrev pub precedes : Insertion → Insertion → Bool
precedes c a = vector_has a.deps c.dot

-- c wrote the slot that a wrote, and is not in a's past
abbrev pub is_sibling : Insertion → Insertion → Bool
is_sibling a c = same_slot c.slot a.slot && not (precedes c a)

abbrev pub siblings : List Insertion → Insertion → List Insertion
siblings placed a = filter (is_sibling a) placed

abbrev pub is_smaller : Insertion → Insertion → Bool
is_smaller a c = dot_lt c.dot a.dot

-- the siblings with a smaller dot
abbrev pub smaller_siblings : List Insertion → Insertion → List Insertion
smaller_siblings placed a = filter (is_smaller a) (siblings placed a)

-- the list with xs right after its last element that passes (none: at the start)
abbrev pub put_after_last : {X : Type 0} → (X → Bool) → List X → List X → List X
put_after_last test xs [] = xs
put_after_last test xs (y ∷ ys) = if list_any test (y ∷ ys) then y ∷ put_after_last test xs ys else xs ++ y ∷ ys

-- the list with xs right before its first element that passes (none: at the end)
abbrev pub put_before_first : {X : Type 0} → (X → Bool) → List X → List X → List X
put_before_first test xs [] = xs
put_before_first test xs (y ∷ ys) = if test y then xs ++ y ∷ ys else y ∷ put_before_first test xs ys

-- right beside the slot's atom on the slot's side, or at the start
abbrev pub put_beside : Slot → List AtomIdValue → List AtomIdValue → List AtomIdValue
put_beside Root xs list = xs ++ list
put_beside (At x Right) xs list = put_after_last (same_id x) xs list
put_beside (At x Left) xs list = put_before_first (same_id x) xs list

abbrev pub has_some : {X : Type 0} → List X → Bool
has_some [] = false
has_some (x ∷ xs) = true

-- the list with the atoms of a, next to each other: after all that is under a smaller sibling; else, where it has
-- siblings, before all that is under one; else beside the atom that its slot names
abbrev pub place : List Insertion → List AtomIdValue → Insertion → List AtomIdValue
place placed list a =
    if has_some (smaller_siblings placed a)
    then put_after_last (is_under_any placed (smaller_siblings placed a)) (ids_of a) list
    else (if has_some (siblings placed a)
    then put_before_first (is_under_any placed (siblings placed a)) (ids_of a) list
    else put_beside a.slot (ids_of a) list)
