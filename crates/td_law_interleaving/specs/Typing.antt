-- What is typed, said of what it hangs on.
use Rattle.std.specs.Prelude.{◌≡◌, ◌≢◌, ◌⊎◌, ◌/◌, ℕ, List, [], length, IsTrue, Option, Some}
use Rattle.std.specs.Option.{ForSome}
use Rattle.td_base.specs.declared.bit.Bit.TheVariants.{Left}
use Rattle.td_base.specs.Value.{DotValue, AtomIdValue}
use Rattle.td_base.specs.Lists.{In, StandsBefore}
use Rattle.td_path.specs.declared.slot.Slot.{Slot}
use Rattle.td_path.specs.declared.slot.Slot.TheVariants.{Root, At}
use Rattle.td_op.specs.Op.{OpValue}
use Rattle.td_op.specs.declared.insertion.Insertion.{Insertion}
use Rattle.td_op.specs.Insertion.{ids_of}
use Rattle.td_doc.specs.Document.{DocRow, IsDocument}
use Rattle.td_doc.specs.Allocation.{alloc}
use Rattle.td_doc.specs.Insertion.{insert_run}
use Rattle.td_doc.specs.Answers.{IsRow, IsFresh}
use Rattle.td_machine.specs.History.{Family, Moment, machine_at}
use Rattle.td_order.specs.Insertions.{IsAtomOf, IsInsertionOf}
use Rattle.td_order.specs.Standing.{HangsAt, HangsOn}
use Rattle.td_order.specs.Place.{precedes}
use Rattle.td_order.specs.Order.{order}
use Rattle.td_law_logs.specs.Part.{IsPartOf}
use Rattle.td_law_convergence.specs.Promises.{row_ids}
use Rattle.td_law_convergence.specs.Subtrees.{NeverRenamed}

-- in the order of operations of the family: what stands between two atoms that hang on a is of a, or of an insertion
-- whose site knew a
abbrev pub NoStrangerBetween : Family → Type 0
NoStrangerBetween family =
    (ops : List OpValue) → IsPartOf family ops → (a c : Insertion) → IsInsertionOf ops a → IsInsertionOf ops c
    → (x y z : AtomIdValue) → HangsOn ops a x → HangsOn ops a z → In y (ids_of c)
    → StandsBefore x y (order ops) → StandsBefore y z (order ops) → (c ≡ a) ⊎ IsTrue (precedes a c)

-- and what stands between an atom and what hangs at it hangs at it too
abbrev pub NoStrangerAtAtom : Family → Type 0
NoStrangerAtAtom family =
    (ops : List OpValue) → IsPartOf family ops → (v x y z : AtomIdValue) → IsAtomOf ops v
    → HangsAt ops v x → HangsAt ops v z
    → StandsBefore x y (order ops) → StandsBefore y z (order ops) → HangsAt ops v y

-- so in the document of each site, at every moment
abbrev pub NoStrangerInDocument : Family → Type 0
NoStrangerInDocument family =
    (t : Moment family) (a c : Insertion) → IsInsertionOf (machine_at family t).log a
    → IsInsertionOf (machine_at family t).log c
    → (x y z : AtomIdValue) → HangsOn (machine_at family t).log a x → HangsOn (machine_at family t).log a z
    → In y (ids_of c)
    → StandsBefore x y (row_ids (machine_at family t)) → StandsBefore y z (row_ids (machine_at family t))
    → (c ≡ a) ⊎ IsTrue (precedes a c)

-- the slot is at an atom that hangs on the insertion
abbrev pub IsSlotOn : List OpValue → Insertion → Slot → Type 0
IsSlotOn ops a Root = ⊥
IsSlotOn ops a (At y bit) = HangsOn ops a y

abbrev pub middle_of : Insertion → AtomIdValue
middle_of a = record { dot = a.dot; offset = length a.run / 2 }

-- what a site types right behind an atom of an insertion hangs on the insertion, where no commit renamed its middle
-- atom (of a letter that was typed: the letter)
abbrev pub TypedBehind : Family → Type 0
TypedBehind family =
    (t : Moment family) (a : Insertion) (p : AtomIdValue) → IsInsertionOf (machine_at family t).log a
    → NeverRenamed family (machine_at family t).log (middle_of a) → In p (ids_of a)
    → IsRow (machine_at family t).doc p
    → IsSlotOn (machine_at family t).log a (alloc (machine_at family t).doc (Some p))

-- what is typed where something was just typed, so right in front of it, hangs on it, on the left of its first atom
abbrev pub TypedInFront : Type 0
TypedInFront =
    (rows : List DocRow) (after : Option AtomIdValue) (dot : DotValue) (run : List (List ℕ)) → IsDocument rows
    → ForSome after (IsRow rows) → IsFresh rows dot → run ≢ []
    → alloc (insert_run (alloc rows after) dot run rows) after ≡ At (record { dot = dot; offset = 0 }) Left
