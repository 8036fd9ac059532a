-- What the sites of a family agree on: an operation meets at each site what its maker met.
use Rattle.std.specs.Prelude.{◌≡◌, ◌↔◌, ℕ, List, ◌∷◌, true, Some}
use Rattle.td_base.specs.Value.{AtomIdValue}
use Rattle.td_base.specs.Lists.{In}
use Rattle.td_path.specs.Infix.{Pairs}
use Rattle.td_path.specs.declared.slot.Slot.{Slot}
use Rattle.td_op.specs.declared.body.Body.TheVariants.{Insert}
use Rattle.td_op.specs.Op.{OpValue, named_atom}
use Rattle.td_doc.specs.Document.{DocRow, row_id}
use Rattle.td_doc.specs.Slots.{own_slot, is_empty_slot}
use Rattle.td_machine.specs.History.{Family, IsOpOf}
use Rattle.td_machine.specs.Replay.{doc_of}
use Rattle.td_law_logs.specs.Logs.{IsLogOf, base, slot_of}
use Rattle.td_law_logs.specs.Places.{slot_holds, at, is_edit, written_by, IsMiddle, birth}
use Rattle.td_order.specs.Show.{deletes}

-- the atom that an edit names is a row where the edit comes, with the path that it had where the edit was made
abbrev pub EditsMeet : Family → Type 0
EditsMeet family =
    (o : OpValue) (log : List OpValue) → IsLogOf family (o ∷ log) → is_edit o.body ≡ true
    → (z : AtomIdValue) → named_atom o.body ≡ Some z
    → (path : Pairs) × (at log z ≡ Some path) × (at (base family o) z ≡ Some path)

-- the slot has the rows, with the paths and the deletes, that it had where the commit's proposal was made
pub record MeetsSlot (family : Family) (slot : Slot) (c : OpValue) (log : List OpValue) : Type 0 where
  pub rows : (x : AtomIdValue) (path : Pairs) → slot_holds slot path ≡ true
      → (at log x ≡ Some path) ↔ (at (base family c) x ≡ Some path)
  pub deletes : (x : AtomIdValue) (path : Pairs) → slot_holds slot path ≡ true → at log x ≡ Some path
      → (d : OpValue) → deletes x d.body ≡ true → In d log ↔ In d (base family c)

-- where a commit comes, it finds in its slot what its proposer had there
abbrev pub CommitsMeet : Family → Type 0
CommitsMeet family =
    (c : OpValue) (log : List OpValue) (slot : Slot) → IsLogOf family (c ∷ log) → slot_of family c ≡ Some slot
    → MeetsSlot family slot c log

-- when an insert is made, its slot has no row
abbrev pub InsertsFindSlotsEmpty : Family → Type 0
InsertsFindSlotsEmpty family =
    (a : OpValue) (slot : Slot) (run : List (List ℕ)) → IsOpOf family a → a.body ≡ Insert slot run
    → is_empty_slot (doc_of (base family a)) slot ≡ true

-- y is the middle atom of an insert in the log that wrote the slot, and that the maker of a did not know
pub record IsSibling (family : Family) (a : OpValue) (slot : Slot) (log : List OpValue) (y : AtomIdValue) : Type 0 where
  pub ins : OpValue
  pub inside : In ins log
  pub wrote : written_by ins.body ≡ Some slot
  pub apart : In ins (base family a) → ⊥
  pub middle : IsMiddle ins y

-- where an insert comes, the rows that stand right in its slot are those middle atoms, each where its insert put it
abbrev pub SiblingsMeet : Family → Type 0
SiblingsMeet family =
    (a : OpValue) (log : List OpValue) (slot : Slot) → IsLogOf family (a ∷ log) → written_by a.body ≡ Some slot
    → ((r : DocRow) → In r (doc_of log) → own_slot r ≡ slot → IsSibling family a slot log (row_id r))
    × ((y : AtomIdValue) → IsSibling family a slot log y
    → (r : DocRow) × In r (doc_of log) × (row_id r ≡ y) × (own_slot r ≡ slot) × (birth family y ≡ Some r.path))
