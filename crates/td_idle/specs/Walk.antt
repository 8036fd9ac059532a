-- The largest candidates on one side of a row, and the walk over the rows that finds them.
use Rattle.std.specs.Prelude.{◌≡◌, ◌⊎◌, ◌<◌, ◌+◌, ◌-◌, ◌++◌, ℕ, List, [], ◌∷◌, Bool, true, false, ◌&&◌, not, map}
use Rattle.std.specs.Prelude.{reverse, slice_get, if◌then◌else◌, Option, Some, None}
use Rattle.td_base.specs.declared.bit.Bit.{Bit}
use Rattle.td_base.specs.declared.bit.Bit.TheVariants.{Left, Right}
use Rattle.td_base.specs.Equality.{same_id}
use Rattle.td_base.specs.Lists.{In}
use Rattle.td_base.specs.Value.{AtomIdValue}
use Rattle.td_path.specs.declared.slot.Slot.{Slot}
use Rattle.td_path.specs.declared.slot.Slot.TheVariants.{At}
use Rattle.td_doc.specs.Document.{DocRow, row_id}
use Rattle.td_doc.specs.Slots.{is_empty_slot, is_within, contains_slot}
use Rattle.td_machine.specs.Machine.{Machine}
use Rattle.td_idle.specs.declared.walk.Walk.{Walk}
use Rattle.td_idle.specs.Best.{row_count}
use Rattle.td_idle.specs.Candidate.{is_held_over, is_candidate}
use Rattle.td_idle.specs.Unknown.{unknown_ids}

-- one of the tops contains the slot
abbrev pub HasTop : List DocRow → List Slot → Slot → Type 0
HasTop rows tops t = (s : Slot) × In s tops × (contains_slot rows s t ≡ true)

-- candidates, one of which contains each candidate that has an atom
pub record AreTops (m : Machine) (tops : List Slot) : Type 0 where
  pub candidates : (t : Slot) → In t tops → is_candidate m t ≡ true
  pub all : (x : AtomIdValue) (bit : Bit) → is_candidate m (At x bit) ≡ true → HasTop m.doc tops (At x bit)

-- the same of those on one side of an atom
pub record AreTopsOn (m : Machine) (bit : Bit) (tops : List Slot) : Type 0 where
  pub candidates : (t : Slot) → In t tops → is_candidate m t ≡ true
  pub all : (x : AtomIdValue) → is_candidate m (At x bit) ≡ true → HasTop m.doc tops (At x bit)

-- ---- the walk

-- the rows in the order in which those on that side of a row come right behind it
abbrev pub along : Bit → List DocRow → List DocRow
along Left rows = reverse rows
along Right rows = rows

-- the identities of the rows, and those of the unknown ones
pub record IsListed (v : List ℕ) (rows : List DocRow) (ids unknown : List AtomIdValue) : Type 0 where
  pub all : ids ≡ map row_id rows
  pub some : unknown ≡ unknown_ids v rows

abbrev pub is_id : AtomIdValue → Option AtomIdValue → Bool
is_id x None = false
is_id x (Some y) = same_id y x

-- the walk behind the row x, which may be the next of the unknown rows
abbrev pub walk_on : List AtomIdValue → AtomIdValue → Walk → Walk
walk_on unknown x w = record {
  passed = if is_id x (slice_get unknown w.passed) then w.passed + 1 else w.passed;
  inside = w.inside - 1;
}

abbrev pub is_one_within : List DocRow → Option AtomIdValue → Slot → Bool
is_one_within rows None slot = false
is_one_within rows (Some x) slot = is_within rows x slot

-- whether the slot has rows, the unknown row is not among them, and no held slot overlaps it
abbrev pub is_free_beside : Machine → Option AtomIdValue → Slot → Bool
is_free_beside m unknown slot =
    not (is_empty_slot m.doc slot) && not (is_one_within m.doc unknown slot) && not (is_held_over m slot)

-- the slot was put behind the tops, exactly where it is free; and so many of the next rows are in it
pub record IsAdded (m : Machine) (unknown : Option AtomIdValue) (slot : Slot) (old new : List Slot) (inside : ℕ)
    : Type 0 where
  pub top : new ≡ old ++ (if is_free_beside m unknown slot then slot ∷ [] else [])
  pub many : inside ≡ (if is_free_beside m unknown slot then row_count m.doc slot else 0)

-- a row was passed: its side was added, unless it is in a top
pub record IsPassed (m : Machine) (unknown : List AtomIdValue) (x : AtomIdValue) (bit : Bit) (old new : Walk)
    (tops more : List Slot) : Type 0 where
  pub passed : new.passed ≡ (walk_on unknown x old).passed
  pub side : ((0 < old.inside) × (new.inside ≡ old.inside - 1) × (more ≡ tops))
      ⊎ IsAdded m (slice_get unknown new.passed) (At x bit) tops more new.inside
