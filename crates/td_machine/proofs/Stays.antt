-- Rows that stay with their paths, and the slots at them.
use Rattle.std.proofs.Common.{◌≡◌, ◌||◌, ℕ, List, Bool, true, false, if◌then◌else◌, map}
use Rattle.std.proofs.Common.{Option, Some, None, refl, sym, ap, ◌∙◌, inr}
use Rattle.std.specs.Option.{option_map, is_some}
use Rattle.std.proofs.lemmas.Bool.{or_parts}
use Rattle.td_base.specs.declared.bit.Bit.{Bit}
use Rattle.td_base.specs.Value.{DotValue, AtomIdValue}
use Rattle.td_base.specs.Lists.{In}
use Rattle.td_base.proofs.Lists.{In-map}
use Rattle.td_path.specs.SlotPaths.{slot_contains, goes_on}
use Rattle.td_path.specs.declared.slot.Slot.{Slot}
use Rattle.td_path.specs.declared.slot.Slot.TheVariants.{Root, At}
use Rattle.td_path.specs.declared.slot_path.SlotPath.{SlotPath}
use Rattle.td_path.specs.declared.slot_path.SlotPath.TheVariants.{Root as Whole, Below}
use Rattle.td_doc.specs.Document.{DocRow, row_id, IsDocument, find_row, live_rows, has_id}
use Rattle.td_doc.specs.Slots.{slot_path, rows_below, is_within, is_atom_within, contains_slot, overlaps}
use Rattle.td_path.specs.Slot.{same_slot, is_root}
use Rattle.td_doc.specs.Array.{named, array}
use Rattle.td_base.specs.RunAtoms.{run_atoms}
use Rattle.td_doc.specs.Insertion.{put_array_below, insert_run}
use Rattle.td_doc.specs.Deletion.{delete, mark_deleted, add_dot}
use Rattle.td_doc.specs.Flatten.{rows_beside, flatten_below, flatten}
use Rattle.td_doc.proofs.PutRows.{puts_in}
use Rattle.td_doc.proofs.Rules.{found}
use Rattle.td_doc.proofs.Flattened.{stays_beside, flatten_document}
use Rattle.td_doc.proofs.SubtreeRows.{find_in, within_is}
use Rattle.td_doc.specs.Answers.{is_rooted}
use Rattle.td_base.proofs.Elements.{some_of}

-- the row x is there afterwards, with its path
abbrev pub Stays : List DocRow → List DocRow → AtomIdValue → Type 0
Stays rows after x =
    (r : DocRow) → find_row x rows ≡ Some r → (s : DocRow) × (find_row x after ≡ Some s) × (s.path ≡ r.path)

there : (rows after : List DocRow) (x : AtomIdValue) (r s : DocRow) → IsDocument after → find_row x rows ≡ Some r
    → In s after → row_id s ≡ row_id r → s.path ≡ r.path
    → (t : DocRow) × (find_row x after ≡ Some t) × (t.path ≡ r.path)
there rows after x r s d e i id path =
    (s, ap (λ (y : AtomIdValue). find_row y after) (sym (id ∙ (found x r rows e).1)) ∙ find_in after s d.apart i, path)

pub insert_stays : (slot : Slot) (dot : DotValue) (run : List (List ℕ)) (rows : List DocRow)
    → IsDocument (insert_run slot dot run rows) → (x : AtomIdValue) → Stays rows (insert_run slot dot run rows) x
insert_stays slot dot run rows d x r e =
    there rows (insert_run slot dot run rows) x r r d e (kept (slot_path rows slot)) refl refl
  where
    kept : (o : Option SlotPath) → In r (put_array_below o (run_atoms dot run) rows)
    kept None = (found x r rows e).0
    kept (Some s) = puts_in (array s (run_atoms dot run)) rows r (inr (found x r rows e).0)

pub delete_stays : (y : AtomIdValue) (by : DotValue) (rows : List DocRow) → IsDocument (delete y by rows)
    → (x : AtomIdValue) → Stays rows (delete y by rows) x
delete_stays y by rows d x r e =
    there rows (delete y by rows) x r (mark_deleted y by r) d e (In-map (mark_deleted y by) r rows (found x r rows e).0)
    (same_id (has_id y r)) (same_path (has_id y r))
  where
    same_id : (b : Bool)
        → row_id (if b then record { path = r.path; atom = r.atom; deletes = add_dot by r.deletes } else r) ≡ row_id r
    same_id true = refl
    same_id false = refl

    same_path : (b : Bool)
        → (if b then record { path = r.path; atom = r.atom; deletes = add_dot by r.deletes } else r).path ≡ r.path
    same_path true = refl
    same_path false = refl

-- a row is within a slot where its path is
within_at : (rows : List DocRow) → IsDocument rows → (slot : Slot) (path : SlotPath) (x : AtomIdValue) (s : DocRow)
    → slot_path rows slot ≡ Some path → find_row x rows ≡ Some s → is_within rows x slot ≡ slot_contains path s.path
within_at rows d slot path x s k e =
    let f = found x s rows e in
    ap (λ (o : Option SlotPath). is_some (find_row x (rows_below rows o))) k
    ∙ (ap (λ (y : AtomIdValue). is_some (find_row y (rows_below rows (Some path)))) (sym f.1)
    ∙ within_is rows path s d.apart f.0)

-- a flatten leaves a row that is not in the slot
pub flatten_stays : (slot : Slot) (rows : List DocRow) → IsDocument rows → (x : AtomIdValue)
    → is_within rows x slot ≡ false → Stays rows (flatten slot rows) x
flatten_stays slot rows d x out r e =
    there rows (flatten slot rows) x r r (flatten_document rows slot d) e (kept (slot_path rows slot) refl) refl refl
  where
    kept : (o : Option SlotPath) → slot_path rows slot ≡ o → In r (flatten_below o rows)
    kept None k = (found x r rows e).0
    kept (Some s) k =
        puts_in (array s (map named (live_rows (rows_below rows (Some s))))) (rows_beside s rows) r
        (inr (stays_beside s rows r (found x r rows e).0 (sym (within_at rows d slot s x r k e) ∙ out)))

-- ---- slots at rows

-- the atom of the slot, where it has one, stays
abbrev pub SlotStays : List DocRow → List DocRow → Slot → Type 0
SlotStays rows after Root = Unit {0}
SlotStays rows after (At x bit) = Stays rows after x

pub rooted_stays : (rows after : List DocRow) (s : Slot) → is_rooted rows s ≡ true → SlotStays rows after s
    → is_rooted after s ≡ true
rooted_stays rows after Root h k = refl
rooted_stays rows after (At x bit) h k = let r = some_of (find_row x rows) h in ap is_some (k r.0 r.1).1

path_at : (rows : List DocRow) (x : AtomIdValue) (bit : Bit) (r : DocRow) → find_row x rows ≡ Some r
    → slot_path rows (At x bit) ≡ Some (Below r.path bit)
path_at rows x bit r e = ap (λ (o : Option DocRow). option_map (λ (q : DocRow). Below q.path bit) o) e

within_same : (rows after : List DocRow) → IsDocument rows → IsDocument after → (s : Slot) (y : AtomIdValue)
    → is_rooted rows s ≡ true → is_some (find_row y rows) ≡ true → SlotStays rows after s → Stays rows after y
    → is_within after y s ≡ is_within rows y s
within_same rows after d e Root y h k f g =
    let r = some_of (find_row y rows) k in
    let q = g r.0 r.1 in
    within_at after e Root Whole y q.0 refl q.1 ∙ sym (within_at rows d Root Whole y r.0 refl r.1)
within_same rows after d e (At x bit) y h k f g =
    let z = some_of (find_row x rows) h in
    let w = f z.0 z.1 in
    let r = some_of (find_row y rows) k in
    let q = g r.0 r.1 in
    within_at after e (At x bit) (Below w.0.path bit) y q.0 (path_at after x bit w.0 w.1) q.1
    ∙ ((λ i. goes_on (w.2 i) bit (q.2 i))
    ∙ sym (within_at rows d (At x bit) (Below z.0.path bit) y r.0 (path_at rows x bit z.0 z.1) r.1))

atom_same : (rows after : List DocRow) → IsDocument rows → IsDocument after → (s t : Slot) → is_rooted rows s ≡ true
    → is_rooted rows t ≡ true → SlotStays rows after s → SlotStays rows after t
    → is_atom_within after s t ≡ is_atom_within rows s t
atom_same rows after d e s Root h k f g = refl
atom_same rows after d e s (At y side) h k f g = within_same rows after d e s y h k f g

-- two slots whose atoms stay overlap afterwards where they did before
pub overlap_same : (rows after : List DocRow) → IsDocument rows → IsDocument after → (s t : Slot)
    → is_rooted rows s ≡ true → is_rooted rows t ≡ true → SlotStays rows after s → SlotStays rows after t
    → overlaps after s t ≡ overlaps rows s t
overlap_same rows after d e s t h k f g =
    λ i. (same_slot s t || is_root s || atom_same rows after d e s t h k f g i)
    || (same_slot t s || is_root t || atom_same rows after d e t s k h g f i)

-- where two slots do not overlap, a flatten of the one leaves the atom of the other
pub apart_stays : (rows : List DocRow) → IsDocument rows → (s t : Slot) → overlaps rows s t ≡ false
    → SlotStays rows (flatten s rows) t
apart_stays rows d s Root o = tt
apart_stays rows d s (At y side) o =
    let one = (or_parts (contains_slot rows s (At y side)) (contains_slot rows (At y side) s) o).0 in
    flatten_stays s rows d y
    (or_parts (same_slot s (At y side) || is_root s) (is_atom_within rows s (At y side))
    (left_first (same_slot s (At y side)) (is_root s) (is_atom_within rows s (At y side)) one)).1
  where
    left_first : (a b c : Bool) → (a || b || c) ≡ false → ((a || b) || c) ≡ false
    left_first true b c h = h
    left_first false b c h = h
