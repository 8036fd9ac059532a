-- The atoms that are put in a slot are rows in it.
use Rattle.std.proofs.Common.{◌≡◌, ℕ, List, [], ◌∷◌, true, refl, sym, ap, ◌∙◌, subst, inl, inr, true≢false}
use Rattle.std.specs.Prelude.{IsNone, IsSome, IsTrue, is_some, Option, Some, None}
use Rattle.std.specs.Option.{option_map}
use Rattle.td_base.specs.declared.bit.Bit.{Bit}
use Rattle.td_base.specs.Value.{DotValue, AtomIdValue}
use Rattle.td_base.specs.Lists.{In}
use Rattle.td_base.proofs.Lists.{map_In}
use Rattle.td_path.specs.declared.slot.Slot.{Slot}
use Rattle.td_path.specs.declared.slot.Slot.TheVariants.{Root, At}
use Rattle.td_path.specs.declared.slot_path.SlotPath.{SlotPath}
use Rattle.td_path.specs.declared.slot_path.SlotPath.TheVariants.{Root as Whole, Below}
use Rattle.td_doc.specs.Document.{DocRow, find_row, IsDocument}
use Rattle.td_doc.specs.Slots.{rows_below, is_within}
use Rattle.td_doc.specs.Array.{named, array}
use Rattle.td_base.specs.RunAtoms.{NamedAtom, run_atoms}
use Rattle.td_doc.specs.Insertion.{put_rows, put_array_below, insert_atom, insert_run}
use Rattle.td_doc.specs.Answers.{IsFresh, is_rooted}
use Rattle.td_doc.proofs.PutRows.{puts_in}
use Rattle.td_doc.proofs.ArrayRows.{array_names}
use Rattle.td_doc.proofs.Placement.{put_array, atom_is_array}
use Rattle.td_doc.proofs.Rules.{found, insert_keeps, run_keeps}
use Rattle.td_doc.proofs.SlotRows.{contained_in}
use Rattle.td_doc.proofs.SubtreeRows.{find_in, within_is}

-- a new row is in the slot
there_at : (slot : SlotPath) (atoms : List NamedAtom) (rows : List DocRow) (a : NamedAtom)
    → IsDocument (put_rows (array slot atoms) rows) → In a atoms
    → is_some (find_row a.id (rows_below (put_rows (array slot atoms) rows) (Some slot))) ≡ true
there_at slot atoms rows a d i =
    let n = map_In named a (array slot atoms) (subst (In a) (sym (array_names slot atoms)) i) in
    ap (λ (b : NamedAtom). is_some (find_row b.id (rows_below (put_rows (array slot atoms) rows) (Some slot)))) n.2
    ∙ within_is (put_rows (array slot atoms) rows) slot n.0 d.apart (puts_in (array slot atoms) rows n.0 (inl n.1))
    ∙ contained_in slot atoms n.0 n.1

below_at : (x : AtomIdValue) (bit : Bit) (atoms : List NamedAtom) (rows : List DocRow) (a : NamedAtom)
    (o : Option DocRow) → find_row x rows ≡ o → IsSome o
    → IsDocument (put_array_below (option_map (λ (r : DocRow). Below r.path bit) o) atoms rows) → In a atoms
    → is_within (put_array_below (option_map (λ (r : DocRow). Below r.path bit) o) atoms rows) a.id (At x bit) ≡ true
below_at x bit atoms rows a None e some d i = absurd (true≢false (sym some))
below_at x bit atoms rows a (Some r) e some d i =
    let new : List DocRow = put_rows (array (Below r.path bit) atoms) rows in
    let f = found x r rows e in
    let still : find_row x new ≡ Some r = ap (λ (y : AtomIdValue). find_row y new) (sym f.1)
    ∙ find_in new r d.apart (puts_in (array (Below r.path bit) atoms) rows r (inr f.0)) in
    ap (λ (p : Option DocRow). is_some (find_row a.id
    (rows_below new (option_map (λ (q : DocRow). Below q.path bit) p)))) still
    ∙ there_at (Below r.path bit) atoms rows a d i

array_there : (rows : List DocRow) (slot : Slot) (atoms : List NamedAtom) (a : NamedAtom)
    → IsTrue (is_rooted rows slot) → IsDocument (put_array slot atoms rows) → In a atoms
    → is_within (put_array slot atoms rows) a.id slot ≡ true
array_there rows Root atoms a rooted d i = there_at Whole atoms rows a d i
array_there rows (At x bit) atoms a rooted d i = below_at x bit atoms rows a (find_row x rows) refl rooted d i

pub run_there : (rows : List DocRow) (slot : Slot) (dot : DotValue) (run : List (List ℕ)) (a : NamedAtom)
    → IsDocument rows → IsFresh rows dot → IsTrue (is_rooted rows slot) → In a (run_atoms dot run)
    → is_within (insert_run slot dot run rows) a.id slot ≡ true
run_there rows slot dot run a d new rooted i =
    array_there rows slot (run_atoms dot run) a rooted (run_keeps rows slot dot run d new rooted) i

pub insert_there : (rows : List DocRow) (slot : Slot) (id : AtomIdValue) (atom : List ℕ) → IsDocument rows
    → IsNone (find_row id rows) → IsTrue (is_rooted rows slot) → is_within (insert_atom slot id atom rows) id slot
    ≡ true
insert_there rows slot id atom d new rooted =
    let one : NamedAtom = record { id = id; atom = atom } in
    ap (λ (q : List DocRow). is_within q id slot) (atom_is_array slot id atom rows)
    ∙ array_there rows slot (one ∷ []) one rooted (subst IsDocument (atom_is_array slot id atom rows)
    (insert_keeps rows slot id atom d new rooted)) (inl refl)
