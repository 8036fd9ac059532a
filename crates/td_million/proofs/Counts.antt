-- How many rows there are after an insert.
use Rattle.std.proofs.Common.{◌≡◌, ◌+◌, ℕ, suc, List, [], ◌∷◌, Bool, true, false, cond, length}
use Rattle.std.proofs.Common.{map, Option, Some, None, refl, ap, ◌∙◌, arith}
use Rattle.std.specs.Prelude.{IsTrue, IsSome}
use Rattle.std.specs.Option.{option_map}
use Rattle.std.specs.Ordering.{is_lt}
use Rattle.td_base.specs.Value.{DotValue}
use Rattle.td_base.specs.declared.bit.Bit.{Bit}
use Rattle.td_base.specs.RunAtoms.{run_atoms_from, run_atoms}
use Rattle.td_path.specs.Infix.{path_cmp}
use Rattle.td_path.specs.declared.slot.Slot.{Slot}
use Rattle.td_path.specs.declared.slot.Slot.TheVariants.{Root, At}
use Rattle.td_path.specs.declared.slot_path.SlotPath.{SlotPath}
use Rattle.td_path.specs.declared.slot_path.SlotPath.TheVariants.{Below}
use Rattle.td_doc.specs.Document.{DocRow, find_row}
use Rattle.td_doc.specs.Array.{array}
use Rattle.td_doc.specs.Insertion.{put_row, put_rows, put_array_below, insert_run}
use Rattle.td_doc.specs.Answers.{is_rooted}
use Rattle.td_doc.proofs.ArrayPlaces.{length_array}

one_more_at : (n r : DocRow) (rows : List DocRow) (b : Bool) → length (put_row n rows) ≡ suc (length rows)
    → length (cond b (n ∷ r ∷ rows) (r ∷ put_row n rows)) ≡ suc (suc (length rows))
one_more_at n r rows true ih = refl
one_more_at n r rows false ih = ap suc ih

one_more : (n : DocRow) (rows : List DocRow) → length (put_row n rows) ≡ suc (length rows)
one_more n [] = refl
one_more n (r ∷ rows) = one_more_at n r rows (is_lt (path_cmp n.path r.path)) (one_more n rows)

more : (new rows : List DocRow) → length (put_rows new rows) ≡ length rows + length new
more [] rows = omega arith
more (n ∷ new) rows = omega (arith, more new (put_row n rows), one_more n rows)

named : (dot : DotValue) (offset : ℕ) (run : List (List ℕ)) → length (run_atoms_from dot offset run) ≡ length run
named dot offset [] = refl
named dot offset (atom ∷ run) = ap suc (named dot (suc offset) run)

in_slot : (slot : SlotPath) (dot : DotValue) (run : List (List ℕ)) (rows : List DocRow)
    → length (put_rows (array slot (run_atoms dot run)) rows) ≡ length rows + length run
in_slot slot dot run rows = more (array slot (run_atoms dot run)) rows
    ∙ ap (λ (n : ℕ). length rows + n) (length_array slot (run_atoms dot run) ∙ named dot 0 run)

below : (o : Option DocRow) (bit : Bit) (dot : DotValue) (run : List (List ℕ)) (rows : List DocRow) → IsSome o
    → length (put_array_below (option_map (λ (r : DocRow). Below r.path bit) o) (run_atoms dot run) rows)
    ≡ length rows + length run
below None bit dot run rows some = absurd (cc some)
below (Some r) bit dot run rows some = in_slot (Below r.path bit) dot run rows

pub rows_more : (slot : Slot) (dot : DotValue) (run : List (List ℕ)) (rows : List DocRow) → IsTrue (is_rooted rows slot)
    → length (insert_run slot dot run rows) ≡ length rows + length run
rows_more Root dot run rows rooted = in_slot _ dot run rows
rows_more (At x bit) dot run rows rooted = below (find_row x rows) bit dot run rows rooted

pub rows_kept : {X Y : Type 0} (f : X → Y) (xs : List X) → length (map f xs) ≡ length xs
rows_kept f [] = refl
rows_kept f (x ∷ xs) = ap suc (rows_kept f xs)
