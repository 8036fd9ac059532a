-- The rows of the root slot are all.
use Rattle.std.proofs.Common.{◌≡◌, List, [], ◌∷◌, refl, ap}
use Rattle.std.specs.Option.{is_some}
use Rattle.td_base.specs.Value.{AtomIdValue}
use Rattle.td_path.specs.declared.slot.Slot.TheVariants.{Root}
use Rattle.td_doc.specs.Document.{DocRow, find_row}
use Rattle.td_doc.specs.Slots.{rows_in_slot, is_within}
use Rattle.td_doc.specs.Answers.{is_row}

pub all_in_root : (rows : List DocRow) → rows_in_slot rows Root ≡ rows
all_in_root [] = refl
all_in_root (r ∷ rows) = ap (λ (rest : List DocRow). r ∷ rest) (all_in_root rows)

pub within_root : (rows : List DocRow) (x : AtomIdValue) → is_within rows x Root ≡ is_row rows x
within_root rows x = ap (λ (k : List DocRow). is_some (find_row x k)) (all_in_root rows)
