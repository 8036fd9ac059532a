-- Arrays: wherever the slot is, the rows stand below it in one way, and hang at its atoms alone.
use Rattle.std.proofs.Common.{◌≡◌, ◌≤◌, ℕ, List, [], ◌∷◌, map, length, refl, ap, ◌∙◌}
use Rattle.td_path.specs.declared.slot_path.SlotPath.{SlotPath}
use Rattle.td_doc.specs.Document.{DocRow, row_id}
use Rattle.td_doc.specs.Array.{named, array_upto}
use Rattle.td_base.specs.RunAtoms.{NamedAtom}
use Rattle.td_doc.proofs.ArrayRows.{array_named}

-- the rows have the identities of the atoms

ids_by_name : (rows : List DocRow) → map row_id rows ≡ map (λ (a : NamedAtom). a.id) (map named rows)
ids_by_name [] = refl
ids_by_name (r ∷ rows) = ap (λ z. row_id r ∷ z) (ids_by_name rows)

pub array_ids : (n : ℕ) (slot : SlotPath) (atoms : List NamedAtom) → length atoms ≤ n
    → map row_id (array_upto n slot atoms) ≡ map (λ (a : NamedAtom). a.id) atoms
array_ids n slot atoms h = ids_by_name (array_upto n slot atoms)
    ∙ ap (map (λ (a : NamedAtom). a.id)) (array_named n slot atoms h)
