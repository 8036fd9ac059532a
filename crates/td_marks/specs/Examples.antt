-- A worked example: site 1 marked "ab" with the name 3; site 2, which had not seen that, typed x between; then site 2
-- removed the name from b, while site 1 added it to b once more.
use Rattle.std.specs.Prelude.{ℕ, List, [], ◌∷◌, ◌++◌, Bool, true, false, codes}
use Rattle.td_base.specs.Value.{AtomIdValue}
use Rattle.td_base.specs.declared.bit.Bit.TheVariants.{Right}
use Rattle.td_doc.specs.Document.{DocRow}
use Rattle.td_marks.specs.Mark.{MarkOpValue}
use Rattle.td_marks.specs.declared.piece.Piece.{Piece}

abbrev pub atom_id : ℕ → ℕ → AtomIdValue
atom_id site seq = record { dot = record { site = site; seq = seq }; offset = 0 }

abbrev pub live_row : ℕ → ℕ → List ℕ → DocRow
live_row site seq atom = record { path = (Right, atom_id site seq) ∷ []; atom = atom; deletes = [] }

abbrev pub rows : List DocRow
rows = live_row 1 1 (codes "a") ∷ live_row 2 1 (codes "x") ∷ live_row 1 2 (codes "b") ∷ []

abbrev pub op : ℕ → ℕ → List ℕ → Bool → List AtomIdValue → MarkOpValue
op site seq seen add atoms = record {
  dot = record { site = site; seq = seq };
  seen = seen;
  add = add;
  name = 3;
  atoms = atoms;
}

abbrev pub marked : List MarkOpValue
marked = op 1 1 (0 ∷ 0 ∷ []) true (atom_id 1 1 ∷ atom_id 1 2 ∷ []) ∷ []

abbrev pub removed : List MarkOpValue
removed = marked ++ op 2 1 (1 ∷ 0 ∷ []) false (atom_id 1 2 ∷ []) ∷ []

abbrev pub added_beside : List MarkOpValue
added_beside = removed ++ op 1 2 (1 ∷ 0 ∷ []) true (atom_id 1 2 ∷ []) ∷ []

-- the name 3 alone is the bit 8
abbrev pub piece : List ℕ → ℕ → Piece
piece text names = record { text = text; names = names }
