-- How rows are kept: as they came, each with its atom, where that is short, and the first delete that named it, and
-- beside them the longer atoms and all deletes of those that several named.
use Rattle.std.specs.Prelude.{◌≡◌, ◌≤◌, ◌+◌, ℕ, suc, List, [], ◌∷◌, length, Option, None}
use Rattle.std.specs.BTreeMap.{BTreeMap, get}
use Rattle.std.specs.List.{AllByRecursion}
use Rattle.std.specs.Option.{unwrap_or}
use Rattle.std.specs.Ordering.{nat_cmp}
use Rattle.td_base.specs.Value.{DotValue}
use Rattle.td_brackets.specs.Brackets.{Entry}
use Rattle.td_tree.specs.Deletes.{first_dots}
use Rattle.td_tree.specs.RowAtom.{atom_from, IsFrom}
use Rattle.td_tree.specs.declared.row_atom.TheConstants.{MOST_LONG}
use Rattle.td_tree.specs.declared.tree_row.TreeRow.{TreeRow}

-- the entries of rows by number, how many longer atoms are kept beside them, and for how many more there is room
pub record Column : Type 0 where
  pub entries : List Entry
  pub long : ℕ
  pub room : ℕ

-- the entries of rows that are to come, the number that the first of their longer atoms gets, and for how many more
-- there is room
pub record Coming : Type 0 where
  pub entries : List Entry
  pub first : ℕ
  pub room : ℕ

-- all deletes of a row, where several named it
abbrev pub several_at : BTreeMap ℕ (List DotValue) → ℕ → Option (List DotValue)
several_at several row = get nat_cmp several row

-- the deletes of a row: those beside it, and else what it has itself
abbrev pub deletes_of : Option (List DotValue) → Option DotValue → List DotValue
deletes_of several first = unwrap_or several (first_dots first)

abbrev pub entry_with : ℕ → List (List ℕ) → Option (List DotValue) → TreeRow → Entry
entry_with first long several row =
    record { id = row.id; atom = atom_from first long row.atom; deletes = deletes_of several row.deleted }

-- rows from a number on, each with the deletes beside it, and with the longer atoms by their numbers from the first on
abbrev pub entries_from : ℕ → List (List ℕ) → (ℕ → Option (List DotValue)) → ℕ → List TreeRow → List Entry
entries_from first long several n [] = []
entries_from first long several n (row ∷ rows) =
    entry_with first long (several n) row ∷ entries_from first long several (suc n) rows

-- no row from a number on has deletes beside it
abbrev pub AreNoneFrom : ℕ → (ℕ → Option (List DotValue)) → Type 0
AreNoneFrom n several = (r : ℕ) → n ≤ r → several r ≡ None

-- each row finds its atom, no row that is to come has deletes beside it, and the longer atoms have numbers
pub record IsColumn (first : ℕ) (rows : List TreeRow) (long : List (List ℕ)) (several : ℕ → Option (List DotValue))
    : Type 0 where
  pub found : AllByRecursion (λ (row : TreeRow). IsFrom first (length long) row.atom) rows
  pub beside : AreNoneFrom (length rows) several
  pub fewer : length long ≤ length rows
  pub few : first + length long ≤ MOST_LONG
