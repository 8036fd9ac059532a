-- The rows that tokens mean, by their numbers, and what is kept of a row besides its place.
use Rattle.std.specs.Prelude.{◌++◌, ℕ, List, [], ◌∷◌, Bool, ◌&&◌, if◌then◌else◌, Option, Some, None}
use Rattle.std.specs.List.{list_all}
use Rattle.td_clock.specs.Vector.{vector_has}
use Rattle.td_doc.specs.Document.{DocRow, row_id, is_empty_list}
use Rattle.td_brackets.specs.Brackets.{Token, Open, Atom, Close, Leaf, Entry}

-- the rows of a token, in their order
abbrev pub row_numbers_at : Token → List ℕ
row_numbers_at (Open r) = []
row_numbers_at (Atom r) = r ∷ []
row_numbers_at (Close r) = []
row_numbers_at (Leaf rs) = rs

abbrev pub row_numbers : List Token → List ℕ
row_numbers [] = []
row_numbers (t ∷ tokens) = row_numbers_at t ++ row_numbers tokens

-- a row without its path
abbrev pub entry_of : DocRow → Entry
entry_of r = record { id = row_id r; atom = r.atom; deletes = r.deletes }

-- whether the vector has all that was done to a row
abbrev pub is_known_entry : List ℕ → Entry → Bool
is_known_entry v e = vector_has v e.id.dot && list_all (vector_has v) e.deletes

abbrev pub first_number : List ℕ → Option ℕ
first_number [] = None
first_number (r ∷ rs) = Some r

-- the text of the live ones
abbrev pub text_of_numbers : (ℕ → Entry) → List ℕ → List ℕ
text_of_numbers table [] = []
text_of_numbers table (r ∷ numbers) =
    (if is_empty_list (table r).deletes then (table r).atom else []) ++ text_of_numbers table numbers
