-- The text of a document, and its rows.
use Rattle.std.specs.Prelude.{ℕ, List, [], ◌∷◌, ◌++◌, codes, length, Option, Some, None}
use Rattle.std.specs.List.{flat_map}
use Rattle.td_base.specs.Value.{DotValue}
use Rattle.td_doc.specs.Document.{DocRow, row_id}
use Rattle.td_doc.specs.Slots.{own_slot}
use Rattle.td_script.specs.Characters.{line_feed}
use Rattle.td_script.specs.Spelling.{spaced, spaced_dot}
use Rattle.td_report.specs.Parts.{identity, line, spaced_quoted, spaced_slot}

abbrev pub show_line : ℕ → List ℕ → List ℕ
show_line site text = line (codes "show") site (spaced_quoted text)

-- the deletes of a tombstone, in the order of their dots; nothing for a live row
abbrev pub deletes_part : List DotValue → List ℕ
deletes_part [] = []
deletes_part (d ∷ dots) = codes " dead" ++ flat_map spaced_dot (d ∷ dots)

-- the identity of a row, its own slot, its atom and its deletes
abbrev pub row_line : DocRow → List ℕ
row_line r =
    identity (row_id r)
    ++ (spaced_slot (own_slot r) ++ (spaced_quoted r.atom ++ (deletes_part r.deletes ++ line_feed ∷ [])))

-- the delete dots of a row that may be missing
abbrev pub deletes_of : Option DocRow → List DotValue
deletes_of None = []
deletes_of (Some r) = r.deletes

-- how many rows there are, and a line for each
abbrev pub tree_lines : ℕ → List DocRow → List ℕ
tree_lines site rows = line (codes "tree") site (spaced (length rows)) ++ flat_map row_line rows
