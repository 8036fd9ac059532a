-- Which rows have something done to them that a vector does not have.
use Rattle.std.specs.Prelude.{ℕ, List, [], Bool, ◌&&◌, not, filter, map, Option, Some, None}
use Rattle.std.specs.List.{list_all}
use Rattle.td_base.specs.Value.{DotValue, AtomIdValue}
use Rattle.td_clock.specs.Vector.{vector_has}
use Rattle.td_doc.specs.Document.{DocRow, row_id, find_row}
use Rattle.td_doc.specs.Slots.{is_known_row}

abbrev pub deletes_of : Option DocRow → List DotValue
deletes_of None = []
deletes_of (Some r) = r.deletes

-- whether the vector has the dot of the identity, and those of the deletes of its row
abbrev pub is_known_id : List ℕ → List DocRow → AtomIdValue → Bool
is_known_id v rows x = vector_has v x.dot && list_all (vector_has v) (deletes_of (find_row x rows))

-- the rows to which something was done that the vector does not have, in their order
abbrev pub unknown_rows : List ℕ → List DocRow → List DocRow
unknown_rows v rows = filter (λ (r : DocRow). not (is_known_row v r)) rows

abbrev pub unknown_ids : List ℕ → List DocRow → List AtomIdValue
unknown_ids v rows = map row_id (unknown_rows v rows)
