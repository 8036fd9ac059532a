-- Deletes: a row that a delete names keeps its place as a tombstone, with the dots of all deletes that named it.
use Rattle.std.specs.Prelude.{ℕ, List, [], ◌∷◌, if◌then◌else◌, map, slice_get, Option}
use Rattle.std.specs.Option.{option_and_then}
use Rattle.std.specs.Ordering.{is_lt, is_eq}
use Rattle.td_base.specs.Value.{DotValue, AtomIdValue}
use Rattle.td_base.specs.Order.{dot_cmp}
use Rattle.td_doc.specs.Document.{DocRow, has_id, find_row}

-- a dot added to dots in their order, unless it is there
abbrev pub add_dot : DotValue → List DotValue → List DotValue
add_dot d [] = d ∷ []
add_dot d (e ∷ dots) =
    if is_lt (dot_cmp d e) then d ∷ e ∷ dots else if is_eq (dot_cmp d e) then e ∷ dots else e ∷ add_dot d dots

abbrev pub mark_deleted : AtomIdValue → DotValue → DocRow → DocRow
mark_deleted x by r =
    if has_id x r then record { path = r.path; atom = r.atom; deletes = add_dot by r.deletes } else r

-- the document after a delete of the row x
abbrev pub delete : AtomIdValue → DotValue → List DocRow → List DocRow
delete x by rows = map (mark_deleted x by) rows

-- the k-th delete dot of the row x, from 0
abbrev pub delete_at : List DocRow → AtomIdValue → ℕ → Option DotValue
delete_at rows x k = option_and_then (λ (r : DocRow). slice_get r.deletes k) (find_row x rows)
