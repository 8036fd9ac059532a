-- The operation that is made of some live atoms of a document, and why none is made.
use Rattle.std.specs.Prelude.{◌+◌, ◌==◌, ◌||◌, ℕ, Bool, List, take, drop, map, nat_le, nat_lt, if◌then◌else◌}
use Rattle.std.specs.Prelude.{Option, Some, None}
use Rattle.td_base.specs.Value.{AtomIdValue}
use Rattle.td_base.specs.declared.dot.TheConstants.{MAX_SEQ}
use Rattle.td_doc.specs.Document.{DocRow, row_id, live_rows}
use Rattle.td_marks.specs.Mark.{MarkOpValue}
use Rattle.td_marks.specs.Marks.{MarksValue, counts, next_dot}
use Rattle.td_marks.specs.declared.mark_fault.MarkFault.{MarkFault}
use Rattle.td_marks.specs.declared.mark_fault.MarkFault.TheVariants.{Position, Wide, Limit, Memory}
use Rattle.td_marks.specs.declared.mark_op.TheConstants.{MAX_ATOMS}

-- the identities of so many live atoms from an index on
abbrev pub live_ids_at : List DocRow → ℕ → ℕ → List AtomIdValue
live_ids_at rows index count = take count (drop index (map row_id (live_rows rows)))

-- why no operation is made of `count` atoms from `index` on, of `live` ones, where the site has made so many
abbrev pub mark_refusal : ℕ → ℕ → ℕ → ℕ → Option MarkFault
mark_refusal live made index count =
    if count == 0 || nat_lt live (index + count) then Some (Position live)
    else if nat_lt MAX_ATOMS count then Some (Wide count)
    else if nat_le MAX_SEQ made then Some (Limit made)
    else None

-- the refusal that a fault tells of: none where memory ran out
abbrev pub refusal_told : MarkFault → Option MarkFault
refusal_told (Position live) = Some (Position live)
refusal_told (Wide count) = Some (Wide count)
refusal_told (Limit made) = Some (Limit made)
refusal_told Memory = None

-- the operation that the site makes
abbrev pub made_op : MarksValue → Bool → ℕ → List AtomIdValue → MarkOpValue
made_op m add name atoms = record {
  dot = next_dot m.site m.ops;
  seen = counts m.size m.ops;
  add = add;
  name = name;
  atoms = atoms;
}
