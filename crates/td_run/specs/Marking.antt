-- What the commands on marks come to.
use Rattle.std.specs.Prelude.{◌-◌, ℕ, Bool, List, [], Option, Some, None, length, map, slice_index_or, slice_set}
use Rattle.std.specs.List.{range_with_len}
use Rattle.td_doc.specs.Document.{DocRow, live_rows}
use Rattle.td_marks.specs.Making.{live_ids_at, made_op, mark_refusal}
use Rattle.td_marks.specs.Mark.{MarkOpValue}
use Rattle.td_marks.specs.Marks.{MarksValue, count_of, with_op}
use Rattle.td_marks.specs.Taking.{after_takes}
use Rattle.td_marks.specs.Text.{marked_text}
use Rattle.td_marks.specs.declared.mark_fault.MarkFault.{MarkFault}
use Rattle.td_report.specs.Marks.{mark_line, marks_lines, meet_line}

-- the marks of a site of so many, which has none
abbrev pub no_marks : ℕ → ℕ → MarksValue
no_marks n site = record { site = site; size = n; ops = [] }

-- of each of so many
abbrev pub new_marks : ℕ → List MarksValue
new_marks n = map (no_marks n) (range_with_len 1 n)

-- those of a site among all
abbrev pub marks_of : ℕ → List MarksValue → MarksValue
marks_of site all = slice_index_or all (site - 1) (no_marks (length all) site)

abbrev pub with_marks : ℕ → MarksValue → List MarksValue → List MarksValue
with_marks site marks all = slice_set all (site - 1) marks

-- the marks of the sites behind a command, and its line
pub record Marking : Type 0 where
  pub marks : List MarksValue
  pub line : List ℕ

-- why a site makes no operation, if it makes none
abbrev pub refusal_at : ℕ → ℕ → List DocRow → MarksValue → Option MarkFault
refusal_at index count rows marks =
    mark_refusal (length (live_rows rows)) (count_of marks.site marks.ops) index count

-- with an operation more, where it is not refused
abbrev pub with_op_unless : Option MarkFault → MarkOpValue → MarksValue → MarksValue
with_op_unless None op marks = with_op op marks
with_op_unless (Some fault) op marks = marks

-- those of a site, after a name was to be added to so many live atoms of these rows from an index on, or removed
abbrev pub marked : Bool → ℕ → ℕ → ℕ → List DocRow → MarksValue → MarksValue
marked add name index count rows marks =
    with_op_unless (refusal_at index count rows marks) (made_op marks add name (live_ids_at rows index count)) marks

abbrev pub mark : ℕ → Bool → ℕ → ℕ → ℕ → List DocRow → List MarksValue → Marking
mark site add name index count rows all =
    let old = marks_of site all in
    record {
      marks = with_marks site (marked add name index count rows old) all;
      line = mark_line site add count (refusal_at index count rows old);
    }

-- a site is given all that another one has
abbrev pub meet : ℕ → ℕ → List MarksValue → Marking
meet site other all =
    let old = marks_of site all in
    let new = after_takes (marks_of other all).ops old in
    record { marks = with_marks site new all; line = meet_line site other (length new.ops - length old.ops) }

-- the marked text of these rows at a site
abbrev pub marked_lines : ℕ → List DocRow → List MarksValue → List ℕ
marked_lines site rows all = marks_lines site (marked_text (marks_of site all).ops rows)
