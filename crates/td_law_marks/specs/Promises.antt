-- What is promised of the marked texts of a family, whatever was flattened.
use Rattle.std.specs.Prelude.{◌≡◌, ◌↔◌, List}
use Rattle.td_base.specs.Lists.{In}
use Rattle.td_base.specs.Value.{DotValue}
use Rattle.td_op.specs.declared.body.Body.TheVariants.{Commit}
use Rattle.td_op.specs.Op.{OpValue}
use Rattle.td_machine.specs.History.{Family, Moment, machine_at}
use Rattle.td_law_logs.specs.Entries.{EntryOf, machine_before, machine_then}
use Rattle.td_marks.specs.Laws.{SameOps}
use Rattle.td_marks.specs.Mark.{MarkOpValue}
use Rattle.td_marks.specs.Text.{marked_text}

-- two moments, of one site or of two, with the same operations and the same operations on marks show one marked text,
-- in whatever order these came
abbrev pub MarksConverge : Family → Type 0
MarksConverge family =
    (t u : Moment family) (ops others : List MarkOpValue)
    → ((x : OpValue) → In x (machine_at family t).log ↔ In x (machine_at family u).log) → SameOps ops others
    → marked_text ops (machine_at family t).doc ≡ marked_text others (machine_at family u).doc

-- an entry in which a commit is made or taken leaves the marked text
abbrev pub CommitsKeepMarks : Family → Type 0
CommitsKeepMarks family =
    (t : EntryOf family) (c : OpValue) (p : DotValue) (ops : List MarkOpValue) → c.body ≡ Commit p
    → In c (machine_then family t).log → ¬ In c (machine_before family t).log
    → marked_text ops (machine_then family t).doc ≡ marked_text ops (machine_before family t).doc
