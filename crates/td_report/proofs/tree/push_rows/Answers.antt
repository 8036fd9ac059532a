use Rattle.std.proofs.Common.{◌∙◌, List, ℕ, arith, subst, sym}
use Rattle.std.proofs.lemmas.Option.{same_Some}
use Rattle.td_base.specs.Value.{AtomIdValue}
use Rattle.td_doc.specs.Answers.{IsRow}
use Rattle.td_doc.specs.Document.{DocRow, IsDocument}
use Rattle.td_doc.proofs.Walking.{comes, comes_to_a_row, goes_to_the_end}
use Rattle.td_report.specs.Tree.{row_line}
use Rattle.td_report.proofs.Printing.{printed_behind}
use Rattle.td_report.proofs.tree.push_rows.Goals as goal

pub loop-preserved : goal.loop-preserved
loop-preserved g c =
    let rows : List DocRow = g.D.Doc.rows c.args.doc.now in
    let k : ℕ = c.loop.counter in
    let x : AtomIdValue = c.in-Some.id in
    let next = sym c.after.ensures ∙ c.in-Some.is in
    let come = λ (d : IsDocument rows). comes rows k x _ d (c.loop.invariant.at d) next in
    record {
      all = c.loop.invariant.all;
      row = λ (y : AtomIdValue) e. subst (IsRow rows) (same_Some x y e) (comes_to_a_row rows c.loop.last x next);
      at = λ (d : IsDocument rows). (come d).goes_on;
      printed = λ (d : IsDocument rows). printed_behind row_line c.args.lines.now c.loop.lines c.push_row.new.lines
          rows k _
          c.in_ok-push_row.ensures (come d).found (c.loop.invariant.printed d);
    }

pub returns-in_default : goal.returns-in_default
returns-in_default g c = λ (d : IsDocument (g.D.Doc.rows c.args.doc.now)).
    absurd (goes_to_the_end (g.D.Doc.rows c.args.doc.now) c.loop.counter c.after.result
    (omega (arith, c.loop.invariant.all)) (c.after.ensures ∙ c.loop.invariant.at d) c.in_default.not-Some)
