use Rattle.std.proofs.Common.{◌≡◌, ◌++◌, length, take, drop}
use Rattle.std.specs.List.{flat_map}
use Rattle.std.specs.Option.{ForSome}
use Rattle.td_doc.specs.Allocation.{first_id, id_after}
use Rattle.td_doc.specs.Answers.{IsRow}
use Rattle.td_doc.specs.Document.{IsDocument}
use Rattle.td_report.specs.Tree.{row_line}
use Rattle.td_report.proofs.tree.push_rows.Given as goal

abbrev pub invariant-loop : goal.invariant-loop
invariant-loop g l = record {
  all : l.end ≡ length (g.D.Doc.rows l.doc);
  row : ForSome l.last (IsRow (g.D.Doc.rows l.doc));
  at : IsDocument (g.D.Doc.rows l.doc) → id_after (g.D.Doc.rows l.doc) l.last
      ≡ first_id (drop l.counter (g.D.Doc.rows l.doc));
  printed : IsDocument (g.D.Doc.rows l.doc) → l.lines ≡ l.fn.lines
      ++ flat_map row_line (take l.counter (g.D.Doc.rows l.doc));
}
