use Rattle.std.proofs.Common.{◌≡◌, length, take, drop, map}
use Rattle.std.specs.Option.{ForSome}
use Rattle.td_doc.specs.Allocation.{first_id, id_after}
use Rattle.td_doc.specs.Answers.{IsRow}
use Rattle.td_doc.specs.Document.{row_id, IsDocument}
use Rattle.td_idle.proofs.unknown.row_ids.Given as goal

abbrev pub invariant-loop : goal.invariant-loop
invariant-loop g l = record {
  all : l.end ≡ length (g.D.Doc.rows l.doc);
  row : ForSome l.last (IsRow (g.D.Doc.rows l.doc));
  at : IsDocument (g.D.Doc.rows l.doc) → id_after (g.D.Doc.rows l.doc) l.last
      ≡ first_id (drop l.counter (g.D.Doc.rows l.doc));
  ids : IsDocument (g.D.Doc.rows l.doc) → l.ids.items ≡ map row_id (take l.counter (g.D.Doc.rows l.doc));
}
