use Rattle.std.proofs.Common.{◌≡◌, length, take}
use Rattle.td_doc.specs.Document.{IsDocument, live_rows}
use Rattle.td_marks.specs.Text.{joined, marked_atoms}
use Rattle.td_marks.proofs.text.marked_text.Given as goal

abbrev pub invariant-loop-index : goal.invariant-loop-index
invariant-loop-index g l = record {
  all : l.index-end ≡ length (live_rows (g.D.Doc.rows l.doc));
  joined : IsDocument (g.D.Doc.rows l.doc) → l.pieces.items
      ≡ joined (take l.index (marked_atoms l.marks.ops (g.D.Doc.rows l.doc)));
}
