use Rattle.std.proofs.Common.{◌≡◌, true, take}
use Rattle.std.specs.List.{list_all}
use Rattle.td_clock.specs.Vector.{vector_has}
use Rattle.td_doc.specs.Document.{find_row}
use Rattle.td_idle.specs.Unknown.{deletes_of}
use Rattle.td_idle.proofs.unknown.are_all_known.Given as goal

abbrev pub invariant-loop-k : goal.invariant-loop-k
invariant-loop-k g l = list_all (vector_has l.v) (take l.k (deletes_of (find_row l.id (g.D.Doc.rows l.doc)))) ≡ true
