use Rattle.std.proofs.Common.{◌≡◌, ◌++◌, take}
use Rattle.std.specs.List.{flat_map}
use Rattle.td_doc.specs.Document.{find_row}
use Rattle.td_script.specs.Spelling.{spaced_dot}
use Rattle.td_report.specs.Tree.{deletes_of}
use Rattle.td_report.proofs.tree.push_dots.Given as goal

abbrev pub invariant-loop-k : goal.invariant-loop-k
invariant-loop-k g l = l.lines ≡ l.fn.lines ++ flat_map spaced_dot
    (take l.k (deletes_of (find_row l.id (g.D.Doc.rows l.doc))))
