use Rattle.std.proofs.Common.{◌≡◌, ◌++◌, codes, take}
use Rattle.std.specs.List.{flat_map}
use Rattle.td_doc.specs.Document.{live_atoms}
use Rattle.td_script.specs.Texts.{escaped}
use Rattle.td_report.proofs.summary.push_head.Given as goal

abbrev pub invariant-loop-index : goal.invariant-loop-index
invariant-loop-index g l =
    l.lines ≡ (l.fn.lines ++ codes "head \"") ++ flat_map (flat_map escaped)
    (take l.index (live_atoms (g.D.Doc.rows l.doc)))
