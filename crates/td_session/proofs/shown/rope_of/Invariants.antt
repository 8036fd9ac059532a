use Rattle.std.proofs.Common.{◌≡◌, take}
use Rattle.td_doc.specs.Document.{live_atoms}
use Rattle.td_session.proofs.shown.rope_of.Given as goal

abbrev pub invariant-loop-index : goal.invariant-loop-index
invariant-loop-index g l = l.rope ≡ take l.index (live_atoms (g.D.Doc.rows l.doc))
