use Rattle.std.proofs.Common.{◌≡◌, ◌-◌}
use Rattle.td_marks.specs.Making.{live_ids_at}
use Rattle.td_marks.proofs.marks.live_atoms.Given as goal

abbrev pub invariant-loop-index : goal.invariant-loop-index
invariant-loop-index g l = l.atoms.items ≡ live_ids_at (g.D.Doc.rows l.doc) l.from (l.index - l.from)
