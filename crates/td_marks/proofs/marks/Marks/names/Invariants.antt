use Rattle.std.proofs.Common.{◌≡◌}
use Rattle.td_marks.specs.Mark.{bits_below, has_name}
use Rattle.td_marks.proofs.marks.Marks.names.Given as goal

abbrev pub invariant-loop-name : goal.invariant-loop-name
invariant-loop-name l = l.names ≡ bits_below l.name (has_name l.self.ops l.id)
