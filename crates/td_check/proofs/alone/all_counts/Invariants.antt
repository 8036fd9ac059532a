use Rattle.std.proofs.Common.{take}
use Rattle.td_check.specs.Alone.{AreRows}
use Rattle.td_check.proofs.alone.all_counts.Given as goal

abbrev pub invariant-loop-editor : goal.invariant-loop-editor
invariant-loop-editor l = AreRows l.trace (take l.editor l.trace.logs) l.trace.sites l.rows.items
