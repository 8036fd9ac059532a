use Rattle.std.proofs.Common.{◌≡◌, ◌++◌}
use Rattle.std.specs.List.{flat_map, range_with_len}
use Rattle.td_report.specs.Marks.{name_part}
use Rattle.td_report.proofs.marks.push_all_names.Given as goal

abbrev pub invariant-loop-name : goal.invariant-loop-name
invariant-loop-name l = l.line ≡ l.fn.line ++ flat_map (name_part l.names) (range_with_len 0 l.name)
