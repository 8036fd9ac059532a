use Rattle.std.proofs.Common.{◌≡◌, ◌++◌}
use Rattle.std.specs.List.{flat_map}
use Rattle.td_report.specs.Parts.{spaced_quoted}
use Rattle.td_report.proofs.entry.push_run.Given as goal

-- what is written, and what is still to come
abbrev pub invariant-loop-atom : goal.invariant-loop-atom
invariant-loop-atom l = record {
  can : (goal.iterator-loop-atom).can_next l.atom-iterator;
  ends : (goal.iterator-loop-atom).is_finite l.atom-iterator;
  written : l.line ++ flat_map spaced_quoted l.atom-iterator ≡ l.fn.line ++ flat_map spaced_quoted l.run;
}
