use Rattle.std.proofs.Common.{◌≡◌, ◌++◌, take}
use Rattle.std.specs.List.{flat_map}
use Rattle.td_report.specs.Trace.{did_said}
use Rattle.td_report.specs.TraceLines.{written}
use Rattle.td_report.proofs.trace.push_all.Given as goal

abbrev pub invariant-loop-did : goal.invariant-loop-did
invariant-loop-did l = l.lines ≡ l.fn.lines ++ flat_map (λ did. written (did_said did)) (take l.did-index l.all)
