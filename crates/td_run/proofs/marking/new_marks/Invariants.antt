use Rattle.std.proofs.Common.{◌≡◌, map}
use Rattle.std.specs.List.{range_with_len}
use Rattle.td_run.specs.Marking.{no_marks}
use Rattle.td_run.proofs.marking.new_marks.Given as goal

abbrev pub invariant-loop-place : goal.invariant-loop-place
invariant-loop-place l = record { made : l.all.items ≡ map (no_marks l.sites) (range_with_len 1 l.place) }
