use Rattle.std.proofs.Common.{◌≡◌, List, [], map, replicate}
use Rattle.td_history.specs.declared.index.Logged.{Logged}
use Rattle.td_history.proofs.index.Index.new.Given as goal

abbrev pub invariant-loop : goal.invariant-loop
invariant-loop l = map (λ v. v.items) l.lists.items ≡ replicate {A = List Logged} l.counter []
