use Rattle.std.proofs.Common.{rules, arith, sym, true, ◌≡◌}
use Rattle.std.proofs.lemmas.List.Sorted.{IsPartitionPoint-from_clause}
use Rattle.td_base.specs.Order.{dot_lt}
use Rattle.td_machine.specs.Log.{Committed, commit_at}
use Rattle.td_vote.proofs.LastFirst.{all_pass_first}
use Rattle.td_vote.proofs.Placing.{smaller_first, put_at_point}
use Rattle.td_vote.proofs.committed.place_of.Goals as goal

pub returns-clause-place : goal.returns-clause-place
returns-clause-place c =
    let dot = c.args.dot in
    let commits = c.args.commits.now in
    let below : dot_lt c.in-Some.last.now.dot dot ≡ true = search rules in
    let point = all_pass_first (λ (d : Committed). dot_lt d.dot dot) commits c.in-Some.last.now
    (smaller_first dot commits c.requires) (sym c.in-Some.ensures.value) below in
    λ slot. put_at_point (commit_at dot slot) commits _ (omega arith) point

pub returns-2-clause-place : goal.returns-2-clause-place
returns-2-clause-place c =
    let dot = c.args.dot in
    let commits = c.args.commits.now in
    let place = c.partition_point.result in
    let point = c.partition_point.ensures in
    λ slot. put_at_point (commit_at dot slot) commits place point.bound
    (IsPartitionPoint-from_clause (λ (d : Committed). dot_lt d.dot dot) commits place point.partitioned
    (smaller_first dot commits c.requires) (λ a r f' k. search rules))
