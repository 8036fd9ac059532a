use Rattle.std.proofs.Common.{rules, sym}
use Rattle.std.proofs.lemmas.List.Sorted.{IsPartitionPoint-from_clause}
use Rattle.td_clock.specs.Vector.{vector_has}
use Rattle.td_machine.specs.Log.{Committed}
use Rattle.td_vote.proofs.LastFirst.{all_pass_first}
use Rattle.td_vote.proofs.site_commits.count_had.Goals as goal

pub returns-clause-had : goal.returns-clause-had
returns-clause-had c =
    all_pass_first (λ (d : Committed). vector_has c.args.v.now d.dot) c.args.commits.now c.in-Some.last.now c.requires
    (sym c.in-Some.ensures.value) (search rules)

pub returns-2-clause-had : goal.returns-2-clause-had
returns-2-clause-had c =
    let had = λ (d : Committed). vector_has c.args.v.now d.dot in
    IsPartitionPoint-from_clause had c.args.commits.now c.partition_point.result
    c.partition_point.ensures.partitioned c.requires (λ a r f' k. search rules)
