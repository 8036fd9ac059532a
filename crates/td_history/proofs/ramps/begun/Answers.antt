use Rattle.std.proofs.Common.{rules, leb, sym}
use Rattle.std.proofs.lemmas.List.Sorted.{IsPartitionPoint-from_clause, IsPartitionedBy-leb}
use Rattle.td_history.specs.declared.ramps.Ramp.{Ramp}
use Rattle.td_history.proofs.RampPlaces.{all_begun}
use Rattle.td_history.proofs.ramps.begun.Goals as goal

pub returns-clause-point : goal.returns-clause-point
returns-clause-point g c =
    all_begun c.args.ramps.now c.in-Some.last.now c.args.k (sym c.in-Some.ensures.value) c.if-last-k.true

pub returns-2-clause-point : goal.returns-2-clause-point
returns-2-clause-point g c =
    λ rise. IsPartitionPoint-from_clause (λ (r : Ramp g.row.T.Denot). leb r.start c.args.k) c.args.ramps.now
    c.partition_point.result c.partition_point.ensures.partitioned
    (IsPartitionedBy-leb (λ (r : Ramp g.row.T.Denot). r.start) c.args.ramps.now c.args.k rise)
    (λ a r f' k. search rules)
