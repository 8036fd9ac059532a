use Rattle.std.proofs.Common.{rules}
use Rattle.std.proofs.lemmas.List.Sorted.{IsPartitionPoint-from_clause}
use Rattle.td_machine.specs.Hold.{Hold}
use Rattle.td_vote.specs.ByPlace.{place_before}
use Rattle.td_vote.proofs.Placed.{before_first}
use Rattle.td_vote.proofs.by_place.place_of.Goals as goal

pub returns-clause-before : goal.returns-clause-before
returns-clause-before g c =
    let rows = g.D.Doc.rows c.args.doc.now in
    let slot = c.args.slot.now in
    let held = c.args.held.now in
    (IsPartitionPoint-from_clause (λ (h : Hold). place_before rows h.slot slot) held c.partition_point.result
    c.partition_point.ensures.partitioned (before_first rows c.requires.apart.document slot held c.requires.order)
    (λ a r f' k. search rules)).0

pub returns-clause-behind : goal.returns-clause-behind
returns-clause-behind g c =
    let rows = g.D.Doc.rows c.args.doc.now in
    let slot = c.args.slot.now in
    let held = c.args.held.now in
    (IsPartitionPoint-from_clause (λ (h : Hold). place_before rows h.slot slot) held c.partition_point.result
    c.partition_point.ensures.partitioned (before_first rows c.requires.apart.document slot held c.requires.order)
    (λ a r f' k. search rules)).1
