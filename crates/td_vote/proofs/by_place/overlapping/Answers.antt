use Rattle.std.proofs.Common.{◌≡◌, ◌≤◌, List, true, false, not, length, take, drop, sym, subst, rules}
use Rattle.std.proofs.lemmas.List.Sorted.{IsPartitionPoint-from_clause}
use Rattle.std.specs.List.Sorted.{IsPartitionedBy, IsPartitionPoint}
use Rattle.td_doc.specs.Slots.{overlaps}
use Rattle.td_machine.specs.Hold.{Hold}
use Rattle.td_vote.proofs.Beside.{left_parted, right_parted, overlapping_is}
use Rattle.td_vote.proofs.by_place.overlapping.Goals as goal

pub returns : goal.returns
returns g c =
    let rows = g.D.Doc.rows c.args.doc.now in
    let d = c.requires.apart.document in
    let slot = c.args.slot.now in
    let held = c.args.held.now in
    let order = c.requires.order in
    let apart = c.requires.apart.apart in
    let i = c.place_of-place.result in
    let e = c.place_of-place.ensures in
    let left = c.split_at.result.0.now in
    let right = c.split_at.result.1.now in
    let from = c.partition_point-from.result in
    let more = c.partition_point-more.result in
    let left_is : left ≡ take i held = c.split_at.ensures.front in
    let right_is : right ≡ drop i held = c.split_at.ensures.back in
    let p : IsPartitionPoint (λ (h : Hold). not (overlaps rows h.slot slot) ≡ true)
    (λ (h : Hold). not (overlaps rows h.slot slot) ≡ false) left from =
    IsPartitionPoint-from_clause (λ (h : Hold). not (overlaps rows h.slot slot)) left from
    c.partition_point-from.ensures.partitioned
    (subst (IsPartitionedBy (λ (h : Hold). not (overlaps rows h.slot slot))) (sym left_is)
    (left_parted rows d slot held order apart i e.bound e.before e.behind)) (λ a r f' k. search rules) in
    let q : IsPartitionPoint (λ (h : Hold). overlaps rows h.slot slot ≡ true)
    (λ (h : Hold). overlaps rows h.slot slot ≡ false) right more =
    IsPartitionPoint-from_clause (λ (h : Hold). overlaps rows h.slot slot) right more
    c.partition_point-more.ensures.partitioned
    (subst (IsPartitionedBy (λ (h : Hold). overlaps rows h.slot slot)) (sym right_is)
    (right_parted rows d slot held order apart i e.bound e.before e.behind)) (λ a r f' k. search rules) in
    overlapping_is rows d slot held order apart i e.bound e.before e.behind from more
    (subst (λ (xs : List Hold). from ≤ length xs) left_is c.partition_point-from.ensures.bound)
    (subst (λ (xs : List Hold). more ≤ length xs) right_is c.partition_point-more.ensures.bound)
    (subst (λ (xs : List Hold). IsPartitionPoint (λ (h : Hold). not (overlaps rows h.slot slot) ≡ true)
    (λ (h : Hold). not (overlaps rows h.slot slot) ≡ false) xs from) left_is p)
    (subst (λ (xs : List Hold). IsPartitionPoint (λ (h : Hold). overlaps rows h.slot slot ≡ true)
    (λ (h : Hold). overlaps rows h.slot slot ≡ false) xs more) right_is q)
