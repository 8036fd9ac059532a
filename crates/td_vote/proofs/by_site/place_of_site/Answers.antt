use Rattle.std.proofs.Common.{rules}
use Rattle.std.proofs.lemmas.List.Sorted.{IsPartitionPoint-from_clause}
use Rattle.td_vote.proofs.BySite.{is_smaller, smaller_sites_first, place_from_point}
use Rattle.td_vote.proofs.by_site.place_of_site.Goals as goal

pub returns : goal.returns
returns c =
    let site = c.args.site in
    let sites = c.args.sites.now in
    let place = c.partition_point.result in
    let point = c.partition_point.ensures in
    place_from_point site sites place point.bound
    (IsPartitionPoint-from_clause (is_smaller site) sites place point.partitioned
    (smaller_sites_first site sites c.requires) (λ a r f' k. search rules))
