use Rattle.std.proofs.Common.{◌≡◌, All, vec_len, vec_capacity}
use Rattle.std.specs.List.{AllWithin}
use Rattle.td_vote.specs.BySite.{all_commits, HasRoom, IsBySite}
use Rattle.td_vote.proofs.by_site.make_rooms.Given as goal

abbrev pub invariant-loop-i : goal.invariant-loop-i
invariant-loop-i l = record {
  by_site : IsBySite l.sites.items;
  same : all_commits l.sites.items ≡ all_commits l.fn.sites.items;
  len : vec_len l.sites ≡ vec_len l.fn.sites;
  capacity : vec_capacity l.sites ≡ vec_capacity l.fn.sites;
  rooms : AllWithin HasRoom l.sites.items 0 l.i;
  kept : All HasRoom l.fn.sites.items → All HasRoom l.sites.items;
}
