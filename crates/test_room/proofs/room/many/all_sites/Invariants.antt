use Rattle.std.proofs.Common.{◌≡◌, ◌≤◌, All, length}
use Rattle.test_room.proofs.room.many.all_sites.Given as goal

abbrev pub invariant-loop-place : goal.invariant-loop-place
invariant-loop-place g l = record {
  count : length l.sites.items ≡ l.place;
  within : All (λ site. site ≤ 64) l.sites.items;
}
