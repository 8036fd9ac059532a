use Rattle.std.proofs.Common.{◌≡◌, ◌++◌, length}
use Rattle.td_room.specs.Ending.{gathered, CanGather}
use Rattle.td_room.proofs.gathering.gather.Given as goal

abbrev pub invariant-loop-homes : goal.invariant-loop-homes
invariant-loop-homes l = record {
  can : CanGather l.homes.items l.sites.items;
  all : l.all.items ++ gathered l.homes.items l.sites.items ≡ gathered l.fn.homes.items l.fn.sites.items;
}

abbrev pub decreases-loop-homes : goal.decreases-loop-homes
decreases-loop-homes l = length l.homes.items
