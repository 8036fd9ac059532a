use Rattle.std.proofs.Common.{◌≡◌, length, rules}
use Rattle.td_room.specs.Ending.{gathered}
use Rattle.td_room.proofs.Gathers.{nothing_left}
use Rattle.td_room.proofs.gathering.gather.Goals as goal

pub returns : goal.returns
returns c =
    let none : length c.loop-homes.homes.items ≡ 0 = search rules in
    nothing_left c.loop-homes.all.items (gathered c.args.homes.items c.args.sites.items) c.loop-homes.homes.items
    c.loop-homes.sites.items none c.loop-homes.invariant.all
