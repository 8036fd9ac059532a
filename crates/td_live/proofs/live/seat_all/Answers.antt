use Rattle.std.proofs.Common.{◌≡◌, length, rules}
use Rattle.td_live.specs.Seating.{seated}
use Rattle.td_live.proofs.Seats.{seated_all}
use Rattle.td_live.proofs.live.seat_all.Goals as goal

pub returns : goal.returns
returns c =
    let none : length c.loop-alloc.editors.items ≡ 0 = search rules in
    seated_all c.loop-alloc.desks.items (seated c.args.editors.items c.args.lines.items)
    c.loop-alloc.editors.items c.loop-alloc.lines.items none c.loop-alloc.invariant.all
