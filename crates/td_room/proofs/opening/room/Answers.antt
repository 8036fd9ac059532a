use Rattle.std.proofs.Common.{◌∙◌, sym}
use Rattle.td_law_meeting.specs.Thin.{Loss}
use Rattle.td_room.proofs.Opens.{fresh_rows, room_is, all_le, workers_of_rows}
use Rattle.td_room.proofs.opening.room.Goals as goal

pub open_sites-requires-clause-fresh : goal.open_sites-requires-clause-fresh
open_sites-requires-clause-fresh g c =
    let lost : Loss = record { drop_each = c.args.drop_each; double_each = c.args.double_each } in
    (lost, fresh_rows c.args.n lost c.in-Ok.rows.items c.in-Ok.ensures.fresh)

pub open_editors-requires-clause-within : goal.open_editors-requires-clause-within
open_editors-requires-clause-within g c =
    let lost : Loss = record { drop_each = c.args.drop_each; double_each = c.args.double_each } in
    all_le c.args.n _ c.args.homes.now
    (sym (workers_of_rows c.args.n lost c.in-Ok.rows.items c.open_sites.new.workers.items c.in-Ok.ensures.fresh
    c.in-Ok-open_sites.ensures.peers))
    c.requires.within

pub open_editors-requires-clause-opens : goal.open_editors-requires-clause-opens
open_editors-requires-clause-opens g c =
    let lost : Loss = record { drop_each = c.args.drop_each; double_each = c.args.double_each } in (
      c.args.n,
      lost,
      c.in-Ok-open_sites.ensures.opens lost
          (fresh_rows c.args.n lost c.in-Ok.rows.items c.in-Ok.ensures.fresh),
    )

pub returns-clause-room : goal.returns-clause-room
returns-clause-room g c =
    let lost : Loss = record { drop_each = c.args.drop_each; double_each = c.args.double_each } in
    let rows = c.in-Ok.rows.items in
    let fresh = c.in-Ok.ensures.fresh in
    let o = c.in-Ok-open_editors.ensures.opens c.args.n lost
    (c.in-Ok-open_sites.ensures.opens lost (fresh_rows c.args.n lost rows fresh)) in
    room_is c.args.n c.args.homes.now c.args.calls.now lost rows c.open_editors.new.workers.items
    c.in-Ok-open_editors.editors.items
    o.0 c.requires.some c.requires.few fresh c.in-Ok.ensures.linked
    (c.in-Ok-open_editors.ensures.peers ∙ c.in-Ok-open_sites.ensures.peers) c.requires.within o.1
    c.in-Ok-open_editors.ensures.opened
