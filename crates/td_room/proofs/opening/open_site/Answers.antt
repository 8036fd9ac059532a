use Rattle.std.proofs.Common.{◌∙◌}
use Rattle.td_law_meeting.specs.Thin.{Loss}
use Rattle.td_room.proofs.Opens.{open_new}
use Rattle.td_room.proofs.opening.open_site.Goals as goal

pub returns-clause-opens : goal.returns-clause-opens
returns-clause-opens g c =
    λ (lost : Loss) fresh.
    open_new c.args.homes.now c.args.n lost c.args.site c.new-worker.result c.of.result c.in-Ok.made.1.items
    c.new-2.result
    c.in-Ok-new.replica c.in-Ok.made.0 c.args.row c.peers.result.items c.editors_at.result c.new-worker.ensures
    c.new-2.ensures
    c.in-Ok-new.ensures c.in-Ok.ensures.writer.0 c.peers.ensures fresh (c.of.ensures ∙ c.remove-reader.ensures.items)
    c.in-Ok.ensures.readers c.editors_at.ensures.count
