use Rattle.td_room.proofs.Opens.{new_worker}
use Rattle.td_room.proofs.worker.Worker.new.Goals as goal

pub invariant_of-result : goal.invariant_of-result
invariant_of-result g c =
    new_worker c.args.site c.new.result.items c.args.peers.items c.requires.fresh.0 c.requires.replica
    c.new.ensures.items c.requires.fresh.1
