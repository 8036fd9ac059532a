use Rattle.td_room.proofs.Locals.{nexts_went, nexts_locals}
use Rattle.td_room.proofs.Working.{went_worker, went_later}
use Rattle.td_room.proofs.worker.Worker.catch_up.Goals as goal

pub invariant_of-self : goal.invariant_of-self
invariant_of-self g c =
    let s = c.self.inside.site in
    let t = c.catch_up.new.self in
    went_worker s t c.self.inside.lines.items c.self.inside.peers.items
    (nexts_went s t c.catch_up.ensures.later c.catch_up.ensures.nexts) (nexts_locals s t c.catch_up.ensures.nexts)
    c.self.invariant

pub returns-clause-later : goal.returns-clause-later
returns-clause-later g c =
    rw (← c.self.view_is)
    (went_later c.self.inside.site c.catch_up.new.self c.self.inside.lines.items c.self.inside.peers.items
    c.catch_up.ensures.later)
