use Rattle.test_room.proofs.Staging.{worker_on}
use Rattle.test_room.proofs.room.stage.Stage.turn.Goals as goal

pub invariant_of-self : goal.invariant_of-self
invariant_of-self g c =
    worker_on c.self.inside.workers.items c.self.inside.editors.items c.args.place c.index_mut-worker.result.now
    c.turn.new.self
    c.index_mut-worker.ensures.value c.turn.ensures.later c.self.invariant
