use Rattle.std.proofs.Common.{◌≡◌, List, length, subst, rules}
use Rattle.std.specs.List.{AllZip}
use Rattle.td_room.specs.Workers.{WorkerValue, LaterWorker}
use Rattle.test_room.proofs.Staging.{written_on}
use Rattle.test_room.proofs.room.stage.Stage.run_both.Goals as goal

pub invariant_of-self : goal.invariant_of-self
invariant_of-self g c =
    let ws : List WorkerValue = c.self.inside.workers.items in
    let n : c.self.inside.workers.len ≡ length ws = search rules in
    written_on c.self.inside.workers.len ws c.run_both.new.workers c.self.inside.editors.items n
    (subst (λ (l : List WorkerValue). AllZip LaterWorker l c.run_both.new.workers) c.deref_mut.ensures.value
    c.run_both.ensures)
    c.self.invariant
