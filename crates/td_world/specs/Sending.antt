-- What a step of a replica told.
use Rattle.std.specs.Prelude.{◌≡◌, length}
use Rattle.td_op.specs.declared.input.Input.{Input}
use Rattle.td_machine.specs.Step.{step}
use Rattle.td_replica.specs.Replica.{ReplicaValue}
use Rattle.td_world.specs.declared.sites.Done.{Done}

pub record IsDone (old : ReplicaValue) (input : Input) (done : Done) : Type 0 where
  pub reply : done.reply ≡ (step old.machine input).reply
  pub before : done.before ≡ length old.machine.sent
  pub after : done.after ≡ length (step old.machine input).machine.sent
