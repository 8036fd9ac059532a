-- What each call that changes a replica does.
use Rattle.std.specs.Prelude.{◌≡◌, Result, IfOk, OnOk, OnErr}
use Rattle.td_base.specs.declared.memory.Memory.{Memory}
use Rattle.td_op.specs.declared.input.Input.{Input}
use Rattle.td_op.specs.declared.reply.Reply.{Reply}
use Rattle.td_machine.specs.Step.{step}
use Rattle.td_replica.specs.Replica.{ReplicaValue, after_step}

-- one step of the machine: the result is its reply; after want of memory the replica is as before
pub record IsStepOf (input : Input) (old : ReplicaValue) (result : Result Reply Memory) (new : ReplicaValue)
    : Type 0 where
  pub reply : IfOk result (λ reply. reply ≡ (step old.machine input).reply)
  pub ok : OnOk result (new ≡ after_step input old)
  pub err : OnErr result (new ≡ old)
