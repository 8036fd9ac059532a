-- How a site in the replay is kept: a replica in which nothing waits, and outlines beside it.
use Rattle.std.specs.Prelude.{◌≡◌, [], Some}
use Rattle.td_base.specs.Value.{DotValue}
use Rattle.td_op.specs.declared.reply.Reply.{Reply}
use Rattle.td_op.specs.declared.reply.Reply.TheVariants.{Unfit, Taken, Dropped}
use Rattle.td_op.specs.Op.{OpValue}
use Rattle.td_machine.specs.Machine.{Machine}
use Rattle.td_machine.specs.Ready.{next_ready}
use Rattle.td_replica.specs.Replica.{ReplicaValue}
use Rattle.td_store.specs.Lists.{OpsValue}
use Rattle.td_causal.specs.Waiting.{Numbers, ops_waiting, AreStored}

abbrev pub seat_machine : ReplicaValue → OpsValue → Numbers → Machine
seat_machine r outlines waiting = record r.machine { waiting = ops_waiting outlines.ops waiting }

pub record IsSeat (r : ReplicaValue) (outlines : OpsValue) (waiting : Numbers) : Type 0 where
  pub bare : r.machine.waiting ≡ []
  pub sized : outlines.size ≡ r.machine.size
  pub stored : AreStored r.machine.size outlines.ops waiting

-- the reply to what waited, where this one is the reply to it without the waiting
abbrev pub up_of : DotValue → Reply → Reply
up_of d (Unfit why) = Dropped d why
up_of d reply = Taken d

-- the least ready operation of those that wait is an outline of this one
pub record IsOutlined (x : OpValue) (m : Machine) : Type 0 where
  pub outline_is : OpValue
  pub least : next_ready m.have m.waiting ≡ Some outline_is
  pub same : outline_is.dot ≡ x.dot
  pub deps : outline_is.deps ≡ x.deps
