-- The machine step.
use Rattle.td_op.specs.declared.input.Input.{Input}
use Rattle.td_op.specs.declared.input.Input.TheVariants.{Local, Take, Next}
use Rattle.td_op.specs.declared.reply.Reply.{Reply}
use Rattle.td_op.specs.declared.reply.Reply.TheVariants.{Made, Cancelled, Held, Position, Gone, Limit, NotOpen, New}
use Rattle.td_op.specs.declared.reply.Reply.TheVariants.{Later, Repeat, Unfit, Taken, Dropped, Idle}
use Rattle.td_machine.specs.Machine.{Machine}
use Rattle.td_machine.specs.Taking.{Stepped, message_step, next_step}
use Rattle.td_machine.specs.Request.{request_step}

-- the reply to an input, and the machine afterwards
abbrev pub step : Machine → Input → Stepped
step m (Local request) = request_step request m
step m (Take message) = message_step message m
step m Next = next_step m

-- the replies other than Made, Cancelled, New, Later, Taken and Dropped
abbrev pub IsRefusal : Reply → Type 0
IsRefusal (Made dot) = ⊥
IsRefusal Cancelled = ⊥
IsRefusal (Held by) = Unit {0}
IsRefusal (Position len) = Unit {0}
IsRefusal (Gone x) = Unit {0}
IsRefusal (Limit made undecided) = Unit {0}
IsRefusal (NotOpen p) = Unit {0}
IsRefusal New = ⊥
IsRefusal Later = ⊥
IsRefusal Repeat = Unit {0}
IsRefusal (Unfit why) = Unit {0}
IsRefusal (Taken dot) = ⊥
IsRefusal (Dropped dot why) = ⊥
IsRefusal Idle = Unit {0}
