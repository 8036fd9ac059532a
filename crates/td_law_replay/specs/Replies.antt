-- What a reply tells: that an operation was taken, or that something unfit came.
use Rattle.std.specs.Prelude.{Bool, true, false, Option, Some, None}
use Rattle.td_base.specs.Value.{DotValue}
use Rattle.td_op.specs.declared.reply.Reply.{Reply}
use Rattle.td_op.specs.declared.reply.Reply.TheVariants.{New, Unfit, Taken, Dropped}

-- the message was taken when it came
abbrev pub is_new : Reply → Bool
is_new New = true
is_new reply = false

-- the operation that had waited and was taken
abbrev pub taken_of : Reply → Option DotValue
taken_of (Taken dot) = Some dot
taken_of reply = None

-- the replies that come in a consistent family
abbrev pub NotUnfit : Reply → Type 0
NotUnfit (Unfit why) = ⊥
NotUnfit (Dropped dot why) = ⊥
NotUnfit reply = Unit {0}
