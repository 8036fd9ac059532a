-- Answers in numbers.
use Rattle.std.specs.Prelude.{ℕ, Result, Ok, Err}
use Rattle.td_base.specs.Value.{DotValue}
use Rattle.td_op.specs.declared.reply.Reply.{Reply}
use Rattle.td_op.specs.declared.reply.Reply.TheVariants.{Made, Cancelled, Held, Position, Gone, Limit, NotOpen, New}
use Rattle.td_op.specs.declared.reply.Reply.TheVariants.{Later, Repeat, Unfit, Taken, Dropped, Idle}
use Rattle.td_session.specs.declared.fault.Fault.{Fault}
use Rattle.td_session.specs.declared.fault.Fault.TheVariants.{Memory, Site, Atom, Text, Dot, Packet, Stretch}
use Rattle.td_session.specs.declared.fault.Fault.TheVariants.{Journal, Long, Place}
use Rattle.treedoc_c.specs.declared.answer.Answer.{Answer}
use Rattle.treedoc_c.specs.declared.status.Status.{Status}
use Rattle.treedoc_c.specs.declared.status.Status.TheVariants as status
use Rattle.treedoc_c.specs.Numbers.{status_number, why_number}

-- a status with a place
abbrev pub placed : Status → ℕ → Answer
placed s place = record { status = status_number s; site = 0; number = 0; place = place }

-- a status with nothing beside it
abbrev pub alone : Status → Answer
alone s = placed s 0

-- a status with the name of an operation, and a place
abbrev pub named : Status → DotValue → ℕ → Answer
named s dot place = record { status = status_number s; site = dot.site; number = dot.seq; place = place }

abbrev pub reply_answer : Reply → Answer
reply_answer (Made dot) = named status.Made dot 0
reply_answer Cancelled = alone status.Cancelled
reply_answer (Held by) = named status.Held by 0
reply_answer (Position len) = placed status.Position len
reply_answer (Gone x) = named status.Gone x.dot x.offset
reply_answer (Limit made undecided) =
    record { status = status_number status.Limit; site = 0; number = made; place = undecided }
reply_answer (NotOpen proposal) = named status.NotOpen proposal 0
reply_answer New = alone status.New
reply_answer Later = alone status.Later
reply_answer Repeat = alone status.Repeat
reply_answer (Unfit why) = placed status.Unfit (why_number why)
reply_answer (Taken dot) = named status.Taken dot 0
reply_answer (Dropped dot why) = named status.Dropped dot (why_number why)
reply_answer Idle = alone status.Idle

abbrev pub fault_answer : Fault → Answer
fault_answer Memory = alone status.Memory
fault_answer Site = alone status.BadSite
fault_answer Atom = alone status.BadAtom
fault_answer Text = alone status.BadText
fault_answer Dot = alone status.BadDot
fault_answer (Packet at) = placed status.BadPacket at
fault_answer Stretch = alone status.BadStretch
fault_answer Place = alone status.BadPlace
fault_answer (Journal at) = placed status.BadJournal at
fault_answer Long = alone status.LongJournal

-- what a call answers that makes a step
abbrev pub answer_of : Result Reply Fault → Answer
answer_of (Ok reply) = reply_answer reply
answer_of (Err fault) = fault_answer fault

-- what a call answers that asks how many operations of a site are had
abbrev pub had_answer : ℕ → Result ℕ Fault → Answer
had_answer site (Ok number) = record { status = status_number status.Done; site = site; number = number; place = 0 }
had_answer site (Err fault) = fault_answer fault
