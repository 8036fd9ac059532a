-- A packet that is taken, and then what waits, as long as something is ready.
use Rattle.std.specs.Prelude.{ℕ, zero, suc, List, [], Option, Some, None, Result, Ok, Err, codes}
use Rattle.std.specs.Prelude.{◌∷◌, ◌++◌, length, if◌then◌else◌}
use Rattle.td_op.specs.declared.input.Input.TheVariants.{Take, Next}
use Rattle.td_op.specs.declared.message.Message.{Message}
use Rattle.td_op.specs.declared.reply.Reply.{Reply}
use Rattle.td_op.specs.declared.reply.Reply.TheVariants.{New, Later, Unfit}
use Rattle.td_replica.specs.Replica.{ReplicaValue, after_step, has_ready}
use Rattle.td_script.specs.Spelling.{spaced}
use Rattle.td_wire.specs.Reading.{message_at}

-- the message that was read, where nothing is left behind it
abbrev pub whole_message : Result (Message × List ℕ) ℕ → Option Message
whole_message (Ok (message, [])) = Some message
whole_message (Ok (message, _ ∷ _)) = None
whole_message (Err left) = None

-- the message that the bytes spell: `packets_are_read` says that it is
abbrev pub message_of : List ℕ → Option Message
message_of bytes = whole_message (message_at bytes)

-- a replica that took what waited, and how many operations these were
pub record CaughtUp : Type 0 where
  pub replica : ReplicaValue
  pub count : ℕ

abbrev pub one_more : CaughtUp → CaughtUp
one_more w = record { replica = w.replica; count = suc w.count }

-- as long as an operation that waits can be taken, and at most so often
abbrev pub nexts : ℕ → ReplicaValue → CaughtUp
nexts zero r = record { replica = r; count = 0 }
nexts (suc k) r =
    if has_ready r.machine then one_more (nexts k (after_step Next r)) else record { replica = r; count = 0 }

-- as often as operations wait: each takes one away from those
abbrev pub catch_up : ReplicaValue → CaughtUp
catch_up r = nexts (length r.machine.waiting) r

abbrev pub after_take : Message → ReplicaValue → CaughtUp
after_take message r = catch_up (after_step (Take message) r)

-- how the site took a message, and how many waiting operations after it
abbrev pub took_part : Reply → ℕ → List ℕ
took_part New next = codes " new" ++ spaced next
took_part Later next = codes " later"
took_part (Unfit why) next = codes " unfit"
took_part _ next = []
