-- What a request comes to, before anything is done.
use Rattle.std.specs.Prelude.{ℕ, List, Option, Some, None, if◌then◌else◌}
use Rattle.td_base.specs.Value.{DotValue}
use Rattle.td_path.specs.declared.slot.Slot.{Slot}
use Rattle.td_op.specs.declared.body.Body.{Body}
use Rattle.td_op.specs.declared.body.Body.TheVariants.{Insert, Delete, Propose as ProposeIn, Commit, Abort}
use Rattle.td_op.specs.declared.request.Request.{Request}
use Rattle.td_op.specs.declared.reply.Reply.{Reply}
use Rattle.td_op.specs.declared.reply.Reply.TheVariants.{Held, Limit}
use Rattle.td_machine.specs.Hold.{held_slot}
use Rattle.td_machine.specs.Machine.{Machine, made, undecided}
use Rattle.td_machine.specs.Request.{Aim, Refuse, Do, GiveUp, aim, is_past_limit}
use Rattle.td_replica.specs.declared.requests.Verdict.{Verdict}
use Rattle.td_replica.specs.declared.requests.Verdict.TheVariants.{Answer, Put, Delete as DeleteRow, Propose, Cancel}

-- what stands against an operation that takes so many numbers: a hold, or that they are out
abbrev pub standing : Option DotValue → ℕ → Machine → Option Reply
standing (Some by) room m = Some (Held by)
standing None room m = if is_past_limit room m then Some (Limit (made m) (undecided m)) else None

-- an operation that may be made
abbrev pub allowed : Body → Verdict
allowed (ProposeIn slot) = Propose slot
allowed (Insert slot run) = Put slot
allowed (Delete x) = DeleteRow x
-- no request aims at a decision
allowed (Commit p) = Cancel p
allowed (Abort p) = Cancel p

abbrev pub unless : Option Reply → Body → Verdict
unless None body = allowed body
unless (Some reply) body = Answer reply

abbrev pub verdict_on : Aim → Machine → Verdict
verdict_on (Refuse reply) m = Answer reply
verdict_on (Do a) m = unless (standing a.held a.room m) a.body
verdict_on (GiveUp p) m = Cancel p

abbrev pub verdict : Request → Machine → Verdict
verdict request m = verdict_on (aim request m) m

-- a run to be put in this slot
abbrev pub put_aim : List (List ℕ) → Slot → Machine → Aim
put_aim run slot m =
    Do (record { body = Insert slot run; room = 1; held = held_slot m.doc slot m.holds })
