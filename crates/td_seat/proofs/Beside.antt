-- What waits beside a machine makes no difference to requests and votes.
use Rattle.std.proofs.Common.{◌≡◌, List, [], ap, ◌∙◌}
use Rattle.td_op.specs.declared.input.Input.TheVariants.{Local, Take}
use Rattle.td_op.specs.declared.message.Message.TheVariants.{Vote as AVote}
use Rattle.td_op.specs.declared.request.Request.{Request}
use Rattle.td_op.specs.declared.vote.Vote.{Vote}
use Rattle.td_op.specs.Op.{OpValue}
use Rattle.td_machine.specs.Machine.{Machine}
use Rattle.td_machine.specs.Taking.{Stepped}
use Rattle.td_machine.specs.Step.{step}
use Rattle.td_law_replay.proofs.Outlined.{local_with, vote_with}

-- the reply, and the machine but for what waits
pub ask_beside : (request : Request) (w : List OpValue) (m : Machine)
    → ((step (record m { waiting = w }) (Local request)).reply ≡ (step m (Local request)).reply)
    × ((step (record m { waiting = w }) (Local request)).machine
    ≡ record (step m (Local request)).machine { waiting = w })
    × ((step m (Local request)).machine.waiting ≡ m.waiting)
ask_beside request w m = (
  ap (λ (s : Stepped). s.reply) (local_with request w m),
  ap (λ (s : Stepped). s.machine) (local_with request w m),
  ap (λ (s : Stepped). s.machine.waiting) (local_with request m.waiting m),
)

pub count_beside : (v : Vote) (w : List OpValue) (m : Machine)
    → ((step (record m { waiting = w }) (Take (AVote v))).reply ≡ (step m (Take (AVote v))).reply)
    × ((step (record m { waiting = w }) (Take (AVote v))).machine
    ≡ record (step m (Take (AVote v))).machine { waiting = w })
    × ((step m (Take (AVote v))).machine.waiting ≡ m.waiting)
count_beside v w m = (
  ap (λ (s : Stepped). s.reply) (vote_with v w m),
  ap (λ (s : Stepped). s.machine) (vote_with v w m),
  ap (λ (s : Stepped). s.machine.waiting) (vote_with v m.waiting m),
)

pub ask_reply : (request : Request) (w : List OpValue) (m : Machine)
    → (step (record m { waiting = w }) (Local request)).reply ≡ (step m (Local request)).reply
ask_reply request w m = (ask_beside request w m).0

pub ask_machine : (request : Request) (w : List OpValue) (m : Machine)
    → (step (record m { waiting = w }) (Local request)).machine
    ≡ record (step m (Local request)).machine { waiting = w }
ask_machine request w m = (ask_beside request w m).1

pub ask_keeps : (request : Request) (m : Machine) → m.waiting ≡ [] → (step m (Local request)).machine.waiting ≡ []
ask_keeps request m e = (ask_beside request [] m).2 ∙ e
