-- The requests that a command hands to the site, up to the first that is refused.
use Rattle.std.specs.Prelude.{◌+◌, ℕ, List, [], ◌∷◌}
use Rattle.std.specs.Prelude.{Option, Some, None, if◌then◌else◌}
use Rattle.td_op.specs.declared.input.Input.TheVariants.{Local}
use Rattle.td_op.specs.declared.reply.Reply.{Reply}
use Rattle.td_op.specs.declared.request.Request.{Request}
use Rattle.td_machine.specs.Step.{step}
use Rattle.td_replica.specs.Replica.{ReplicaValue, after_step}
use Rattle.td_report.specs.declared.asking.Outcome.{Outcome}
use Rattle.td_report.specs.Asking.{Edit, is_made}

-- what came of edits: the replica behind them, how many atoms were edited, and the reply to one that was refused
pub record Edited : Type 0 where
  pub replica : ReplicaValue
  pub done : ℕ
  pub refused : Option Reply

-- told by what the code counts
abbrev pub edited : ReplicaValue → Outcome → Edited
edited r o = record { replica = r; done = o.done; refused = o.refused }

-- what the site replies to a request, and the replica behind it
abbrev pub reply_to : Request → ReplicaValue → Reply
reply_to request r = (step r.machine (Local request)).reply

abbrev pub after_request : Request → ReplicaValue → ReplicaValue
after_request request r = after_step (Local request) r

-- so many atoms were edited before
abbrev pub done_before : ℕ → Edited → Edited
done_before count a = record { replica = a.replica; done = count + a.done; refused = a.refused }

-- by the reply to the first, the replica behind it, and what comes of the others if they are asked there
abbrev pub goes_on : Reply → ReplicaValue → ℕ → Edited → Edited
goes_on reply r count others =
    if is_made reply then done_before count others else record { replica = r; done = 0; refused = Some reply }

abbrev pub ask_all : List Edit → ReplicaValue → Edited
ask_all [] r = record { replica = r; done = 0; refused = None }
ask_all (edit ∷ edits) r =
    goes_on (reply_to edit.request r) (after_request edit.request r) edit.atoms
    (ask_all edits (after_request edit.request r))
