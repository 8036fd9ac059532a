-- A replica as contracts see it: its machine, and the history that led there.
use Rattle.std.specs.Prelude.{◌≡◌, ◌<◌, ◌≤◌, ◌++◌, ℕ, [], ◌∷◌, Bool, true, false, not, Option, None}
use Rattle.td_base.specs.declared.site.TheConstants.{MAX_SITE}
use Rattle.td_op.specs.declared.change.Change.{Change}
use Rattle.td_op.specs.declared.entry.Entry.{Entry}
use Rattle.td_op.specs.declared.input.Input.{Input}
use Rattle.td_op.specs.declared.input.Input.TheVariants.{Take, Next}
use Rattle.td_op.specs.declared.message.Message.{Message}
use Rattle.td_op.specs.declared.reply.Reply.{Reply}
use Rattle.td_op.specs.declared.reply.Reply.TheVariants.{Made, Cancelled, Held, Position, Gone, Limit, NotOpen, New}
use Rattle.td_op.specs.declared.reply.Reply.TheVariants.{Later, Repeat, Unfit, Taken, Dropped, Idle}
use Rattle.td_machine.specs.History.{History, after, IsLegal}
use Rattle.td_machine.specs.Machine.{Machine, start}
use Rattle.td_machine.specs.Shown.{change_between}
use Rattle.td_machine.specs.Step.{step}

pub record ReplicaValue : Type 0 where
  pub machine : Machine
  -- the oldest entry first
  pub entries : History
  -- what the last step did to the list of live atoms
  pub change : Option Change

-- the replica of a site of so many at the beginning
abbrev pub new_replica : ℕ → ℕ → ReplicaValue
new_replica site size = record { machine = start site size; entries = []; change = None }

-- the replica after one more step
abbrev pub after_step : Input → ReplicaValue → ReplicaValue
after_step input r =
    record {
      machine = (step r.machine input).machine;
      entries = r.entries ++ record { input = input; reply = (step r.machine input).reply } ∷ [];
      change = change_between r.machine (step r.machine input).machine;
    }

-- the history of its site is legal and has led to the machine, and the change is that of the last step
pub record IsReplica (r : ReplicaValue) : Type 0 where
  pub some : 0 < r.machine.site
  pub within : r.machine.site ≤ r.machine.size
  pub few : r.machine.size ≤ MAX_SITE
  pub legal : IsLegal r.machine.site r.machine.size r.entries
  pub is : r.machine ≡ after (start r.machine.site r.machine.size) r.entries
  pub still : r.entries ≡ [] → r.change ≡ None
  pub told : (front : History) (e : Entry) → r.entries ≡ front ++ e ∷ []
      → r.change ≡ change_between (after (start r.machine.site r.machine.size) front) r.machine

abbrev pub is_repeat : Reply → Bool
is_repeat Repeat = true
is_repeat (Made dot) = false
is_repeat Cancelled = false
is_repeat (Held by) = false
is_repeat (Position len) = false
is_repeat (Gone x) = false
is_repeat (Limit made undecided) = false
is_repeat (NotOpen p) = false
is_repeat New = false
is_repeat Later = false
is_repeat (Unfit why) = false
is_repeat (Taken dot) = false
is_repeat (Dropped dot why) = false
is_repeat Idle = false

abbrev pub is_idle : Reply → Bool
is_idle Idle = true
is_idle Repeat = false
is_idle (Made dot) = false
is_idle Cancelled = false
is_idle (Held by) = false
is_idle (Position len) = false
is_idle (Gone x) = false
is_idle (Limit made undecided) = false
is_idle (NotOpen p) = false
is_idle New = false
is_idle Later = false
is_idle (Unfit why) = false
is_idle (Taken dot) = false
is_idle (Dropped dot why) = false

-- to take the message again would change nothing
abbrev pub knows_message : Message → Machine → Bool
knows_message message m = is_repeat (step m (Take message)).reply

-- an operation that waits can be taken
abbrev pub has_ready : Machine → Bool
has_ready m = not (is_idle (step m Next).reply)
