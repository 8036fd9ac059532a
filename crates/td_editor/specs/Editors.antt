-- An editor as contracts see it, and what its calls do.
use Rattle.std.specs.Prelude.{◌≡◌, ◌++◌, ℕ, zero, suc, List, [], ◌∷◌, false, length, if◌then◌else◌}
use Rattle.std.specs.Option.{option_to_list}
use Rattle.td_op.specs.declared.change.Change.{Change}
use Rattle.td_op.specs.declared.input.Input.{Input}
use Rattle.td_op.specs.declared.input.Input.TheVariants.{Take, Next}
use Rattle.td_op.specs.declared.message.Message.{Message}
use Rattle.td_op.specs.declared.reply.Reply.{Reply}
use Rattle.td_doc.specs.Document.{live_atoms}
use Rattle.td_machine.specs.Machine.{Machine, start}
use Rattle.td_machine.specs.Step.{step}
use Rattle.td_replica.specs.Replica.{ReplicaValue, after_step, has_ready}
use Rattle.td_editor.specs.declared.received.Received.{Received}
use Rattle.td_editor.specs.declared.received.Received.TheVariants.{Took}
use Rattle.td_editor.specs.Screens.{hear_all}
use Rattle.td_editor.specs.Due.{TakesDue}

pub record EditorValue (T : Type 0) : Type 0 where
  pub replica : ReplicaValue
  -- what is seen of the screen
  pub screen : T

-- the screen shows the atoms of the replica, which took no message that was not due
pub record IsEditor {T : Type 0} (shows : T → List (List ℕ) → Type 0) (e : EditorValue T) : Type 0 where
  pub shown : shows e.screen (live_atoms e.replica.machine.doc)
  pub due : TakesDue (start e.replica.machine.site e.replica.machine.size) e.replica.entries

-- ---- steps

-- the replica after a step for each of these inputs
abbrev pub after_steps : List Input → ReplicaValue → ReplicaValue
after_steps [] r = r
after_steps (input ∷ inputs) r = after_steps inputs (after_step input r)

-- what these steps do to the atoms shown, in order
abbrev pub changes_of : List Input → ReplicaValue → List Change
changes_of [] r = []
changes_of (input ∷ inputs) r = option_to_list (after_step input r).change ++ changes_of inputs (after_step input r)

-- what one step is answered
abbrev pub reply_to : {T : Type 0} → Input → EditorValue T → Reply
reply_to input e = (step e.replica.machine input).reply

-- the editor after one step: its screen has heard of the change, if there was one
abbrev pub after_input : {T : Type 0} → (T → Change → T) → Input → EditorValue T → EditorValue T
after_input heard input e =
    record {
      replica = after_step input e.replica;
      screen = hear_all heard (option_to_list (after_step input e.replica).change) e.screen;
    }

-- and after a step for each of these inputs: its screen has heard of each change, once and in order
abbrev pub after_inputs : {T : Type 0} → (T → Change → T) → List Input → EditorValue T → EditorValue T
after_inputs heard inputs e =
    record {
      replica = after_steps inputs e.replica;
      screen = hear_all heard (changes_of inputs e.replica) e.screen;
    }

-- a step found no memory: those before it are done, and the screen has heard of them
pub record IsStopped {T : Type 0} (heard : T → Change → T) (inputs : List Input) (old new : EditorValue T)
    : Type 0 where
  pub front : List Input
  pub wanting : Input
  pub back : List Input
  pub splits : inputs ≡ front ++ wanting ∷ back
  pub after : new ≡ after_inputs heard front old

-- ---- what waits

-- as long as an operation that waits can be taken, and at most so often
abbrev pub nexts : ℕ → Machine → List Input
nexts zero m = []
nexts (suc k) m = if has_ready m then Next ∷ nexts k (step m Next).machine else []

-- as many as wait: each takes one away from those
abbrev pub all_nexts : Machine → List Input
all_nexts m = nexts (length m.waiting) m

-- ---- a message

-- the message, and then what waits
abbrev pub taking : Message → Machine → List Input
taking message m = Take message ∷ all_nexts (step m (Take message)).machine

-- the message is answered, and after it so many operations are taken that waited
abbrev pub answer_to : Message → Machine → Received
answer_to message m =
    Took (step m (Take message)).reply (length (all_nexts (step m (Take message)).machine))

-- the message is taken, and then what waits, as long as something is ready
pub record IsTaken {T : Type 0} (heard : T → Change → T) (message : Message) (old new : EditorValue T)
    (answer : Received) : Type 0 where
  pub answered : answer ≡ answer_to message old.replica.machine
  pub after : new ≡ after_inputs heard (taking message old.replica.machine) old
  pub ready : has_ready new.replica.machine ≡ false
