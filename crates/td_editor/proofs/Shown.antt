-- An editor that does a step is one.
use Rattle.std.proofs.Common.{◌≡◌, ℕ, List, [], ◌∷◌, ◌++◌, Option, Some, None, sym, subst}
use Rattle.std.specs.Option.{option_to_list}
use Rattle.td_op.specs.declared.change.Change.{Change}
use Rattle.td_op.specs.declared.entry.Entry.{Entry}
use Rattle.td_op.specs.declared.input.Input.{Input}
use Rattle.td_op.specs.Change.{changed}
use Rattle.td_op.specs.Input.{IsInput}
use Rattle.td_doc.specs.Document.{live_atoms}
use Rattle.td_machine.specs.Machine.{Machine, start}
use Rattle.td_machine.specs.Shown.{changed_by}
use Rattle.td_machine.specs.Step.{step}
use Rattle.td_machine.proofs.Changes.{changes}
use Rattle.td_machine.specs.Parts.{Anything, IsBuilt}
use Rattle.td_machine.proofs.Turns.{placed}
use Rattle.td_machine.proofs.Walk.{built_step}
use Rattle.td_replica.specs.Replica.{ReplicaValue, IsReplica, after_step}
use Rattle.td_replica.proofs.Legal.{reached, built}
use Rattle.td_editor.specs.Screens.{IsInRange, hear_all}
use Rattle.td_editor.specs.Due.{MayTake, TakesDue}
use Rattle.td_editor.specs.Editors.{EditorValue, IsEditor, after_input}
use Rattle.td_editor.proofs.Due.{due_more}
use Rattle.td_editor.proofs.InRange.{in_range}

-- ---- the replica

module _ (r : ReplicaValue) (i : IsReplica r) (input : Input) (valid : IsInput input) where
  abbrev next : Machine
  next = (step r.machine input).machine

  built_next : IsBuilt Anything r.machine.site r.machine.size next
  built_next = built_step r.machine input valid (λ message e. tt) (built r i)

  same_site : next.site ≡ r.machine.site
  same_site = (placed next built_next).2

  same_size : next.size ≡ r.machine.size
  same_size = (placed next built_next).3

  pub due_next : MayTake r.machine input → TakesDue (start r.machine.site r.machine.size) r.entries
      → TakesDue (start next.site next.size) (after_step input r).entries
  due_next may due =
      let e : Entry = record { input = input; reply = (step r.machine input).reply } in
      subst (λ (n : Machine). TakesDue n (r.entries ++ e ∷ []))
      (λ j. start (sym same_site j) (sym same_size j))
      (due_more (start r.machine.site r.machine.size) r.entries e due
      (subst (λ (n : Machine). MayTake n input) i.is may))

-- ---- the screen

module _ {T : Type 0} (heard : T → Change → T) (shows : T → List (List ℕ) → Type 0)
    (follows : (s : T) (atoms : List (List ℕ)) (change : Change) → shows s atoms
    → shows (heard s change) (changed change atoms)) where
  hears : (change : Option Change) (s : T) (atoms : List (List ℕ)) → shows s atoms
      → shows (hear_all heard (option_to_list change) s) (changed_by change atoms)
  hears None s atoms h = h
  hears (Some change) s atoms h = follows s atoms change h

  pub goes_on : (e : EditorValue T) (input : Input) → IsReplica e.replica → IsInput input
      → MayTake e.replica.machine input → IsEditor shows e → IsEditor shows (after_input heard input e)
  goes_on e input i valid may editor =
      record {
        shown = subst (shows (hear_all heard (option_to_list (after_step input e.replica).change) e.screen))
            (sym (changes e.replica.machine input (reached e.replica i) valid))
            (hears (after_step input e.replica).change e.screen (live_atoms e.replica.machine.doc) editor.shown);
        due = due_next e.replica i input valid may editor.due;
      }

-- the change that a step tells is in range of what the screen shows
pub told_in_range : {T : Type 0} (shows : T → List (List ℕ) → Type 0) (e : EditorValue T) (input : Input)
    → IsReplica e.replica → IsInput input → IsEditor shows e → (change : Change)
    → (after_step input e.replica).change ≡ Some change → IsInRange shows e.screen change
told_in_range shows e input i valid editor change is =
    record {
      atoms = live_atoms e.replica.machine.doc;
      shown = editor.shown;
      fits = in_range e.replica.machine input change (reached e.replica i) valid is;
    }
