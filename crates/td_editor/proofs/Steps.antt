-- Steps one after another, and the changes that they tell.
use Rattle.std.proofs.Common.{◌≡◌, List, [], ◌∷◌, ◌++◌, ℕ, Option, Some, None, refl}
use Rattle.std.proofs.Common.{sym, ap, ◌∙◌, append-nil, append_assoc}
use Rattle.std.specs.List.{AllByRecursion}
use Rattle.std.specs.Option.{option_to_list}
use Rattle.td_op.specs.declared.change.Change.{Change}
use Rattle.td_op.specs.declared.input.Input.{Input}
use Rattle.td_op.specs.Input.{IsInput}
use Rattle.td_doc.specs.Document.{live_atoms}
use Rattle.td_machine.specs.History.{IsReached}
use Rattle.td_machine.specs.Shown.{changed_by}
use Rattle.td_machine.proofs.Changes.{changes}
use Rattle.td_machine.proofs.Induction.{reached_step}
use Rattle.td_replica.specs.Replica.{ReplicaValue, after_step}
use Rattle.td_editor.specs.Screens.{hear_all, changed_all}
use Rattle.td_editor.specs.Editors.{EditorValue, after_steps, changes_of, after_input, after_inputs}

hear_both : {T : Type 0} (heard : T → Change → T) (front back : List Change) (s : T)
    → hear_all heard (front ++ back) s ≡ hear_all heard back (hear_all heard front s)
hear_both heard [] back s = refl
hear_both heard (change ∷ front) back s = hear_both heard front back (heard s change)

steps_both : (front back : List Input) (r : ReplicaValue)
    → after_steps (front ++ back) r ≡ after_steps back (after_steps front r)
steps_both [] back r = refl
steps_both (input ∷ front) back r = steps_both front back (after_step input r)

changes_both : (front back : List Input) (r : ReplicaValue)
    → changes_of (front ++ back) r ≡ changes_of front r ++ changes_of back (after_steps front r)
changes_both [] back r = refl
changes_both (input ∷ front) back r =
    let first : List Change = option_to_list (after_step input r).change in
    ap (λ (l : List Change). first ++ l) (changes_both front back (after_step input r))
    ∙ sym (append_assoc first (changes_of front (after_step input r))
    (changes_of back (after_steps front (after_step input r))))

-- some steps, and then others
pub after_both : {T : Type 0} (heard : T → Change → T) (front back : List Input) (e : EditorValue T)
    → after_inputs heard (front ++ back) e ≡ after_inputs heard back (after_inputs heard front e)
after_both heard front back e =
    let replicas : after_steps (front ++ back) e.replica ≡ after_steps back (after_steps front e.replica) =
    steps_both front back e.replica in
    let screens : hear_all heard (changes_of (front ++ back) e.replica) e.screen
    ≡ hear_all heard (changes_of back (after_steps front e.replica))
    (hear_all heard (changes_of front e.replica) e.screen) =
    ap (λ (l : List Change). hear_all heard l e.screen) (changes_both front back e.replica)
    ∙ hear_both heard (changes_of front e.replica) (changes_of back (after_steps front e.replica)) e.screen in
    λ i. record { replica = replicas i; screen = screens i }

-- one step
pub after_one : {T : Type 0} (heard : T → Change → T) (input : Input) (e : EditorValue T)
    → after_inputs heard (input ∷ []) e ≡ after_input heard input e
after_one heard input e =
    let same : option_to_list (after_step input e.replica).change ++ []
    ≡ option_to_list (after_step input e.replica).change =
    append-nil (option_to_list (after_step input e.replica).change) in
    λ i. record { replica = after_step input e.replica; screen = hear_all heard (same i) e.screen }

pub after_more : {T : Type 0} (heard : T → Change → T) (front : List Input) (input : Input) (e : EditorValue T)
    → after_inputs heard (front ++ input ∷ []) e ≡ after_input heard input (after_inputs heard front e)
after_more heard front input e =
    after_both heard front (input ∷ []) e ∙ after_one heard input (after_inputs heard front e)

pub after_first : {T : Type 0} (heard : T → Change → T) (input : Input) (inputs : List Input) (e : EditorValue T)
    → after_inputs heard (input ∷ inputs) e ≡ after_inputs heard inputs (after_input heard input e)
after_first heard input inputs e =
    after_both heard (input ∷ []) inputs e ∙ ap (after_inputs heard inputs) (after_one heard input e)

-- ---- the atoms shown

one_change : (change : Option Change) (atoms : List (List ℕ))
    → changed_by change atoms ≡ changed_all (option_to_list change) atoms
one_change None atoms = refl
one_change (Some change) atoms = refl

pub lead_on : (inputs : List Input) (r : ReplicaValue) → IsReached r.machine → AllByRecursion IsInput inputs
    → live_atoms (after_steps inputs r).machine.doc ≡ changed_all (changes_of inputs r) (live_atoms r.machine.doc)
lead_on [] r reached valid = refl
lead_on (input ∷ inputs) r reached valid =
    let next : ReplicaValue = after_step input r in
    let first : List Change = option_to_list (after_step input r).change in
    let here : live_atoms (after_step input r).machine.doc ≡ changed_all first (live_atoms r.machine.doc) =
    changes r.machine input reached valid.0 ∙ one_change (after_step input r).change (live_atoms r.machine.doc) in
    lead_on inputs next (reached_step r.machine input reached valid.0) valid.1
    ∙ ap (changed_all (changes_of inputs next)) here
    ∙ sym (hear_both _ first (changes_of inputs next) (live_atoms r.machine.doc))
