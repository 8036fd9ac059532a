-- The atoms beside a replica are those that it shows, from step to step.
use Rattle.std.proofs.Common.{◌≡◌, ◌∙◌, ℕ, List, Option, Some, None, ap, sym}
use Rattle.std.specs.Prelude.{IfSome}
use Rattle.td_doc.specs.Document.{live_atoms}
use Rattle.td_machine.specs.Shown.{changed_by}
use Rattle.td_machine.proofs.Changes.{changes}
use Rattle.td_op.specs.declared.change.Change.{Change}
use Rattle.td_op.specs.declared.input.Input.{Input}
use Rattle.td_op.specs.Input.{IsInput}
use Rattle.td_replica.specs.Replica.{IsReplica, ReplicaValue, after_step}
use Rattle.td_replica.proofs.Legal.{reached}

goes_on : (old new : ReplicaValue) (input : Input) (change : Option Change) (atoms heard : List (List ℕ))
    → IsReplica old → IsInput input → atoms ≡ live_atoms old.machine.doc → new ≡ after_step input old
    → change ≡ new.change → heard ≡ changed_by change atoms → heard ≡ live_atoms new.machine.doc
goes_on old new input change atoms heard is valid shown stepped told hears =
    hears ∙ (λ i. changed_by (told i) (shown i))
    ∙ ap (λ (r : ReplicaValue). changed_by r.change (live_atoms old.machine.doc)) stepped
    ∙ sym (changes old.machine input (reached old is) valid)
    ∙ ap (λ (r : ReplicaValue). live_atoms r.machine.doc) (sym stepped)

-- and so are those of a rope that follows
pub follows : (old new : ReplicaValue) (input : Input) (change : Option Change) (atoms : List (List ℕ))
    (heard : Option (List (List ℕ))) → IsReplica old → IsInput input → atoms ≡ live_atoms old.machine.doc
    → new ≡ after_step input old → change ≡ new.change → IfSome heard (λ now. now ≡ changed_by change atoms)
    → IfSome heard (λ now. now ≡ live_atoms new.machine.doc)
follows old new input change atoms None is valid shown stepped told hears = tt
follows old new input change atoms (Some heard) is valid shown stepped told hears =
    goes_on old new input change atoms heard is valid shown stepped told hears
