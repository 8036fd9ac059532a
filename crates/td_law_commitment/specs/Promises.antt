-- What is promised of flattens: one decision, no edit beside, and no text changed.
use Rattle.std.specs.Prelude.{◌≡◌, ◌⊎◌, Bool, IsTrue, Some, None}
use Rattle.td_base.specs.Value.{DotValue}
use Rattle.td_base.specs.Lists.{In}
use Rattle.td_path.specs.declared.slot.Slot.{Slot}
use Rattle.td_op.specs.declared.body.Body.TheVariants.{Commit}
use Rattle.td_op.specs.Op.{OpValue}
use Rattle.td_op.specs.Past.{in_past}
use Rattle.td_doc.specs.Document.{text_of}
use Rattle.td_machine.specs.Log.{decides, decision}
use Rattle.td_machine.specs.Touches.{Touches}
use Rattle.td_machine.specs.History.{Family, Moment, IsOpOf, machine_at}
use Rattle.td_law_logs.specs.Logs.{IsCommit}
use Rattle.td_law_logs.specs.Entries.{EntryOf, machine_before, machine_then}

-- no two operations of the family decide one proposal
abbrev pub OneDecision : Family → Type 0
OneDecision family =
    (p : DotValue) (x y : OpValue) (a b : Bool) → IsOpOf family x → IsOpOf family y
    → decides p x.body ≡ Some a → decides p y.body ≡ Some b → x ≡ y

-- at each moment a site knows that decision of the proposal, or none
abbrev pub DecisionsAgree : Family → Type 0
DecisionsAgree family =
    (p : DotValue) (x : OpValue) (a : Bool) → IsOpOf family x → decides p x.body ≡ Some a → (t : Moment family)
    → (decision p (machine_at family t).log ≡ None) ⊎ (decision p (machine_at family t).log ≡ Some a)

-- an edit that touches the slot of a commit is in the commit's past, or has the commit in its own
abbrev pub NoConcurrentEdit : Family → Type 0
NoConcurrentEdit family =
    (c q e : OpValue) (slot : Slot) → IsCommit family c q slot → IsOpOf family e → Touches family e slot
    → IsTrue (in_past e c) ⊎ IsTrue (in_past c e)

-- an entry in which a commit is made or taken leaves the text
abbrev pub CommitsKeepText : Family → Type 0
CommitsKeepText family =
    (t : EntryOf family) (c : OpValue) (p : DotValue) → c.body ≡ Commit p
    → In c (machine_then family t).log → ¬ In c (machine_before family t).log
    → text_of (machine_then family t).doc ≡ text_of (machine_before family t).doc
