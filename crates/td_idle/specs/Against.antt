-- What stands against a candidate where the vote on a proposal of it is No.
use Rattle.std.specs.Prelude.{◌≡◌, ◌⊎◌, ℕ, List, true, false}
use Rattle.td_base.specs.Lists.{In}
use Rattle.td_base.specs.Value.{DotValue}
use Rattle.td_clock.specs.Vector.{vector_has}
use Rattle.td_path.specs.declared.slot.Slot.{Slot}
use Rattle.td_doc.specs.Answers.{is_rooted}
use Rattle.td_doc.specs.Document.{DocRow, row_id}
use Rattle.td_doc.specs.Slots.{rows_in_slot, is_known}
use Rattle.td_op.specs.Op.{OpValue}
use Rattle.td_machine.specs.History.{Family, Moment, IsOpOf, machine_at}
use Rattle.td_machine.specs.Log.{Committed, commits}
use Rattle.td_machine.specs.Machine.{Machine}
use Rattle.td_machine.specs.Vote.{is_apart}
use Rattle.td_idle.specs.Candidate.{is_held_over}

-- the dot of an operation that put a row of the slot, or deleted it
pub record IsDoneIn (m : Machine) (slot : Slot) (d : DotValue) : Type 0 where
  pub row : DocRow
  pub inside : In row (rows_in_slot m.doc slot)
  pub done : (d ≡ (row_id row).dot) ⊎ In d row.deletes

-- at the moment u an edit was done in the slot that the site of the moment t did not have, and whose own site knew all
-- that was done there at t
pub record IsLateEdit (family : Family) (t u : Moment family) (slot : Slot) (d : DotValue) : Type 0 where
  pub done : IsDoneIn (machine_at family u) slot d
  pub late : vector_has (machine_at family t).have d ≡ false
  pub knew : (e : OpValue) → IsOpOf family e → e.dot ≡ d → is_known (machine_at family t).doc slot e.deps ≡ true

-- a commit that the vector does not have, of a slot that is not known to lie apart
pub record IsUnseenCommit (m : Machine) (slot : Slot) (v : List ℕ) (c : Committed) : Type 0 where
  pub inside : In c (commits m.log)
  pub unseen : vector_has v c.dot ≡ false
  pub near : is_apart m.doc slot c ≡ false

-- against a slot proposed at the moment t stands at the moment u a late edit, a hold, or what only a commit brings
-- that was not seen at t: the slot's atom is gone, or the commit itself is near
abbrev pub IsAgainst : (family : Family) → Moment family → Moment family → Slot → Type 0
IsAgainst family t u slot =
    ((d : DotValue) × IsLateEdit family t u slot d)
    ⊎ ((is_held_over (machine_at family u) slot ≡ true)
    ⊎ ((is_rooted (machine_at family u).doc slot ≡ false)
    ⊎ ((c : Committed) × IsUnseenCommit (machine_at family u) slot (machine_at family t).have c)))
