-- What votes and holds give at every site: the facts that agreement of sites rests on.
use Rattle.std.specs.Prelude.{◌≡◌, ◌⊎◌, ◌<◌, ◌≤◌, ◌++◌, ℕ, List, ◌∷◌, length, true, false}
use Rattle.td_base.specs.Lists.{In}
use Rattle.td_path.specs.declared.slot.Slot.{Slot}
use Rattle.td_op.specs.Op.{OpValue}
use Rattle.td_doc.specs.Document.{DocRow}
use Rattle.td_doc.specs.Slots.{overlaps}
use Rattle.td_machine.specs.Hold.{is_held}
use Rattle.td_doc.specs.Answers.{is_rooted}
use Rattle.td_machine.specs.Touches.{IsRowOf}
use Rattle.td_machine.specs.History.{Family, History, IsOpOf, history, machine_after, log_of}
use Rattle.td_machine.specs.Replay.{doc_of}
use Rattle.td_law_logs.specs.Logs.{IsLogOf, base, IsCommit}
use Rattle.td_law_logs.specs.Places.{slot_holds, Overlap}

-- the proposal of the commit is in the log, and the commit is not
pub record IsHeld (family : Family) (c q : OpValue) (slot : Slot) (log : List OpValue) : Type 0 where
  pub of : IsLogOf family log
  pub commit : IsCommit family c q slot
  pub proposed : In q log
  pub open_yet : In c log → ⊥

pub record IsVoted (family : Family) : Type 0 where
  -- each site has voted on the proposal of a commit, or made it
  pub everywhere : (c q : OpValue) (slot : Slot) → IsCommit family c q slot
      → (site : ℕ) → 0 < site → site ≤ length family → In q (log_of family site)
  -- its machine holds the proposal until it has the commit
  pub kept : (c q : OpValue) (slot : Slot) → IsCommit family c q slot
      → (site : ℕ) → 0 < site → site ≤ length family → (front back : History) → history family site ≡ front ++ back
      → In q (machine_after family site front).log → (In c (machine_after family site front).log → ⊥)
      → is_held q.dot (machine_after family site front).holds ≡ true
  -- the atom of a held slot is a row
  pub rooted : (c q : OpValue) (slot : Slot) (log : List OpValue) → IsHeld family c q slot log
      → is_rooted (doc_of log) slot ≡ true
  -- held slots lie apart
  pub apart : (c q d p : OpValue) (s t : Slot) (log : List OpValue) → IsHeld family c q s log
      → IsHeld family d p t log → (q ≡ p → ⊥) → overlaps (doc_of log) s t ≡ false
  -- in turn: a commit of the log whose slot overlaps a held one was known to the proposer of the hold
  pub in_turn : (c q : OpValue) (slot : Slot) (log : List OpValue) → IsHeld family c q slot log
      → (e : OpValue) → In e log → Overlap family log e c → In e (base family c)
  -- no edit beside: an edit of which a row is in the slot of a commit, right after it was made, was known to the
  -- commit's proposer, or was made after the commit
  pub beside : (e c q : OpValue) (slot : Slot) → IsOpOf family e → IsCommit family c q slot
      → (r : DocRow) → In r (doc_of (e ∷ base family e)) → IsRowOf e e.body r → slot_holds slot r.path ≡ true
      → In e (base family c) ⊎ In c (base family e)
