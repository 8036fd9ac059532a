-- What is written into a room for bytes.
use Rattle.std.specs.Prelude.{◌≡◌, ◌⊎◌, ◌<◌, ◌≤◌, ◌++◌, ℕ, List, length, drop, Option, Some, None, Result, Ok, Err}
use Rattle.td_base.specs.Lists.{kth}
use Rattle.td_doc.specs.Document.{DocRow}
use Rattle.td_op.specs.declared.message.Message.{Message}
use Rattle.td_session.specs.declared.fault.Fault.{Fault}
use Rattle.td_session.specs.declared.fault.Fault.TheVariants.{Memory as NoMemory}
use Rattle.td_session.specs.Reads.{IsPacketOf, IsStretchOf}
use Rattle.treedoc_c.specs.declared.status.Status.{Status}
use Rattle.treedoc_c.specs.declared.status.Status.TheVariants.{Done, NoMessage, SmallRoom}
use Rattle.treedoc_c.specs.declared.written.Written.{Written}
use Rattle.treedoc_c.specs.Numbers.{fault_status, status_number}

-- the bytes stand at the front of the room, where they fit; else it is as before, and the status says so
pub record IsWrittenInto (bytes : List ℕ) (to : ℕ) (old new : List ℕ) (w : Written) : Type 0 where
  pub len : w.len ≡ length bytes
  pub goes : w.to ≡ to
  pub fits : length bytes ≤ length old
      → (w.status ≡ status_number Done) × (new ≡ bytes ++ drop (length bytes) old)
  pub small : length old < length bytes → (w.status ≡ status_number SmallRoom) × (new ≡ old)

-- nothing was written, and why
abbrev pub nothing_written : Status → Written
nothing_written s = record { status = status_number s; to = 0; len = 0 }

-- the text is written, where there is one
abbrev pub IsWrittenOf : Result (List ℕ) Fault → List ℕ → List ℕ → Written → Type 0
IsWrittenOf (Ok text) old new w = IsWrittenInto text 0 old new w
IsWrittenOf (Err fault) old new w = (w ≡ nothing_written (fault_status fault)) × (new ≡ old)

-- the text is written, unless memory runs out
abbrev pub IsTextWritten : List ℕ → List ℕ → List ℕ → Written → Type 0
IsTextWritten text old new w = (IsWrittenInto text 0 old new w) ⊎ (IsWrittenOf (Err NoMemory) old new w)

-- the stretch is written, where there is one
pub record IsStretchWritten (from upto : ℕ) (rows : List DocRow) (old new : List ℕ) (w : Written) : Type 0 where
  pub text : Result (List ℕ) Fault
  pub is : IsStretchOf from upto rows text
  pub written : IsWrittenOf text old new w

-- the number of the site to which a packet goes, or 0
abbrev pub goes_to : Option ℕ → ℕ
goes_to None = 0
goes_to (Some site) = site

-- the packet is written, and for whom it is
pub record IsPacketWritten (k : ℕ) (sent : List Message) (old new : List ℕ) (w : Written) : Type 0 where
  pub to : Option ℕ
  pub packet : List ℕ
  pub is : IsPacketOf k sent to packet
  pub written : IsWrittenInto packet (goes_to to) old new w

-- where there is such a message its packet is written
pub record IsPacked (k : ℕ) (sent : List Message) (old new : List ℕ) (w : Written) : Type 0 where
  pub none : kth k sent ≡ None → (w ≡ nothing_written NoMessage) × (new ≡ old)
  pub some : (m : Message) → kth k sent ≡ Some m → IsPacketWritten k sent old new w
