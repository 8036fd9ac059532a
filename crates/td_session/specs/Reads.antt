-- What a session tells.
use Rattle.std.specs.Prelude.{◌≡◌, ◌≤◌, ◌-◌, ℕ, List, length, take, drop, Option, Some, None, Result, Ok, Err}
use Rattle.std.specs.Prelude.{IfOk, IfErr}
use Rattle.std.specs.List.{concat}
use Rattle.td_base.specs.Lists.{kth}
use Rattle.td_clock.specs.Vector.{vector_get}
use Rattle.td_doc.specs.Document.{DocRow, live_atoms, live_rows}
use Rattle.td_machine.specs.Machine.{Machine}
use Rattle.td_op.specs.declared.message.Message.{Message}
use Rattle.td_op.specs.declared.message.Message.TheVariants.{Op, Vote}
use Rattle.td_wire.specs.declared.format.Format.TheVariants.{Two}
use Rattle.td_wire.specs.Spelling.{Spells}
use Rattle.td_session.specs.declared.fault.Fault.{Fault}
use Rattle.td_session.specs.declared.fault.Fault.TheVariants.{Memory, Site, Stretch}
use Rattle.td_session.specs.Calls.{IsSiteAmong}

-- the site to which a message goes: an operation goes to all others
abbrev pub receiver : Message → Option ℕ
receiver (Op o) = None
receiver (Vote v) = Some v.proposal.site

-- the bytes are the packet of the k-th message that was sent, which goes to this site, or with none to all others
pub record IsPacketOf (k : ℕ) (sent : List Message) (to : Option ℕ) (packet : List ℕ) : Type 0 where
  pub message : Message
  pub is : kth k sent ≡ Some message
  pub goes : to ≡ receiver message
  pub spelled : Spells Two message packet

-- the text of the atoms shown from one index on and before another
abbrev pub stretch : ℕ → ℕ → List DocRow → List ℕ
stretch from upto rows = concat (take (upto - from) (drop from (live_atoms rows)))

-- the indexes are in order, and within the text
pub record IsWithin (from upto : ℕ) (rows : List DocRow) : Type 0 where
  pub ordered : from ≤ upto
  pub within : upto ≤ length (live_rows rows)

pub record IsStretchOf (from upto : ℕ) (rows : List DocRow) (result : Result (List ℕ) Fault) : Type 0 where
  pub ok : IfOk result (λ text. IsWithin from upto rows × (text ≡ stretch from upto rows))
  pub memory : IsWithin from upto rows → IfErr result (λ fault. fault ≡ Memory)
  pub other : ¬ IsWithin from upto rows → result ≡ Err Stretch

-- the number of the site in the version vector
pub record IsHad (site : ℕ) (m : Machine) (result : Result ℕ Fault) : Type 0 where
  pub seat : IsSiteAmong site (length m.have) → result ≡ Ok (vector_get m.have site)
  pub other : ¬ IsSiteAmong site (length m.have) → result ≡ Err Site
