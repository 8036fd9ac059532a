-- What each call of a session comes to: one step of the machine, or none.
use Rattle.std.specs.Prelude.{◌≡◌, ◌≢◌, ◌≤◌, ◌⊎◌, ◌∷◌, ℕ, List, [], true, All, Result, Err, IfOk, IfErr, OnOk}
use Rattle.std.specs.Str.{IsUtf8}
use Rattle.unicode_segmentation.specs.Grapheme.{graphemes}
use Rattle.td_base.specs.Atom.{IsAtom}
use Rattle.td_base.specs.Value.{DotValue, IsDot}
use Rattle.td_base.specs.declared.site.TheConstants.{MAX_SITE}
use Rattle.td_op.specs.declared.input.Input.{Input}
use Rattle.td_op.specs.declared.input.Input.TheVariants.{Local, Take}
use Rattle.td_op.specs.declared.message.Message.{Message}
use Rattle.td_op.specs.declared.reply.Reply.{Reply}
use Rattle.td_op.specs.declared.request.Request.TheVariants.{Insert, Paste, Cancel}
use Rattle.td_machine.specs.Step.{step}
use Rattle.td_replica.specs.Replica.{ReplicaValue, after_step, new_replica}
use Rattle.td_text.specs.Runs.{runs_of}
use Rattle.td_wire.specs.Spelling.{SpellsIn, IsFaultAt}
use Rattle.td_session.specs.declared.fault.Fault.{Fault}
use Rattle.td_session.specs.declared.fault.Fault.TheVariants.{Memory, Site, Atom, Text, Dot, Packet}

-- one step of the machine: the result is its reply; after want of memory the replica is as before
pub record IsCall (input : Input) (old : ReplicaValue) (result : Result Reply Fault) (new : ReplicaValue)
    : Type 0 where
  pub reply : IfOk result (λ reply. reply ≡ (step old.machine input).reply)
  pub ok : OnOk result (new ≡ after_step input old)
  pub err : IfErr result (λ fault. (fault ≡ Memory) × (new ≡ old))

-- no step: the replica is as before
abbrev pub IsRefused : Fault → ReplicaValue → Result Reply Fault → ReplicaValue → Type 0
IsRefused fault old result new = (result ≡ Err fault) × (new ≡ old)

-- ---- opening

-- there is such a site among so many
pub record IsSiteAmong (site sites : ℕ) : Type 0 where
  pub some : 1 ≤ site
  pub within : site ≤ sites
  pub few : sites ≤ MAX_SITE

pub record IsOpened (site sites : ℕ) (result : Result ReplicaValue Fault) : Type 0 where
  pub ok : IfOk result (λ r. IsSiteAmong site sites × (r ≡ new_replica site sites))
  pub memory : IsSiteAmong site sites → IfErr result (λ fault. fault ≡ Memory)
  pub other : ¬ IsSiteAmong site sites → result ≡ Err Site

-- ---- requests

pub record IsInsert (index : ℕ) (text : List ℕ) (old : ReplicaValue) (result : Result Reply Fault)
    (new : ReplicaValue) : Type 0 where
  pub atom : IsAtom text → IsCall (Local (Insert index text)) old result new
  pub other : ¬ IsAtom text → IsRefused Atom old result new

-- UTF-8 that has clusters, all of them atoms
pub record IsText (text : List ℕ) : Type 0 where
  pub utf8 : IsUtf8 text
  pub some : graphemes true text ≢ []
  pub each : All IsAtom (graphemes true text)

-- as many of its clusters as fit into a run are the first of its runs
pub record IsFirstRun (text : List ℕ) (run : List (List ℕ)) : Type 0 where
  pub is_text : IsText text
  pub runs : List (List (List ℕ))
  pub first : runs_of (graphemes true text) ≡ run ∷ runs

-- of what is no text want of memory can be told too
pub record IsPaste (index : ℕ) (text : List ℕ) (old : ReplicaValue) (result : Result Reply Fault)
    (new : ReplicaValue) : Type 0 where
  pub run : (run : List (List ℕ)) → IsFirstRun text run → IsCall (Local (Paste index run)) old result new
  pub other : ¬ IsText text → (IsRefused Text old result new) ⊎ (IsRefused Memory old result new)

-- the name of an operation
abbrev pub dot_of : ℕ → ℕ → DotValue
dot_of site number = record { site = site; seq = number }

pub record IsCancel (site number : ℕ) (old : ReplicaValue) (result : Result Reply Fault) (new : ReplicaValue)
    : Type 0 where
  pub dot : IsDot (dot_of site number) → IsCall (Local (Cancel (dot_of site number))) old result new
  pub other : ¬ IsDot (dot_of site number) → IsRefused Dot old result new

-- ---- packets

-- the bytes are no packet, and the place of the first that is at fault is told
abbrev pub IsNoPacket : List ℕ → ReplicaValue → Result Reply Fault → ReplicaValue → Type 0
IsNoPacket packet old result new = (at : ℕ) × IsFaultAt packet at × IsRefused (Packet at) old result new

pub record IsReceived (packet : List ℕ) (old : ReplicaValue) (result : Result Reply Fault) (new : ReplicaValue)
    : Type 0 where
  pub message : (m : Message) → SpellsIn m packet → IsCall (Take m) old result new
  pub other : ((m : Message) → ¬ SpellsIn m packet) → IsNoPacket packet old result new
