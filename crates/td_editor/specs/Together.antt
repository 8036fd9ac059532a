-- Editors of one text, side by side.
use Rattle.std.specs.Prelude.{◌≡◌, ◌<◌, ◌≤◌, ◌+◌, ◌-◌, ℕ, List, [], ◌∷◌, ◌++◌, length, map, Some, slice_get}
use Rattle.td_base.specs.declared.site.TheConstants.{MAX_SITE}
use Rattle.td_base.specs.Lists.{In}
use Rattle.td_op.specs.declared.input.Input.{Input}
use Rattle.td_op.specs.declared.input.Input.TheVariants.{Local, Take, Next}
use Rattle.td_op.specs.declared.message.Message.{Message}
use Rattle.td_op.specs.Message.{sender}
use Rattle.td_machine.specs.History.{Family, History}
use Rattle.td_machine.specs.Machine.{start}
use Rattle.td_replica.specs.Replica.{ReplicaValue, IsReplica}
use Rattle.td_editor.specs.Due.{TakesDue}

-- what one input takes
abbrev pub taken_by : Input → List Message
taken_by (Local request) = []
taken_by (Take message) = message ∷ []
taken_by Next = []

-- the messages that a history takes
abbrev pub taken : History → List Message
taken [] = []
taken (e ∷ entries) = taken_by e.input ++ taken entries

-- the replica of the editor at this place from 0, of so many
pub record IsSeated (size place : ℕ) (r : ReplicaValue) : Type 0 where
  pub replica : IsReplica r
  pub site : r.machine.site ≡ place + 1
  pub size_is : r.machine.size ≡ size
  pub due : TakesDue (start r.machine.site r.machine.size) r.entries

-- another one of them sent the message
pub record IsSentBy (replicas : List ReplicaValue) (message : Message) : Type 0 where
  pub some : 0 < sender message
  pub replica : ReplicaValue
  pub here : slice_get replicas (sender message - 1) ≡ Some replica
  pub sent : In message replica.machine.sent

-- the replicas of the editors of sites 1 to n, in this order, where each message that one took another one sent,
-- whatever was lost, came twice or came late
pub record AreTogether (replicas : List ReplicaValue) : Type 0 where
  pub some : 0 < length replicas
  pub few : length replicas ≤ MAX_SITE
  pub seated : (place : ℕ) (r : ReplicaValue) → slice_get replicas place ≡ Some r → IsSeated (length replicas) place r
  pub sent : (place : ℕ) (r : ReplicaValue) (message : Message) → slice_get replicas place ≡ Some r
      → In message (taken r.entries) → IsSentBy replicas message

-- their histories
abbrev pub family_of : List ReplicaValue → Family
family_of replicas = map (λ (r : ReplicaValue). r.entries) replicas
