-- A world: sites side by side, and the messages that they sent. What happens in it is a list of moves, each one step of
-- one site's machine.
use Rattle.std.specs.Prelude.{◌≡◌, ◌<◌, ◌≤◌, ◌++◌, ◌+◌, ◌-◌, ◌==◌, ℕ, zero, suc, List, [], ◌∷◌}
use Rattle.std.specs.Prelude.{Bool, true, length, map, filter, drop, slice_set}
use Rattle.td_base.specs.Lists.{In}
use Rattle.td_op.specs.Input.{IsInput}
use Rattle.td_op.specs.declared.input.Input.{Input}
use Rattle.td_op.specs.declared.input.Input.TheVariants.{Take}
use Rattle.td_op.specs.declared.message.Message.{Message}
use Rattle.td_op.specs.declared.reply.Reply.{Reply}
use Rattle.td_machine.specs.Machine.{Machine}
use Rattle.td_machine.specs.Step.{step}
use Rattle.td_machine.specs.History.{Family, machine, IsConsistent}
use Rattle.td_op.specs.Message.{sender, is_for}
use Rattle.td_replica.specs.Replica.{ReplicaValue, new_replica, after_step}

pub record WorldValue : Type 0 where
  -- each machine with its history, that of site s at place s - 1
  pub replicas : List ReplicaValue
  -- in the order of sending; the first has the number 1
  pub sent : List Message

-- the number of sites
abbrev pub size : WorldValue → ℕ
size w = length w.replicas

abbrev pub replica_from : List ReplicaValue → ℕ → ReplicaValue
replica_from [] k = new_replica (suc k) 0
replica_from (r ∷ replicas) zero = r
replica_from (r ∷ replicas) (suc k) = replica_from replicas k

-- the replica of a site
abbrev pub replica : WorldValue → ℕ → ReplicaValue
replica w site = replica_from w.replicas (site - 1)

abbrev pub machine_of : WorldValue → ℕ → Machine
machine_of w site = (replica w site).machine

-- the histories of the sites
abbrev pub family_of : WorldValue → Family
family_of w = map (λ (r : ReplicaValue). r.entries) w.replicas

-- ---- worlds at the beginning

abbrev pub new_replicas : ℕ → ℕ → ℕ → List ReplicaValue
new_replicas n zero site = []
new_replicas n (suc k) site = new_replica site n ∷ new_replicas n k (suc site)

-- n sites that have done nothing
abbrev pub new_world : ℕ → WorldValue
new_world n = record { replicas = new_replicas n n 1; sent = [] }

-- replicas of sites 1 to n, in this order
abbrev pub AreSites : List ReplicaValue → Type 0
AreSites replicas =
    (place : ℕ) → place < length replicas
    → ((replica_from replicas place).machine.site ≡ place + 1)
    × ((replica_from replicas place).machine.size ≡ length replicas)

abbrev pub all_sent : List ReplicaValue → List Message
all_sent [] = []
all_sent (r ∷ replicas) = r.machine.sent ++ all_sent replicas

-- sites that did something before: what the first one sent, then what the second one sent, and so on
abbrev pub world_of : List ReplicaValue → WorldValue
world_of replicas = record { replicas = replicas; sent = all_sent replicas }

-- ---- moves

-- an input at a site
pub record Move : Type 0 where
  pub site : ℕ
  pub input : Input

-- what the site replies
abbrev pub reply_to : Move → WorldValue → Reply
reply_to move w = (step (machine_of w move.site) move.input).reply

-- what it sends by that
abbrev pub sent_by : Move → WorldValue → List Message
sent_by move w =
    drop (length (machine_of w move.site).sent) (step (machine_of w move.site) move.input).machine.sent

-- the site has done a step, and what it sent comes after all that was sent before
abbrev pub moved : Move → WorldValue → WorldValue
moved move w =
    record {
      replicas = slice_set w.replicas (move.site - 1) (after_step move.input (replica w move.site));
      sent = w.sent ++ sent_by move w;
    }

abbrev pub moved_all : List Move → WorldValue → WorldValue
moved_all [] w = w
moved_all (move ∷ moves) w = moved_all moves (moved move w)

-- where the input is a message, it was sent for the site
abbrev pub MayTake : ℕ → Input → WorldValue → Type 0
MayTake site input w =
    (message : Message) → input ≡ Take message → In message w.sent × (is_for site message ≡ true)

-- the input may be given to the site
pub record IsFit (w : WorldValue) (move : Move) : Type 0 where
  pub some : 0 < move.site
  pub within : move.site ≤ size w
  pub valid : IsInput move.input
  pub came : MayTake move.site move.input w

-- ---- what every world is

abbrev pub is_sent_by : ℕ → Message → Bool
is_sent_by site message = sender message == site

-- the histories are a consistent family, which has led to the machines; and the messages are what the sites sent,
-- those of each site in the order in which it sent them
pub record IsWorld (w : WorldValue) : Type 0 where
  pub consistent : IsConsistent (family_of w)
  pub machines : (site : ℕ) → 0 < site → site ≤ size w → machine_of w site ≡ machine (family_of w) site
  pub sent : (site : ℕ) → 0 < site → site ≤ size w → filter (is_sent_by site) w.sent ≡ (machine_of w site).sent
  pub senders : (message : Message) → In message w.sent → (0 < sender message) × (sender message ≤ size w)
