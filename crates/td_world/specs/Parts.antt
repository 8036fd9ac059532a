-- How a world is kept: each message sent stands for one by its site and its place among those of that site.
use Rattle.std.specs.Prelude.{◌≡◌, ◌<◌, ◌≤◌, ◌-◌, ◌+◌, ℕ, zero, suc, List, [], ◌∷◌, Bool, true}
use Rattle.std.specs.Prelude.{false, length, set, Option, Some, if◌then◌else◌}
use Rattle.std.specs.List.{filter_map, slice_get}
use Rattle.td_op.specs.declared.message.Message.{Message}
use Rattle.td_op.specs.declared.reply.Reply.{Reply}
use Rattle.td_op.specs.declared.reply.Reply.TheVariants.{Made, Cancelled, Held, Position, Gone, Limit, NotOpen, New}
use Rattle.td_op.specs.declared.reply.Reply.TheVariants.{Later, Repeat, Unfit, Taken, Dropped, Idle}
use Rattle.td_base.specs.Lists.{kth}
use Rattle.td_history.specs.Standing.{StandFor}
use Rattle.td_replica.specs.Replica.{ReplicaValue, knows_message}
use Rattle.td_world.specs.declared.post.Post.{Post}
use Rattle.td_world.specs.World.{WorldValue, IsWorld, replica_from, machine_of}
use Rattle.td_op.specs.Message.{is_for}

abbrev pub posted : List ReplicaValue → Post → Option Message
posted replicas p = kth p.number (replica_from replicas (p.site - 1)).machine.sent

abbrev pub world_value : List ReplicaValue → List Post → WorldValue
world_value replicas posts = record { replicas = replicas; sent = filter_map (posted replicas) posts }

-- so many of a site, after as many
abbrev pub new_posts : ℕ → ℕ → ℕ → List Post
new_posts site zero before = []
new_posts site (suc k) before = record { site = site; number = before + 1 } ∷ new_posts site k (before + 1)

-- the message at this place is not for the site, or known there
abbrev pub IsPassed : ℕ → WorldValue → ℕ → Type 0
IsPassed site w k =
    (message : Message) → slice_get w.sent k ≡ Some message → is_for site message ≡ true
    → knows_message message (machine_of w site) ≡ true

abbrev pub ArePassed : ℕ → WorldValue → ℕ → Type 0
ArePassed site w count = (count ≤ length w.sent) × ((k : ℕ) → k < count → IsPassed site w k)

pub record IsWorldParts (replicas : List ReplicaValue) (posts : List Post) (passed : List ℕ) : Type 0 where
  pub world : IsWorld (world_value replicas posts)
  pub standing : StandFor (posted replicas) posts (filter_map (posted replicas) posts)
  -- so many messages from the first on need not be looked at again for a site
  pub sites : length passed ≡ length replicas
  pub known : (place count : ℕ) → slice_get passed place ≡ Some count
      → ArePassed (place + 1) (world_value replicas posts) count

abbrev pub is_dropped : Reply → Bool
is_dropped (Dropped dot why) = true
is_dropped (Made dot) = false
is_dropped Cancelled = false
is_dropped (Held by) = false
is_dropped (Position len) = false
is_dropped (Gone x) = false
is_dropped (Limit made undecided) = false
is_dropped (NotOpen p) = false
is_dropped New = false
is_dropped Later = false
is_dropped Repeat = false
is_dropped (Unfit why) = false
is_dropped (Taken dot) = false
is_dropped Idle = false

-- what need not be looked at again after a step with this reply
abbrev pub looked_again : Reply → ℕ → List ℕ → List ℕ
looked_again reply place passed = if is_dropped reply then set passed place 0 else passed
