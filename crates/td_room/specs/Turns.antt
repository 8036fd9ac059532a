-- What a turn that ends well leaves.
use Rattle.std.specs.Prelude.{◌≡◌, ◌<◌, ◌≤◌, ◌+◌, ℕ, false, length, Some}
use Rattle.std.specs.List.{AllZip}
use Rattle.td_op.specs.declared.message.Message.{Message}
use Rattle.td_machine.specs.Machine.{made}
use Rattle.td_machine.specs.History.{known_of}
use Rattle.td_replica.specs.Replica.{ReplicaValue}
use Rattle.td_site.specs.Sites.{SiteValue}
use Rattle.td_site.specs.Later.{NothingReady}
use Rattle.td_site.specs.Shows.{machine_then, UptoAtLeast}
use Rattle.td_line.specs.Lines.{LineValue, Turned}
use Rattle.td_peer.specs.Peers.{PeerState}
use Rattle.td_peer.specs.Serving.{TookOrEmpty, SentOrNothing, SentAtMostOne}
use Rattle.td_room.specs.Workers.{WorkerValue}

-- at a moment between the two the replica had not made so many operations
pub record NotMadeThen (r s : ReplicaValue) (known : ℕ) : Type 0 where
  pub upto : ℕ
  pub from : length r.entries ≤ upto
  pub to : upto ≤ length s.entries
  pub few : made (machine_then s.machine.site s.machine.size s.entries upto) < known

-- a packet that was taken is done, or waits since it names an own operation that was not made at a moment of the turn
pub record HeardAll (s t : SiteValue) (p q : PeerState) : Type 0 where
  pub done : (m : Message) → q.waiting ≡ Some m → NotMadeThen s.replica t.replica (known_of q.own m)
  pub took : TookOrEmpty p q
  -- at most one packet was taken
  pub one : length q.inbox.taken ≤ length p.inbox.taken + 1

-- the worker has heard the peer
pub record HeardPeer (s t : SiteValue) (p q : PeerState) : Type 0 where
  pub heard : HeardAll s t p q
  pub outbox : q.outbox ≡ p.outbox

-- the worker has told the peer
pub record ToldPeer (t : SiteValue) (p q : PeerState) : Type 0 where
  pub told : SentOrNothing t.replica.machine.sent p q
  pub most : SentAtMostOne p.outbox q.outbox
  pub own : q.own ≡ p.own
  pub inbox : q.inbox ≡ p.inbox
  pub waiting : q.waiting ≡ p.waiting

-- what a turn does for a peer
pub record Exchanged (s t : SiteValue) (p q : PeerState) : Type 0 where
  pub heard : HeardAll s t p q
  pub told : SentOrNothing t.replica.machine.sent p q
  pub most : SentAtMostOne p.outbox q.outbox

-- what a turn does for an editor: at most one request was taken
pub record TurnedLine (l m : LineValue) : Type 0 where
  pub turned : Turned l m
  pub one : length m.asks.taken ≤ length l.asks.taken + 1

-- the message that waited is done where that could be, and no packet was taken
pub record GivenPeer (s t : SiteValue) (p q : PeerState) : Type 0 where
  pub done : (m : Message) → q.waiting ≡ Some m → NotMadeThen s.replica t.replica (known_of q.own m)
  pub own : q.own ≡ p.own
  pub site : q.site ≡ p.site
  pub inbox : q.inbox ≡ p.inbox

-- all is shown, and nothing that waits in the replica can be taken
pub record IsCaughtUp (s : SiteValue) : Type 0 where
  pub late : s.late ≡ false
  pub still : NothingReady s.replica.machine

-- each editor and each peer had its turn; all is done that can be done, and shown
pub record TurnedWorker (w v : WorkerValue) : Type 0 where
  pub lines : AllZip TurnedLine w.lines v.lines
  pub peers : AllZip (Exchanged w.site v.site) w.peers v.peers
  pub caught_up : IsCaughtUp v.site
  pub shown : UptoAtLeast v.site.writer.publishes (length v.site.replica.entries)
