-- What contracts see of a worker: its site, what it keeps for each of its editors, and for each other worker.
use Rattle.std.specs.Prelude.{◌≡◌, ◌+◌, ℕ, List, [], ◌∷◌, map, Some}
use Rattle.std.specs.List.{AllByRecursion, AllZip}
use Rattle.td_machine.specs.Machine.{start}
use Rattle.td_replica.specs.Replica.{ReplicaValue}
use Rattle.td_law_meeting.specs.Takes.{TakesWelcome}
use Rattle.td_law_meeting.specs.Peers.{Hears}
use Rattle.td_law_meeting.specs.Accounts.{others}
use Rattle.td_site.specs.Sites.{SiteValue}
use Rattle.td_site.specs.Later.{LaterSite}
use Rattle.td_line.specs.Calls.{answers_at, local_at}
use Rattle.td_line.specs.Lines.{LineValue, LaterLine, HasServed}
use Rattle.td_peer.specs.Peers.{PeerState, peer_of}
use Rattle.td_peer.specs.Serving.{Serves, LaterPeer}

pub record WorkerValue : Type 0 where
  pub site : SiteValue
  -- one for each of its editors, in order
  pub lines : List LineValue
  -- one for each other site, in order
  pub peers : List PeerState

-- the peers are those of a replica: one for each other site, what was taken of each is what the history takes, and what
-- was sent to it is what the replica sends
pub record IsConnected (r : ReplicaValue) (peers : List PeerState) : Type 0 where
  pub numbers : map (λ (p : PeerState). p.site) peers ≡ others r.machine.size r.machine.site
  pub owns : AllByRecursion (λ (p : PeerState). p.own ≡ r.machine.site) peers
  pub welcome : TakesWelcome r.machine.site r.machine.size (start r.machine.site r.machine.size) r.entries
  pub hears : AllByRecursion (λ (p : PeerState). Hears r.entries (peer_of p)) peers
  pub serves : AllByRecursion (λ (p : PeerState). Serves r.machine.sent p) peers

-- how many of the answers that were given on these lines are of the entry with this number
abbrev pub given_at : ℕ → List LineValue → ℕ
given_at k [] = 0
given_at k (l ∷ lines) = answers_at k l.given + given_at k lines

-- what was taken of each editor is done and answered, with what the site shows; and each request of the history was
-- answered once, on one of the lines
pub record IsServing (s : SiteValue) (lines : List LineValue) : Type 0 where
  pub served : AllByRecursion (λ (l : LineValue). HasServed s.replica.entries l) lines
  pub views : AllByRecursion (λ (l : LineValue). l.answers.mark ≡ Some s.writer.views) lines
  pub counted : (k : ℕ) → given_at k lines ≡ local_at s.replica.entries k

-- what holds of a worker at every moment
pub record IsWorker (w : WorkerValue) : Type 0 where
  pub connected : IsConnected w.site.replica w.peers
  pub serving : IsServing w.site w.lines

-- the same worker, later
pub record LaterWorker (w v : WorkerValue) : Type 0 where
  pub site : LaterSite w.site v.site
  pub lines : AllZip LaterLine w.lines v.lines
  pub peers : AllZip LaterPeer w.peers v.peers
