-- What becomes of a site and a peer while a worker works.
use Rattle.std.specs.Prelude.{◌≡◌, ◌≢◌, ◌<◌, ◌≤◌, ℕ}
use Rattle.td_machine.specs.Machine.{start}
use Rattle.td_law_meeting.specs.Takes.{takes_from, TakesWelcome}
use Rattle.td_law_meeting.specs.Peers.{Hears}
use Rattle.td_site.specs.Sites.{SiteValue}
use Rattle.td_site.specs.Later.{LaterSite}
use Rattle.td_line.specs.Calls.{local_at}
use Rattle.td_peer.specs.Peers.{PeerState, peer_of}
use Rattle.td_peer.specs.Serving.{LaterPeer}

-- each message that it took was welcome
abbrev pub AllWelcome : SiteValue → Type 0
AllWelcome s =
    TakesWelcome s.replica.machine.site s.replica.machine.size
    (start s.replica.machine.site s.replica.machine.size) s.replica.entries

-- later, and it took no message
pub record Went (s t : SiteValue) : Type 0 where
  pub later : LaterSite s t
  pub takes : (number : ℕ) → takes_from number t.replica.entries ≡ takes_from number s.replica.entries
  pub welcome : AllWelcome s → AllWelcome t

-- the requests of the history are those from before
abbrev pub NoMoreLocals : SiteValue → SiteValue → Type 0
NoMoreLocals s t = (k : ℕ) → local_at t.replica.entries k ≡ local_at s.replica.entries k

-- the site and the peer, later; messages of this peer alone were taken, and no request
pub record Heard (s : SiteValue) (p : PeerState) (t : SiteValue) (q : PeerState) : Type 0 where
  pub later : LaterSite s t
  pub peer : LaterPeer p q
  pub kept : q ≡ record p { inbox = q.inbox; waiting = q.waiting }
  pub hears : Hears s.replica.entries (peer_of p) → Hears t.replica.entries (peer_of q)
  pub others : (number : ℕ) → number ≢ p.site
      → takes_from number t.replica.entries ≡ takes_from number s.replica.entries
  pub welcome : 0 < p.site → p.site ≤ s.replica.machine.size → p.site ≢ s.replica.machine.site
      → AllWelcome s → AllWelcome t
  pub locals : NoMoreLocals s t
