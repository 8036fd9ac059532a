-- A worker, step by step.
use Rattle.std.proofs.Common.{◌≡◌, ◌<◌, ℕ, List, length, set, get_or}
use Rattle.std.specs.List.{AllZip}
use Rattle.td_site.specs.Sites.{SiteValue}
use Rattle.td_site.specs.Later.{LaterSite}
use Rattle.td_line.specs.Lines.{LineValue, LaterLine, Served}
use Rattle.td_peer.specs.Peers.{PeerState}
use Rattle.td_peer.specs.Serving.{Serves, LaterPeer}
use Rattle.td_room.specs.Later.{Went, NoMoreLocals, Heard}
use Rattle.td_room.specs.Workers.{WorkerValue, IsWorker, LaterWorker}
use Rattle.td_site.proofs.Later.{later_self, later_then}
use Rattle.td_peer.proofs.Later.{later_self as peer_self, later_then as peer_then}
use Rattle.td_room.proofs.Connected.{connected_on}
use Rattle.td_room.proofs.Rowing.{heard_connected, told_connected}
use Rattle.td_room.proofs.Locals.{locals_went}
use Rattle.td_room.proofs.Serving.{line_self, line_then, serving_on, serving_set}
use Rattle.td_room.proofs.Walks.{zip_self, zip_then, zip_set}

abbrev pub worker : SiteValue → List LineValue → List PeerState → WorkerValue
worker s ls ps = record { site = s; lines = ls; peers = ps }

pub lines_self : (ls : List LineValue) → AllZip LaterLine ls ls
lines_self ls = zip_self LaterLine ls line_self

pub peers_self : (ps : List PeerState) → AllZip LaterPeer ps ps
peers_self ps = zip_self LaterPeer ps peer_self

pub worker_self : (w : WorkerValue) → LaterWorker w w
worker_self w =
    record { site = later_self w.site; lines = lines_self w.lines; peers = peers_self w.peers }

pub worker_then : (w v u : WorkerValue) → LaterWorker w v → LaterWorker v u → LaterWorker w u
worker_then w v u a b =
    record {
      site = later_then w.site v.site u.site a.site b.site;
      lines = zip_then LaterLine LaterLine LaterLine w.lines v.lines u.lines line_then a.lines b.lines;
      peers = zip_then LaterPeer LaterPeer LaterPeer w.peers v.peers u.peers peer_then a.peers b.peers;
    }

-- ---- the site alone

pub went_worker : (s t : SiteValue) (ls : List LineValue) (ps : List PeerState) → Went s t → NoMoreLocals s t
    → IsWorker (worker s ls ps) → IsWorker (worker t ls ps)
went_worker s t ls ps w none h =
    record { connected = connected_on s t ps w h.connected; serving = serving_on s t ls w.later none h.serving }

pub went_later : (s t : SiteValue) (ls : List LineValue) (ps : List PeerState) → LaterSite s t
    → LaterWorker (worker s ls ps) (worker t ls ps)
went_later s t ls ps w = record { site = w; lines = lines_self ls; peers = peers_self ps }

-- ---- a line

pub served_worker : (s t : SiteValue) (ls : List LineValue) (ps : List PeerState) (i : ℕ) (l m : LineValue)
    → Served s l t m
    → i < length ls → l ≡ get_or ls i l → IsWorker (worker s ls ps) → IsWorker (worker t (set ls i m) ps)
served_worker s t ls ps i l m v h e w =
    record {
      connected = connected_on s t ps (locals_went s t v.site v.only) w.connected;
      serving = serving_set s t ls i l m v h e w.serving;
    }

pub served_later : (s t : SiteValue) (ls : List LineValue) (ps : List PeerState) (i : ℕ) (l m : LineValue)
    → Served s l t m
    → l ≡ get_or ls i l → LaterWorker (worker s ls ps) (worker t (set ls i m) ps)
served_later s t ls ps i l m v e =
    record { site = v.site; lines = zip_set LaterLine ls i l m line_self e v.line; peers = peers_self ps }

-- ---- a peer

pub heard_worker : (s t : SiteValue) (ls : List LineValue) (ps : List PeerState) (i : ℕ) (p q : PeerState)
    → Heard s p t q
    → i < length ps → p ≡ get_or ps i p → IsWorker (worker s ls ps) → IsWorker (worker t ls (set ps i q))
heard_worker s t ls ps i p q v l e w =
    record {
      connected = heard_connected s t ps i p q v l e w.connected;
      serving = serving_on s t ls v.later v.locals w.serving;
    }

pub told_worker : (s : SiteValue) (ls : List LineValue) (ps : List PeerState) (i : ℕ) (p q : PeerState) → i < length ps
    → p ≡ get_or ps i p → LaterPeer p q → q.inbox ≡ p.inbox → q.waiting ≡ p.waiting → Serves s.replica.machine.sent q
    → IsWorker (worker s ls ps) → IsWorker (worker s ls (set ps i q))
told_worker s ls ps i p q l e later inbox waiting serves w =
    record {
      connected = told_connected s.replica ps i p q l e later inbox waiting serves w.connected;
      serving = w.serving;
    }

pub peer_later : (s t : SiteValue) (ls : List LineValue) (ps : List PeerState) (i : ℕ) (p q : PeerState) → LaterSite s t
    → p ≡ get_or ps i p → LaterPeer p q → LaterWorker (worker s ls ps) (worker t ls (set ps i q))
peer_later s t ls ps i p q site e later =
    record { site = site; lines = lines_self ls; peers = zip_set LaterPeer ps i p q peer_self e later }
