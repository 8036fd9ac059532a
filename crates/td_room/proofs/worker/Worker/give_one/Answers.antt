use Rattle.std.proofs.Common.{◌≡◌, ◌<◌, sym, ap, subst, length, List}
use Rattle.td_replica.specs.Replica.{ReplicaValue, IsReplica}
use Rattle.td_site.specs.Sites.{SiteValue}
use Rattle.td_site.specs.Later.{LaterSite}
use Rattle.td_peer.specs.Peers.{PeerState}
use Rattle.td_room.specs.Workers.{WorkerValue}
use Rattle.td_room.specs.Walk.{SoFar}
use Rattle.td_room.specs.Turns.{GivenPeer}
use Rattle.td_site.proofs.Later.{later_then}
use Rattle.td_room.proofs.Walks.{so_far_next, so_far_on}
use Rattle.td_room.proofs.Working.{heard_worker, peer_later}
use Rattle.td_room.proofs.Turning.{given_on, given_now}
use Rattle.td_room.proofs.worker.Worker.give_one.Goals as goal

pub invariant_of-self : goal.invariant_of-self
invariant_of-self g c =
    let ps : List PeerState = c.self.inside.peers.items in
    let l : c.args.i < length ps =
    subst (λ (xs : List PeerState). c.args.i < length xs) (sym (ap (λ (w : WorkerValue). w.peers) c.self.view_is))
    c.requires.some in
    heard_worker c.self.inside.site c.give.new.site c.self.inside.lines.items ps c.args.i c.index_mut-peer.result.now
    c.give.new.peer
    c.give.ensures.heard l c.index_mut-peer.ensures.value c.self.invariant

pub invariant_of-self-2 : goal.invariant_of-self-2
invariant_of-self-2 g c =
    let ps : List PeerState = c.self.inside.peers.items in
    let l : c.args.i < length ps =
    subst (λ (xs : List PeerState). c.args.i < length xs) (sym (ap (λ (w : WorkerValue). w.peers) c.self.view_is))
    c.requires.some in
    heard_worker c.self.inside.site c.give.new.site c.self.inside.lines.items ps c.args.i c.index_mut-peer.result.now
    c.give.new.peer
    c.give.ensures.heard l c.index_mut-peer.ensures.value c.self.invariant

pub returns-in_err-give-clause-later : goal.returns-in_err-give-clause-later
returns-in_err-give-clause-later g c =
    rw (← c.self.view_is)
    (peer_later c.self.inside.site c.give.new.site c.self.inside.lines.items c.self.inside.peers.items c.args.i
    c.index_mut-peer.result.now c.give.new.peer c.give.ensures.heard.later c.index_mut-peer.ensures.value
    c.give.ensures.heard.peer)

pub returns-clause-later : goal.returns-clause-later
returns-clause-later g c =
    rw (← c.self.view_is)
    (peer_later c.self.inside.site c.give.new.site c.self.inside.lines.items c.self.inside.peers.items c.args.i
    c.index_mut-peer.result.now c.give.new.peer c.give.ensures.heard.later c.index_mut-peer.ensures.value
    c.give.ensures.heard.peer)

pub returns-clause-given : goal.returns-clause-given
returns-clause-given g c =
    let s : SiteValue = c.self.inside.site in
    let t : SiteValue = c.give.new.site in
    let ps : List PeerState = c.self.inside.peers.items in
    let e : ps ≡ c.args.self.now.peers = ap (λ (w : WorkerValue). w.peers) c.self.view_is in
    let f : s ≡ c.args.self.now.site = ap (λ (w : WorkerValue). w.site) c.self.view_is in
    let l : c.args.i < length ps = subst (λ (xs : List PeerState). c.args.i < length xs) (sym e) c.requires.some in
    let i : IsReplica t.replica = subst (λ (r : ReplicaValue). IsReplica r) c.replica.ensures
    c.entries.ensures.replica in
    λ (first : SiteValue) (before : List PeerState) a h.
    let one : LaterSite first s = subst (λ (x : SiteValue). LaterSite first x) (sym f) a in
    let two : SoFar (GivenPeer first s) c.args.i before ps =
    subst (λ (x : SiteValue × List PeerState). SoFar (GivenPeer first x.0) c.args.i before x.1)
    (λ j. (sym f j, sym e j)) h in
    let later : LaterSite first t = later_then first s t one c.give.ensures.heard.later in
    so_far_next (GivenPeer first t) c.args.i before ps c.index_mut-peer.result.now c.give.new.peer l
    c.index_mut-peer.ensures.value
    (given_now first t c.index_mut-peer.result.now c.give.new.peer later i c.in_ok-give.ensures.kept
    c.give.ensures.heard.peer
    c.give.ensures.inbox)
    (so_far_on (GivenPeer first s) (GivenPeer first t) c.args.i before ps
    (λ p q. given_on first s t c.give.ensures.heard.later p q) two)
