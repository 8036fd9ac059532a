use Rattle.std.proofs.Common.{◌≡◌, ◌<◌, sym, ap, subst, length, List, set, ◌+◌}
use Rattle.td_replica.specs.Replica.{ReplicaValue}
use Rattle.td_site.specs.Sites.{SiteValue}
use Rattle.td_peer.specs.Peers.{PeerState}
use Rattle.td_peer.specs.Serving.{Serves, SentOrNothing}
use Rattle.td_room.specs.Workers.{WorkerValue}
use Rattle.td_room.specs.Walk.{SoFar}
use Rattle.td_room.specs.Turns.{ToldPeer}
use Rattle.td_site.proofs.Later.{later_self}
use Rattle.td_room.proofs.Walks.{so_far_next}
use Rattle.td_room.proofs.Working.{told_worker, peer_later}
use Rattle.td_room.proofs.Turning.{told_now}
use Rattle.td_room.proofs.worker.Worker.tell_one.Goals as goal

pub invariant_of-self : goal.invariant_of-self
invariant_of-self g c =
    let ps : List PeerState = c.self.inside.peers.items in
    let l : c.args.i < length ps =
    subst (λ (xs : List PeerState). c.args.i < length xs) (sym (ap (λ (w : WorkerValue). w.peers) c.self.view_is))
    c.requires in
    told_worker c.self.inside.site c.self.inside.lines.items ps c.args.i c.index_mut-peer.result.now c.tell.new.self l
    c.index_mut-peer.ensures.value c.tell.ensures.later (ap (λ (x : PeerState). x.inbox) c.tell.ensures.same)
    (ap (λ (x : PeerState). x.waiting) c.tell.ensures.same)
    (subst (λ (r : ReplicaValue). Serves r.machine.sent c.tell.new.self) c.replica.ensures c.tell.ensures.serves)
    c.self.invariant

pub returns-clause-later : goal.returns-clause-later
returns-clause-later g c =
    rw (← c.self.view_is)
    (peer_later c.self.inside.site c.self.inside.site c.self.inside.lines.items c.self.inside.peers.items c.args.i
    c.index_mut-peer.result.now c.tell.new.self (later_self c.self.inside.site) c.index_mut-peer.ensures.value
    c.tell.ensures.later)

pub returns-clause-told : goal.returns-clause-told
returns-clause-told g c =
    let s : SiteValue = c.self.inside.site in
    let ps : List PeerState = c.self.inside.peers.items in
    let e : ps ≡ c.args.self.now.peers = ap (λ (w : WorkerValue). w.peers) c.self.view_is in
    let f : s ≡ c.args.self.now.site = ap (λ (w : WorkerValue). w.site) c.self.view_is in
    let l : c.args.i < length ps = subst (λ (xs : List PeerState). c.args.i < length xs) (sym e) c.requires in
    let p : PeerState = c.index_mut-peer.result.now in
    let q : PeerState = c.tell.new.self in
    let sent : SentOrNothing s.replica.machine.sent p q =
    subst (λ (r : ReplicaValue). SentOrNothing r.machine.sent p q) c.replica.ensures c.tell.ensures.sent in
    let told : ToldPeer s p q =
    told_now s p q sent c.tell.ensures.most (ap (λ (x : PeerState). x.own) c.tell.ensures.same)
    (ap (λ (x : PeerState). x.inbox) c.tell.ensures.same)
    (ap (λ (x : PeerState). x.waiting) c.tell.ensures.same) in
    λ (before : List PeerState) h.
    subst (λ (x : SiteValue). SoFar (ToldPeer x) (c.args.i + 1) before (set ps c.args.i q)) f
    (so_far_next (ToldPeer s) c.args.i before ps p q l c.index_mut-peer.ensures.value told
    (subst (λ (x : SiteValue × List PeerState). SoFar (ToldPeer x.0) c.args.i before x.1) (λ j. (sym f j, sym e j)) h))
