use Rattle.std.proofs.Common.{sym, ap, ◌∙◌, subst}
use Rattle.td_peer.specs.Peers.{PeerState}
use Rattle.td_peer.specs.Serving.{Serves, LaterPeer, noted}
use Rattle.td_peer.proofs.Sending.{serves_noted, later_noted}
use Rattle.td_peer.proofs.peer.Peer.send_next.Goals as goal

pub returns-then-send-clause-serves : goal.returns-then-send-clause-serves
returns-then-send-clause-serves g c =
    let sent = c.args.replica.now.machine.sent in
    let p = c.args.self.now in
    let m = c.args.message.now in
    let x = c.send.ensures.sent c.if-send.true in
    subst (λ (q : PeerState). Serves sent q) (sym (c.note.ensures ∙ ap (noted m) x.2))
    (serves_noted sent p m x.0 c.requires.next c.requires.due x.1 c.requires.serves)

pub returns-then-send-clause-later : goal.returns-then-send-clause-later
returns-then-send-clause-later g c =
    let p = c.args.self.now in
    let m = c.args.message.now in
    let x = c.send.ensures.sent c.if-send.true in
    subst (λ (q : PeerState). LaterPeer p q) (sym (c.note.ensures ∙ ap (noted m) x.2)) (later_noted p m x.0)
