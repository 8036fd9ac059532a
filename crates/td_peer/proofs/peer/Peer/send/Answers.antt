use Rattle.std.proofs.Common.{sym, ap, ◌∙◌, ◌≡◌}
use Rattle.std.proofs.lemmas.Option.{same_Some}
use Rattle.td_op.specs.Message.{sender}
use Rattle.td_peer.specs.Peers.{PeerState}
use Rattle.td_peer.proofs.Sending.{own_sender, fits_own}
use Rattle.td_peer.proofs.peer.Peer.send.Goals as goal

pub try_send-requires : goal.try_send-requires
try_send-requires g c = λ site mark other k.
    let e : sender c.args.message.now ≡ site =
    own_sender c.args.replica.now c.args.self.now.dealt c.args.message.now c.entries.ensures.replica c.requires.sent
    ∙ sym c.requires.own
    ∙ sym (ap (λ (x : PeerState). x.own) c.self.view_is)
    ∙ same_Some c.self.inside.own site (sym c.self.invariant.tells ∙ mark) in
    fits_own c.args.message.now other c.encode-packet.result site (_, c.encode-packet.ensures) k e
