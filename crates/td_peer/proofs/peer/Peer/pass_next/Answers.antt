use Rattle.std.proofs.Common.{sym, ap, ◌∙◌, subst, arith, ◌≡◌, ℕ, Some, slice_get}
use Rattle.td_peer.specs.Peers.{PeerState}
use Rattle.td_peer.specs.Serving.{Serves, times}
use Rattle.td_peer.proofs.Sending.{serves_skip, kth_next}
use Rattle.td_peer.proofs.peer.Peer.pass_next.Goals as goal

pub returns-clause-serves : goal.returns-clause-serves
returns-clause-serves g c =
    let sent = c.args.replica.now.machine.sent in
    let p = c.args.self.now in
    let m = c.message-message.result in
    let at : slice_get sent p.dealt ≡ Some m =
    subst (λ (k : ℕ). slice_get sent k ≡ Some m) (ap (λ (x : PeerState). x.dealt) c.self.view_is)
    (kth_next c.self.inside.dealt sent m c.message-message.ensures) in
    let none : times p m ≡ 0 = sym c.times.ensures ∙ omega (arith, c.if-times-ne0.false) in
    subst (λ (q : PeerState). Serves sent q) (sym c.pass.ensures) (serves_skip sent p m at none c.requires.serves)
