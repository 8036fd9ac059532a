use Rattle.td_peer.proofs.Taking.{begins}
use Rattle.td_peer.proofs.meeting.settle_link.Goals as goal

pub returns : goal.returns
returns g c = begins _ _ _ c.in_ok-_left.ensures
