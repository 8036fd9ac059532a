use Rattle.td_peer.proofs.Later.{serves_more}
use Rattle.td_peer.proofs.laws.peers_serve_on.Goals as goal

pub returns : goal.returns
returns c = serves_more
