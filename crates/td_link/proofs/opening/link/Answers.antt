use Rattle.td_link.proofs.Moves.{begins}
use Rattle.td_link.proofs.opening.link.Goals as goal

pub ruled-requires-clause-rule : goal.ruled-requires-clause-rule
ruled-requires-clause-rule g c = begins g.T.Item.fits
