use Rattle.std.proofs.Common.{ap}
use Rattle.td_link.proofs.Moves.{parts}
use Rattle.td_link.proofs.opening.part_marked.Goals as goal

pub another-requires-clause-rule : goal.another-requires-clause-rule
another-requires-clause-rule g c = let e = c.requires.first in
    parts g.T.Item.fits _ _ _ (ap (λ v. v.pushes) e) (ap (λ v. v.pops) e) (ap (λ v. v.mark) e) (ap (λ v. v.taken) e)
