use Rattle.std.proofs.Common.{refl}
use Rattle.td_clock.proofs.VectorLemmas.{zero_parts}
use Rattle.td_clock.proofs.vector.Vector.new.Goals as goal

pub invariant_of-result : goal.invariant_of-result
invariant_of-result c = (zero_parts c.args.n _ c.requires.some c.requires.short refl).0

pub returns : goal.returns
returns c = (zero_parts c.args.n _ c.requires.some c.requires.short refl).1
