use Rattle.std.proofs.Common.{refl, arith}
use Rattle.td_clock.proofs.VectorLemmas.{made_parts}
use Rattle.td_clock.proofs.vector.Vector.of.Goals as goal

pub invariant_of-result : goal.invariant_of-result
invariant_of-result c = (made_parts c.args.numbers.now c.copy_from_slice.new.self _ c.requires.some c.requires.short
    (λ k. omega (arith, c.type_inv.numbers k)) c.copy_from_slice.ensures.after refl).0
