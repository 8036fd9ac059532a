use Rattle.std.proofs.Common.{refl}
use Rattle.td_base.proofs.AtomLemmas.{parts_of}
use Rattle.td_base.proofs.atom.Atom.of.Goals as goal

pub invariant_of-result : goal.invariant_of-result
invariant_of-result c = parts_of c.args.bytes.now _ _ c.requires.some c.requires.short c.requires.text
    c.copy_from_slice.ensures.after refl
