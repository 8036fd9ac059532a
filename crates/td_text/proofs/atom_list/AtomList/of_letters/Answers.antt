use Rattle.std.proofs.Common.{arith}
use Rattle.td_text.proofs.AtomListLemmas.{of_letters}
use Rattle.td_text.proofs.atom_list.AtomList.of_letters.Goals as goal

pub invariant_of-result : goal.invariant_of-result
invariant_of-result c =
    (of_letters c.args.text.now c.in_ok-vec.field-0.items c.in_ok-from_slice.field-0.items
    c.requires (omega (arith, c.if-text.false)) (c.in_ok-vec.ensures.items_if_clones_equal (λ y same. same))
    c.in_ok-from_slice.ensures.items).0

pub returns : goal.returns
returns c =
    (of_letters c.args.text.now c.in_ok-vec.field-0.items c.in_ok-from_slice.field-0.items
    c.requires (omega (arith, c.if-text.false)) (c.in_ok-vec.ensures.items_if_clones_equal (λ y same. same))
    c.in_ok-from_slice.ensures.items).1
