use Rattle.std.proofs.Common.{rules, List, subst}
use Rattle.std.specs.List.Sorted.{IsPermutation}
use Rattle.std.proofs.lemmas.List.Sorted.{answers_always}
use Rattle.td_op.specs.Op.{OpValue}
use Rattle.td_op.specs.Past.{op_sum}
use Rattle.td_order.proofs.LineUpLemmas.{line_up_of_sorted}
use Rattle.td_order.proofs.line_up.line_up.Goals as goal

-- the copy is In-permutation, and sorted by the key that the closure gives
pub returns : goal.returns
returns c =
    let copy = c.in_ok-line.ensures.items_if_clones_equal (λ x y e. e) in
    let line = c.sort_unstable_by_key.new.self.items in
    line_up_of_sorted c.args.ops.now line c.requires
    (subst (λ (ops : List OpValue). IsPermutation ops line) copy c.sort_unstable_by_key.ensures.permutation)
    (c.sort_unstable_by_key.ensures.sorted (λ (o : OpValue). record { 0 = (op_sum o, o.dot) })
    (answers_always _ _ _ (λ f a r g h. search rules)))
