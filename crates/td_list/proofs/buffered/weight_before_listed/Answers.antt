use Rattle.std.proofs.Common.{◌+◌, ◌∙◌, ℕ, List, ap, sym, true≢false, arith, ⊎_elim}
use Rattle.td_list.specs.Items.{Item, IsItem, items_before_end, weight_of}
use Rattle.td_list.proofs.Weights.{weight-before}
use Rattle.td_list.proofs.Waiting.{has, before_first, weight_last}
use Rattle.td_list.proofs.buffered.weight_before_listed.Goals as goal

pub returns-then-more-eq0 : goal.returns-then-more-eq0
returns-then-more-eq0 g c =
    let items : List Item = g.S.Sequence.items c.args.list.now in
    let w : List Item = c.args.waiting.now in
    let x : ℕ = c.args.name in
    let none = c.weight-more.ensures.value in
    ⊎_elim
    (λ (i : IsItem x (items_before_end c.args.end items)). c.weight_before-before.ensures
    ∙ ap weight_of (sym (before_first c.args.end w items x i)))
    (λ (n : IsItem x (items_before_end c.args.end items) → ⊥).
    let e = weight_last c.args.end w items x c.requires.listed n in
    omega (arith, c.weight_before-before.ensures, c.if-more-eq0.true))
    (has x (items_before_end c.args.end items))

pub returns-then-is_front : goal.returns-then-is_front
returns-then-is_front g c =
    let items : List Item = g.S.Sequence.items c.args.list.now in
    c.weight_before-before.ensures
    ∙ ap weight_of (sym (before_first c.args.end c.args.waiting.now items c.args.name
    (c.is_front.ensures.0 c.if-is_front.true)))

pub overflow_add-result : goal.overflow_add-result
overflow_add-result g c =
    let items : List Item = g.S.Sequence.items c.args.list.now in
    let most = weight-before c.args.name items in
    omega (arith, c.weight_before-before.ensures, c.weight-more.ensures.value, c.requires.light)

pub returns-else-is_front : goal.returns-else-is_front
returns-else-is_front g c =
    let items : List Item = g.S.Sequence.items c.args.list.now in
    (λ i. c.weight_before-before.ensures i + c.weight-more.ensures.value i)
    ∙ sym (weight_last c.args.end c.args.waiting.now items c.args.name c.requires.listed
    (λ i. true≢false (sym (c.is_front.ensures.1 i) ∙ c.if-is_front.false)))
