use Rattle.std.proofs.Common.{◌∙◌, ◌++◌, ℕ, List, take, ap, sym, arith, Option, Some}
use Rattle.td_list.specs.Items.{Item, IsItem, items_before_end, items_from_end, first_name}
use Rattle.td_list.proofs.Parted.{parted, from_is}
use Rattle.td_list.proofs.Waiting.{take_before, before_none, from_none, there_below, none_above}
use Rattle.td_list.proofs.buffered.up_to.Goals as goal

pub returns-then-place-items-clause-items : goal.returns-then-place-items-clause-items
returns-then-place-items-clause-items c =
    let xs : List Item = c.args.items.now in
    ap (λ (n : ℕ). take n xs) c.place_of-place.ensures.value ∙ take_before c.in-Some.name xs
    ∙ ap (λ (o : Option ℕ). items_before_end o xs) (sym c.in-Some.is)

pub returns-then-place-items-clause-next : goal.returns-then-place-items-clause-next
returns-then-place-items-clause-next c = λ back e.
    let xs : List Item = c.args.items.now in
    let x : ℕ = c.in-Some.name in
    let i : IsItem x xs = there_below x xs (omega (arith, c.place_of-place.ensures.value, c.if-place-items.true)) in
    ap Some (sym (parted x xs i).named) ∙ ap (λ (ys : List Item). first_name (ys ++ back))
    (sym (from_is x xs i))
    ∙ ap (λ (o : Option ℕ). first_name (items_from_end o xs ++ back)) (sym c.in-Some.is)

pub returns-else-place-items-clause-items : goal.returns-else-place-items-clause-items
returns-else-place-items-clause-items c =
    let xs : List Item = c.args.items.now in
    let x : ℕ = c.in-Some.name in
    sym (before_none x xs (none_above x xs (omega (arith, c.place_of-place.ensures.value, c.if-place-items.false))))
    ∙ ap (λ (o : Option ℕ). items_before_end o xs) (sym c.in-Some.is)

pub returns-else-place-items-clause-next : goal.returns-else-place-items-clause-next
returns-else-place-items-clause-next c = λ back e.
    let xs : List Item = c.args.items.now in
    let x : ℕ = c.in-Some.name in
    sym e
    ∙ ap (λ (ys : List Item). first_name (ys ++ back)) (sym (from_none x xs (none_above x xs
    (omega (arith, c.place_of-place.ensures.value, c.if-place-items.false)))))
    ∙ ap (λ (o : Option ℕ). first_name (items_from_end o xs ++ back)) (sym c.in-Some.is)
