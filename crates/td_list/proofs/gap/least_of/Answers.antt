use Rattle.std.proofs.Common.{◌≡◌, length, take, subst, sym, ⊎_elim, arith, get_or}
use Rattle.std.proofs.Common.{◌<◌, ◌∙◌, ap}
use Rattle.std.proofs.lemmas.List.{take_all, get_or_default}
use Rattle.td_list.specs.Items.{Item, IsItem}
use Rattle.td_list.specs.Places.{nothing}
use Rattle.td_list.proofs.Names.{item_more}
use Rattle.td_list.proofs.gap.least_of.Goals as goal

pub loop-item-preserved : goal.loop-item-preserved
loop-item-preserved c =
    let k = c.loop-item.item-index in
    let xs = c.args.items.now in
    let below : k < length xs = c.loop-item-test.true in
    let read = get_or_default xs k c.item-item.result nothing below in
    record {
      number = let h = c.loop-item.invariant.number in omega arith;
      names = λ x i. ⊎_elim
          (λ (j : IsItem x (take k xs)). let h = c.loop-item.invariant.names x j in omega arith)
          (λ (e : x ≡ (get_or xs k nothing).name).
          let n : c.name.result ≡ x = c.name.ensures ∙ ap (λ (i : Item). i.name) (c.item-item.is ∙ read) ∙ sym e in
          omega arith)
          (item_more x xs k below i);
    }

pub returns-clause-names : goal.returns-clause-names
returns-clause-names c = λ x i. c.loop-item.invariant.names x
    (subst (IsItem x) (sym (take_all c.loop-item.item-index c.args.items.now (omega arith))) i)
