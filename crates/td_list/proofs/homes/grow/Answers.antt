use Rattle.std.proofs.Common.{◌≡◌, ◌<◌, ◌∙◌, ⊎_elim, ap, subst, sym, length, get_or, take}
use Rattle.std.proofs.lemmas.List.{get_or_default, take_all}
use Rattle.td_list.specs.Items.{Item, IsItem}
use Rattle.td_list.specs.Places.{nothing}
use Rattle.td_list.proofs.Names.{item_more}
use Rattle.td_list.proofs.homes.grow.Goals as goal

pub loop-i-preserved : goal.loop-i-preserved
loop-i-preserved c =
    let more = c.reach.ensures.old in
    let named = c.name.ensures ∙ ap (λ (i : Item). i.name)
    (c.index-items-i.is ∙ get_or_default c.args.items.now c.loop-i.i c.index-items-i.result nothing
    c.loop-i-test.true) in
    record {
      old = λ x h. let o = c.loop-i.invariant.old x h in let n = more x o.0 in (n.0, n.1 ∙ o.1);
      room = λ x m. ⊎_elim (λ (k : IsItem x (take c.loop-i.i c.args.items.now)).
          (more x (c.loop-i.invariant.room x k)).0)
          (λ (e : x ≡ (get_or c.args.items.now c.loop-i.i nothing).name). subst
          (λ y. y < length c.reach.new.homes.items) (named ∙ sym e) c.in_ok-reach.ensures.ok)
          (item_more x c.args.items.now c.loop-i.i c.loop-i-test.true m);
    }

pub returns-clause-ok : goal.returns-clause-ok
returns-clause-ok c = λ x m. c.loop-i.invariant.room x
    (subst (IsItem x) (sym (take_all c.loop-i.i c.args.items.now c.loop-i-test.false)) m)
