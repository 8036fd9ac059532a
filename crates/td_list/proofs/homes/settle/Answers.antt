use Rattle.std.proofs.Common.{arith, ◌∙◌, ap}
use Rattle.td_list.proofs.Names.{item_at, inside_more, outside_more}
use Rattle.std.proofs.lemmas.List.{get_or_default, length-set}
use Rattle.td_list.specs.Items.{Item}
use Rattle.td_list.specs.Places.{nothing}
use Rattle.td_list.proofs.homes.settle.Goals as goal

pub index_mut-requires : goal.index_mut-requires
index_mut-requires c =
    let named = c.name.ensures ∙ ap (λ (i : Item). i.name)
    (c.index-items-i.is ∙ get_or_default c.args.items.now c.loop-i.i c.index-items-i.result nothing
    c.loop-i-test.true) in
    let there = c.requires.within _ (item_at c.args.items.now c.loop-i.i c.loop-i-test.true) in
    omega (arith, c.loop-i.invariant.long, there)

pub loop-i-preserved : goal.loop-i-preserved
loop-i-preserved c =
    let named = c.name.ensures ∙ ap (λ (i : Item). i.name)
    (c.index-items-i.is ∙ get_or_default c.args.items.now c.loop-i.i c.index-items-i.result nothing
    c.loop-i-test.true) in
    let there = c.requires.within _ (item_at c.args.items.now c.loop-i.i c.loop-i-test.true) in
    rw named (record {
      long = length-set c.loop-i.homes.items _ _ ∙ c.loop-i.invariant.long;
      inside = inside_more c.loop-i.homes.items c.args.homes.now.items c.args.items.now c.loop-i.i c.args.home
          c.loop-i-test.true (omega (arith, c.loop-i.invariant.long, there)) c.loop-i.invariant.inside;
      outside = outside_more c.loop-i.homes.items c.args.homes.now.items c.args.items.now c.loop-i.i c.args.home
          c.loop-i-test.true c.loop-i.invariant.outside;
    })
