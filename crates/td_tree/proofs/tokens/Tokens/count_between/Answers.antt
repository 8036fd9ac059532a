use Rattle.std.proofs.Common.{◌≡◌, ◌∙◌, ◌+◌, ◌++◌, ◌≤◌, ◌^◌, List, arith, length, refl, sym, ap, subst}
use Rattle.td_list.specs.Items.{Item, IsItem, items_from}
use Rattle.td_tree.specs.Parts.{Parts}
use Rattle.td_tree.specs.Reading.{shown}
use Rattle.td_tree.specs.Walks.{IsStretch}
use Rattle.td_tree.proofs.Walked.{begins, ended}
use Rattle.td_tree.proofs.Lent.{Lending, to_end, to_behind, next_ones, are_there, walked_on}
use Rattle.td_tree.proofs.Lent.{fewer_left, same_end, other_end, item_there, all_done}
use Rattle.td_tree.proofs.CountedRows.{both_counted, counted_few}
use Rattle.td_tree.proofs.tokens.Tokens.count_between.Goals as goal
use Rattle.td_tree.proofs.tokens.Tokens.count_between.Goals.{After-items_up_to-items}

abbrev lending : (c : After-items_up_to-items) (s : IsStretch c.args.self.now c.args.first c.args.end)
    → Lending c.args.self.now c.args.first c.args.end s c.loop-self.at (c.loop-self.invariant s).0
lending c s = record {
  tree = c.requires.tree;
  name = c.in-Some.name;
  is = c.in-Some.is;
  other = other_end c.loop-self.at c.args.end (sym c.loop-self-test.ensures);
  lent = c.lend_from-behind.result.0.now;
  behind = c.lend_from-behind.ensures.parts.0;
  from = subst (λ (q : Parts). items_from c.in-Some.name q.items ≡ c.lend_from-behind.result.0.now
      ++ c.lend_from-behind.ensures.parts.0) c.self.view_is c.lend_from-behind.ensures.parts.1;
  items = c.items_up_to-items.result.now;
  cut = c.items_up_to-items.ensures;
}

pub loop-self-init : goal.loop-self-init
loop-self-init c = λ s. (begins c.args.self.now c.requires.tree c.args.first c.args.end s, refl)

pub lend_from-behind-requires : goal.lend_from-behind-requires
lend_from-behind-requires c =
    let s = c.requires.stretch in
    subst (λ (q : Parts). IsItem c.in-Some.name q.items) (sym c.self.view_is)
    (item_there c.args.self.now c.requires.tree c.args.first c.args.end s c.loop-self.at c.in-Some.name c.in-Some.is
    (other_end c.loop-self.at c.args.end (sym c.loop-self-test.ensures)) (c.loop-self.invariant s).0)

abbrev few_there : (c : After-items_up_to-items) (s : IsStretch c.args.self.now c.args.first c.args.end)
    → length (shown c.args.self.now (c.loop-self.invariant s).0.done)
    + length (shown c.args.self.now c.items_up_to-items.result.now) ≤ 2 ^ 30
few_there c s =
    let ones = next_ones (lending c s) in
    counted_few c.args.self.now c.requires.tree c.args.first c.args.end s c.loop-self.at (c.loop-self.invariant s).0
    c.items_up_to-items.result.now ones.0 ones.1

pub count_items-count-requires-clause-there : goal.count_items-count-requires-clause-there
count_items-count-requires-clause-there c = are_there
    (lending (goal.at.count_items-count-requires-clause-there c).After-items_up_to-items c.requires.stretch)

pub count_items-count-requires-clause-few : goal.count_items-count-requires-clause-few
count_items-count-requires-clause-few c =
    let few = few_there (goal.at.count_items-count-requires-clause-few c).After-items_up_to-items c.requires.stretch in
    omega arith

pub overflow_add-count : goal.overflow_add-count
overflow_add-count c =
    let few = few_there (goal.at.overflow_add-count c).After-items_up_to-items c.requires.stretch in
    let was = (c.loop-self.invariant c.requires.stretch).1 in
    omega (arith, c.count_items-count.ensures)

pub loop-self-smaller-then-items-lent : goal.loop-self-smaller-then-items-lent
loop-self-smaller-then-items-lent c =
    let l = lending (goal.at.loop-self-smaller-then-items-lent c).After-items_up_to-items c.requires.stretch in
    fewer_left l c.args.end (to_end l c.if-items-lent.true) c.lend_from-behind.ensures.some

pub loop-self-preserved-then-items-lent : goal.loop-self-preserved-then-items-lent
loop-self-preserved-then-items-lent c = λ s.
    let w = c.loop-self.invariant s in
    let l = lending (goal.at.loop-self-preserved-then-items-lent c).After-items_up_to-items s in (
      walked_on l c.args.end (to_end l c.if-items-lent.true),
      both_counted c.args.self.now w.0.done c.items_up_to-items.result.now c.loop-self.count c.count_items-count.result
          w.1 c.count_items-count.ensures,
    )

pub loop-self-smaller : goal.loop-self-smaller
loop-self-smaller c =
    let l = lending (goal.at.loop-self-smaller c).After-items_up_to-items c.requires.stretch in
    let next = c.lend_from-behind.result.1 in
    fewer_left l next (to_behind l next c.lend_from-behind.ensures.parts.2 c.if-items-lent.false)
    c.lend_from-behind.ensures.some

pub loop-self-preserved : goal.loop-self-preserved
loop-self-preserved c = λ s.
    let w = c.loop-self.invariant s in
    let l = lending (goal.at.loop-self-preserved c).After-items_up_to-items s in
    let next = c.lend_from-behind.result.1 in (
      walked_on l next (to_behind l next c.lend_from-behind.ensures.parts.2 c.if-items-lent.false),
      both_counted c.args.self.now w.0.done c.items_up_to-items.result.now c.loop-self.count c.count_items-count.result
          w.1 c.count_items-count.ensures,
    )

pub returns : goal.returns
returns c = λ s.
    let w = c.loop-self.invariant s in
    w.1 ∙ sym (ap (λ (items : List Item). length (shown c.args.self.now items))
    (ended c.args.self.now c.requires.tree c.args.first c.args.end s c.loop-self.at
    (same_end c.loop-self.at c.args.end (sym c.loop-self-test.ensures)) w.0))

pub returns-in_default : goal.returns-in_default
returns-in_default c = λ s.
    let w = c.loop-self.invariant s in
    w.1 ∙ sym (ap (λ (items : List Item). length (shown c.args.self.now items))
    (all_done c.args.self.now c.requires.tree c.args.first c.args.end s c.loop-self.at c.in_default.is w.0))
