use Rattle.std.proofs.Common.{◌≡◌, ◌++◌, ℕ, List, [], refl, sym, subst}
use Rattle.td_list.specs.Items.{Item, IsItem, items_from}
use Rattle.td_tree.specs.Parts.{Parts, tokens_of}
use Rattle.td_tree.specs.Stretches.{IsFound}
use Rattle.td_tree.specs.Walks.{IsStretch}
use Rattle.td_tree.proofs.Walked.{ended}
use Rattle.td_tree.proofs.Lent.{Lending, to_end, to_behind, next_ones, are_there, walked_on}
use Rattle.td_tree.proofs.Lent.{fewer_left, same_end, other_end, item_there, all_done}
use Rattle.td_tree.proofs.FoundRows.{found_none, found_more, rows_few}
use Rattle.td_tree.proofs.tokens.Tokens.found_in.Goals as goal
use Rattle.td_tree.proofs.tokens.Tokens.found_in.Goals.{After-items_up_to-items}

abbrev lending : (c : After-items_up_to-items) (s : IsStretch c.args.self.now c.args.first c.args.end)
    → Lending c.args.self.now c.args.first c.args.end s c.loop-self.at (c.loop-self.invariant s).0
lending c s = record {
  tree = c.requires.tree;
  name = c.in-Some.name;
  is = c.in-Some.is;
  other = other_end c.loop-self.at c.args.end (sym c.loop-self-test.ensures);
  lent = c.lend_from-behind.result.0.now;
  behind = c.lend_from-behind.ensures.parts.0;
  from = subst (λ (q : Parts). items_from c.in-Some.name q.items ≡ c.lend_from-behind.result.0.now
      ++ c.lend_from-behind.ensures.parts.0) c.self.view_is c.lend_from-behind.ensures.parts.1;
  items = c.items_up_to-items.result.now;
  cut = c.items_up_to-items.ensures;
}

pub loop-self-init : goal.loop-self-init
loop-self-init c = λ s. (
  record { done = []; rest = s.inner; is = refl; here = s.starts },
  subst (λ (x : List ℕ × List ℕ). IsFound c.args.self.now [] x.0 x.1 0)
      (λ i. (sym c.new.ensures.items i, sym c.new-2.ensures.items i)) (found_none c.args.self.now),
)

pub lend_from-behind-requires : goal.lend_from-behind-requires
lend_from-behind-requires c =
    let s = c.requires.stretch in
    subst (λ (q : Parts). IsItem c.in-Some.name q.items) (sym c.self.view_is)
    (item_there c.args.self.now c.requires.tree c.args.first c.args.end s c.loop-self.at c.in-Some.name c.in-Some.is
    (other_end c.loop-self.at c.args.end (sym c.loop-self-test.ensures)) (c.loop-self.invariant s).0)

pub find_all-requires-clause-there : goal.find_all-requires-clause-there
find_all-requires-clause-there c = are_there (lending
    (goal.at.find_all-requires-clause-there c).After-items_up_to-items c.requires.stretch)

pub find_all-requires-clause-few : goal.find_all-requires-clause-few
find_all-requires-clause-few c =
    let s = c.requires.stretch in
    let w = c.loop-self.invariant s in
    let ones = next_ones (lending (goal.at.find_all-requires-clause-few c).After-items_up_to-items s) in
    rows_few c.args.self.now c.requires.tree c.args.first c.args.end s c.loop-self.at w.0 c.items_up_to-items.result.now
    ones.0 ones.1 c.loop-self.found.live.items c.loop-self.found.nodes.items c.loop-self.found.dead w.1

pub loop-self-smaller-then-items-lent : goal.loop-self-smaller-then-items-lent
loop-self-smaller-then-items-lent c =
    let l = lending (goal.at.loop-self-smaller-then-items-lent c).After-items_up_to-items c.requires.stretch in
    fewer_left l c.args.end (to_end l c.if-items-lent.true) c.lend_from-behind.ensures.some

pub loop-self-preserved-then-items-lent : goal.loop-self-preserved-then-items-lent
loop-self-preserved-then-items-lent c = λ s.
    let w = c.loop-self.invariant s in
    let l = lending (goal.at.loop-self-preserved-then-items-lent c).After-items_up_to-items s in (
      walked_on l c.args.end (to_end l c.if-items-lent.true),
      found_more c.args.self.now w.0.done c.items_up_to-items.result.now c.loop-self.found.live.items
          c.loop-self.found.nodes.items c.loop-self.found.dead c.find_all.new.found.live.items
          c.find_all.new.found.nodes.items c.find_all.new.found.dead w.1 c.in_ok-find_all.ensures,
    )

pub loop-self-smaller : goal.loop-self-smaller
loop-self-smaller c =
    let l = lending (goal.at.loop-self-smaller c).After-items_up_to-items c.requires.stretch in
    let next = c.lend_from-behind.result.1 in
    fewer_left l next (to_behind l next c.lend_from-behind.ensures.parts.2 c.if-items-lent.false)
    c.lend_from-behind.ensures.some

pub loop-self-preserved : goal.loop-self-preserved
loop-self-preserved c = λ s.
    let w = c.loop-self.invariant s in
    let l = lending (goal.at.loop-self-preserved c).After-items_up_to-items s in
    let next = c.lend_from-behind.result.1 in (
      walked_on l next (to_behind l next c.lend_from-behind.ensures.parts.2 c.if-items-lent.false),
      found_more c.args.self.now w.0.done c.items_up_to-items.result.now c.loop-self.found.live.items
          c.loop-self.found.nodes.items c.loop-self.found.dead c.find_all.new.found.live.items
          c.find_all.new.found.nodes.items c.find_all.new.found.dead w.1 c.in_ok-find_all.ensures,
    )

pub returns : goal.returns
returns c = λ s.
    let w = c.loop-self.invariant s in
    subst (λ (items : List Item). IsFound c.args.self.now (tokens_of c.args.self.now items) c.loop-self.found.live.items
    c.loop-self.found.nodes.items c.loop-self.found.dead)
    (sym (ended c.args.self.now c.requires.tree c.args.first c.args.end s c.loop-self.at
    (same_end c.loop-self.at c.args.end (sym c.loop-self-test.ensures)) w.0)) w.1

pub returns-in_default : goal.returns-in_default
returns-in_default c = λ s.
    let w = c.loop-self.invariant s in
    subst (λ (items : List Item). IsFound c.args.self.now (tokens_of c.args.self.now items) c.loop-self.found.live.items
    c.loop-self.found.nodes.items c.loop-self.found.dead)
    (sym (all_done c.args.self.now c.requires.tree c.args.first c.args.end s c.loop-self.at c.in_default.is w.0)) w.1
