use Rattle.std.proofs.Common.{◌≡◌, ◌∙◌, ◌++◌, ℕ, List, refl, sym, ap, subst}
use Rattle.std.specs.List.{list_all}
use Rattle.td_list.specs.Items.{Item, IsItem, items_from}
use Rattle.td_brackets.specs.RowNumbers.{is_known_entry}
use Rattle.td_tree.specs.Parts.{Parts, table}
use Rattle.td_tree.specs.Reading.{shown}
use Rattle.td_tree.specs.Walks.{IsStretch}
use Rattle.td_tree.proofs.Walked.{begins, ended}
use Rattle.td_tree.proofs.Lent.{Lending, to_end, to_behind, next_ones, are_there, walked_on}
use Rattle.td_tree.proofs.Lent.{fewer_left, same_end, other_end, item_there, all_done}
use Rattle.td_tree.proofs.KnownWalks.{known_more, unknown_within}
use Rattle.td_tree.proofs.tokens.Tokens.are_known.Goals as goal
use Rattle.td_tree.proofs.tokens.Tokens.are_known.Goals.{After-items_up_to-items}

abbrev lending : (c : After-items_up_to-items) (s : IsStretch c.args.self.now c.args.first c.args.end)
    → Lending c.args.self.now c.args.first c.args.end s c.loop-self.at (c.loop-self.invariant s).0
lending c s = record {
  tree = c.requires.tree;
  name = c.in-Some.name;
  is = c.in-Some.is;
  other = other_end c.loop-self.at c.args.end (sym c.loop-self-test.ensures);
  lent = c.lend_from-behind.result.0.now;
  behind = c.lend_from-behind.ensures.parts.0;
  from = subst (λ (q : Parts). items_from c.in-Some.name q.items ≡ c.lend_from-behind.result.0.now
      ++ c.lend_from-behind.ensures.parts.0) c.self.view_is c.lend_from-behind.ensures.parts.1;
  items = c.items_up_to-items.result.now;
  cut = c.items_up_to-items.ensures;
}

pub loop-self-init : goal.loop-self-init
loop-self-init c = λ s. (begins c.args.self.now c.requires.tree c.args.first c.args.end s, refl)

pub lend_from-behind-requires : goal.lend_from-behind-requires
lend_from-behind-requires c =
    let s = c.requires.stretch in
    subst (λ (q : Parts). IsItem c.in-Some.name q.items) (sym c.self.view_is)
    (item_there c.args.self.now c.requires.tree c.args.first c.args.end s c.loop-self.at c.in-Some.name c.in-Some.is
    (other_end c.loop-self.at c.args.end (sym c.loop-self-test.ensures)) (c.loop-self.invariant s).0)

pub are_items_known-requires-clause-there : goal.are_items_known-requires-clause-there
are_items_known-requires-clause-there c = are_there
    (lending (goal.at.are_items_known-requires-clause-there c).After-items_up_to-items c.requires.stretch)

pub returns-then-not-are_items_known : goal.returns-then-not-are_items_known
returns-then-not-are_items_known c = λ s.
    let w = (c.loop-self.invariant s).0 in
    let ones = next_ones (lending (goal.at.returns-then-not-are_items_known c).After-items_up_to-items s) in
    sym (unknown_within (λ (r : ℕ). is_known_entry c.args.v.now (table c.args.self.now r)) c.args.self.now s.inner
    w.done c.items_up_to-items.result.now ones.0
    (w.is ∙ ap (λ (xs : List Item). w.done ++ xs) ones.1)
    (sym c.are_items_known.ensures ∙ c.if-not-are_items_known.true))

pub loop-self-smaller-then-items-lent : goal.loop-self-smaller-then-items-lent
loop-self-smaller-then-items-lent c =
    let l = lending (goal.at.loop-self-smaller-then-items-lent c).After-items_up_to-items c.requires.stretch in
    fewer_left l c.args.end (to_end l c.if-items-lent.true) c.lend_from-behind.ensures.some

pub loop-self-preserved-then-items-lent : goal.loop-self-preserved-then-items-lent
loop-self-preserved-then-items-lent c = λ s.
    let w = c.loop-self.invariant s in
    let l = lending (goal.at.loop-self-preserved-then-items-lent c).After-items_up_to-items s in (
      walked_on l c.args.end (to_end l c.if-items-lent.true),
      known_more (λ (r : ℕ). is_known_entry c.args.v.now (table c.args.self.now r)) c.args.self.now w.0.done
          c.items_up_to-items.result.now w.1 (sym c.are_items_known.ensures ∙ c.if-not-are_items_known.false),
    )

pub loop-self-smaller : goal.loop-self-smaller
loop-self-smaller c =
    let l = lending (goal.at.loop-self-smaller c).After-items_up_to-items c.requires.stretch in
    let next = c.lend_from-behind.result.1 in
    fewer_left l next (to_behind l next c.lend_from-behind.ensures.parts.2 c.if-items-lent.false)
    c.lend_from-behind.ensures.some

pub loop-self-preserved : goal.loop-self-preserved
loop-self-preserved c = λ s.
    let w = c.loop-self.invariant s in
    let l = lending (goal.at.loop-self-preserved c).After-items_up_to-items s in
    let next = c.lend_from-behind.result.1 in (
      walked_on l next (to_behind l next c.lend_from-behind.ensures.parts.2 c.if-items-lent.false),
      known_more (λ (r : ℕ). is_known_entry c.args.v.now (table c.args.self.now r)) c.args.self.now w.0.done
          c.items_up_to-items.result.now w.1 (sym c.are_items_known.ensures ∙ c.if-not-are_items_known.false),
    )

pub returns : goal.returns
returns c = λ s.
    let w = c.loop-self.invariant s in
    sym (ap (λ (items : List Item). list_all (λ (r : ℕ). is_known_entry c.args.v.now (table c.args.self.now r))
    (shown c.args.self.now items))
    (ended c.args.self.now c.requires.tree c.args.first c.args.end s c.loop-self.at
    (same_end c.loop-self.at c.args.end (sym c.loop-self-test.ensures)) w.0) ∙ w.1)

pub returns-in_default : goal.returns-in_default
returns-in_default c = λ s.
    let w = c.loop-self.invariant s in
    sym (ap (λ (items : List Item). list_all (λ (r : ℕ). is_known_entry c.args.v.now (table c.args.self.now r))
    (shown c.args.self.now items))
    (all_done c.args.self.now c.requires.tree c.args.first c.args.end s c.loop-self.at c.in_default.is w.0) ∙ w.1)
