use Rattle.std.proofs.Common.{◌≡◌, ◌++◌, None, sym, refl, subst, arith}
use Rattle.std.proofs.lemmas.List.{append-nil}
use Rattle.td_list.specs.Items.{IsItem, items_from}
use Rattle.td_tree.specs.Parts.{Parts}
use Rattle.td_tree.proofs.Walked.{begins}
use Rattle.td_tree.proofs.Lent.{Lending, to_behind, are_there, walked_on, fewer_left, item_there}
use Rattle.td_tree.proofs.Texts.{s, some_none, pushed, pushed_all}
use Rattle.td_tree.proofs.tokens.Tokens.push_tokens.Goals as goal
use Rattle.td_tree.proofs.tokens.Tokens.push_tokens.Goals.{After-lend_from-behind}

abbrev lending : (c : After-lend_from-behind) → Lending c.args.self.now c.first-at.result None
    (s c.args.self.now c.requires c.first-at.result c.first-at.ensures) c.loop-at.at c.loop-at.invariant.0
lending c = record {
  tree = c.requires;
  name = c.in-Some.name;
  is = c.in-Some.is;
  other = some_none c.loop-at.at c.in-Some.name c.in-Some.is;
  lent = c.lend_from-behind.result.0.now;
  behind = c.lend_from-behind.ensures.parts.0;
  from = subst (λ (q : Parts). items_from c.in-Some.name q.items ≡ c.lend_from-behind.result.0.now
      ++ c.lend_from-behind.ensures.parts.0) c.self.view_is c.lend_from-behind.ensures.parts.1;
  items = c.lend_from-behind.result.0.now;
  cut = refl;
}

pub loop-at-init : goal.loop-at-init
loop-at-init c = (
  begins c.args.self.now c.requires c.first-at.result None
      (s c.args.self.now c.requires c.first-at.result c.first-at.ensures),
  sym (append-nil c.args.text.now),
)

pub lend_from-behind-requires : goal.lend_from-behind-requires
lend_from-behind-requires c =
    let all = s c.args.self.now c.requires c.first-at.result c.first-at.ensures in
    subst (λ (q : Parts). IsItem c.in-Some.name q.items) (sym c.self.view_is)
    (item_there c.args.self.now c.requires c.first-at.result None all c.loop-at.at c.in-Some.name c.in-Some.is
    (some_none c.loop-at.at c.in-Some.name c.in-Some.is) c.loop-at.invariant.0)

pub push_items-requires-clause-there : goal.push_items-requires-clause-there
push_items-requires-clause-there c = are_there
    (lending (goal.at.push_items-requires-clause-there c).After-lend_from-behind)

pub loop-at-smaller : goal.loop-at-smaller
loop-at-smaller c =
    let l = lending (goal.at.loop-at-smaller c).After-lend_from-behind in
    let next = c.lend_from-behind.result.1 in
    fewer_left l next (to_behind l next c.lend_from-behind.ensures.parts.2 (omega arith))
    c.lend_from-behind.ensures.some

pub loop-at-preserved : goal.loop-at-preserved
loop-at-preserved c =
    let l = lending (goal.at.loop-at-preserved c).After-lend_from-behind in
    let next = c.lend_from-behind.result.1 in (
      walked_on l next (to_behind l next c.lend_from-behind.ensures.parts.2 (omega arith)),
      pushed c.args.self.now c.loop-at.invariant.0.done c.lend_from-behind.result.0.now c.args.text.now c.loop-at.text
          c.push_items.new.text c.loop-at.invariant.1 c.in_ok-push_items.ensures.ok,
    )

pub returns-clause-ok : goal.returns-clause-ok
returns-clause-ok c = pushed_all c.args.self.now c.requires c.first-at.result c.first-at.ensures c.args.text.now
    c.loop-at.text c.loop-at.at c.in_default.is c.loop-at.invariant
