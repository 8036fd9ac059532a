use Rattle.std.proofs.Common.{◌∙◌, ℕ, Option, not, ap, sym, subst}
use Rattle.std.proofs.lemmas.Result.{on_ok_weaker, IfOk-weaker}
use Rattle.td_tree.specs.Stretches.{IsSlotItems}
use Rattle.td_tree.proofs.Lent.{same_end, other_end}
use Rattle.td_tree.proofs.SlotItems.{some_items, no_items, none_first, no_nodes}
use Rattle.td_tree.proofs.GivenBack.{none_before}
use Rattle.td_tree.proofs.tokens.Tokens.flatten_stretch.Goals as goal

pub returns-then-eq-clause-ok : goal.returns-then-eq-clause-ok
returns-then-eq-clause-ok c = λ slot s. no_items c.args.self.now c.requires.tree slot c.args.first c.args.end s
    (same_end c.args.first c.args.end (ap not (sym c.if-eq.ensures)))

pub flatten_between-requires-clause-stretch : goal.flatten_between-requires-clause-stretch
flatten_between-requires-clause-stretch c =
    let s = c.requires.items in
    let n = other_end c.args.first c.args.end (ap not (sym c.if-eq.ensures)) in (
      s.0,
      some_items c.args.self.now c.requires.tree s.0 c.in-Some.name c.args.end
          (subst (λ (o : Option ℕ). IsSlotItems c.args.self.now s.0 o c.args.end) c.in-Some.is s.1)
          (λ e. n (c.in-Some.is ∙ e)),
    )

pub returns-in-Some-clause-ok : goal.returns-in-Some-clause-ok
returns-in-Some-clause-ok c =
    let n = other_end c.args.first c.args.end (ap not (sym c.if-eq.ensures)) in
    on_ok_weaker c.flatten_between.result (λ f slot s. f slot
    (some_items c.args.self.now c.requires.tree slot c.in-Some.name c.args.end
    (subst (λ (o : Option ℕ). IsSlotItems c.args.self.now slot o c.args.end) c.in-Some.is s)
    (λ e. n (c.in-Some.is ∙ e)))) c.flatten_between.ensures.ok

pub returns-in-None-clause-ok : goal.returns-in-None-clause-ok
returns-in-None-clause-ok c = λ slot s.
    no_items c.args.self.now c.requires.tree slot c.args.first c.args.end s
    (none_first c.args.self.now slot c.args.first c.args.end s c.in-None.is)

pub returns-then-eq-clause-nodes : goal.returns-then-eq-clause-nodes
returns-then-eq-clause-nodes c = λ s. no_nodes c.args.self.now c.requires.tree c.args.first c.args.end s
    (same_end c.args.first c.args.end (ap not (sym c.if-eq.ensures)))

pub returns-in-Some-clause-nodes : goal.returns-in-Some-clause-nodes
returns-in-Some-clause-nodes c = on_ok_weaker c.flatten_between.result
    (λ f s. f (record
    { front = s.front; inner = s.inner; back = s.back; is = s.is; starts = s.starts ∙ c.in-Some.is; ends = s.ends }))
    c.flatten_between.ensures.nodes

pub returns-in-None-clause-nodes : goal.returns-in-None-clause-nodes
returns-in-None-clause-nodes c = λ s.
    let i = c.requires.items in
    no_nodes c.args.self.now c.requires.tree c.args.first c.args.end s
    (none_first c.args.self.now i.0 c.args.first c.args.end i.1 c.in-None.is)

pub returns-in-Some-clause-last : goal.returns-in-Some-clause-last
returns-in-Some-clause-last c = IfOk-weaker c.flatten_between.result _ _
    (λ changed f u starts ends. f u (none_before c.args.self.now.items c.in-Some.name (sym starts ∙ c.in-Some.is)) ends)
    c.flatten_between.ensures.last
