use Rattle.std.proofs.Common.{◌∙◌, ℕ, List, Bool, true, false, not, refl, sym, subst, true≢false}
use Rattle.std.proofs.lemmas.Option.{none-some, same_Some}
use Rattle.std.specs.Prelude.{IsTrue, ◌↔◌}
use Rattle.td_list.specs.Items.{Item, IsItem, items_before_end}
use Rattle.td_list.proofs.buffered.is_between.Goals as goal

pub returns-then-not-is_front : goal.returns-then-not-is_front
returns-then-not-is_front g c = (
  λ t. absurd (true≢false (sym t)),
  λ p. absurd (true≢false (sym (c.is_front.ensures.1 p.0) ∙ c.if-not-is_front.true)),
)

unless : (b : Bool) (x : ℕ) (items : List Item) → IsTrue b ↔ IsItem x items
    → (IsTrue (not b) → IsItem x items → ⊥) × ((IsItem x items → ⊥) → IsTrue (not b))
unless true x items h = (λ t. absurd (true≢false (sym t)), λ n. absurd (n (h.0 refl)))
unless false x items h = (λ t i. true≢false (sym (h.1 i)), λ n. refl)

pub returns-in-Some : goal.returns-in-Some
returns-in-Some g c =
    let items : List Item = items_before_end c.args.end (g.S.Sequence.items c.args.list.now) in
    let y : ℕ = c.in-Some.second in
    let u = unless c.is_front-in-Some.result y items c.is_front-in-Some.ensures in (
      λ t. (
        c.is_front.ensures.0 c.if-not-is_front.false,
        λ x e i. u.0 t (subst (λ (z : ℕ). IsItem z items) (sym (same_Some y x (sym c.in-Some.is ∙ e))) i),
      ),
      λ p. u.1 (p.1 y c.in-Some.is),
    )

pub returns-in-None : goal.returns-in-None
returns-in-None g c = (
  λ t. (
    c.is_front.ensures.0 c.if-not-is_front.false,
    λ x e. absurd (none-some x (sym c.in-None.is ∙ e)),
  ),
  λ p. refl,
)
