use Rattle.std.proofs.Common.{◌≡◌, ◌<◌, ◌^◌, ◌+◌, Bool, true, false, List, not, filter, length, refl, sym, ap, subst}
use Rattle.std.proofs.Common.{◌∙◌, rules, arith}
use Rattle.std.specs.Prelude.{reverse}
use Rattle.std.proofs.lemmas.Fn.{filter_same}
use Rattle.std.proofs.lemmas.List.Filters.{length-filter_both}
use Rattle.td_machine.specs.Hold.{Hold, is_of, release}
use Rattle.td_vote.specs.ByPlace.{AreSame}
use Rattle.td_vote.specs.Holds.{HoldsValue}
use Rattle.td_base.proofs.Reversed.{filter_reverse}
use Rattle.td_vote.proofs.Placed.{same_less}
use Rattle.td_vote.proofs.holds.Holds.release.Goals as goal

pub invariant_of-self : goal.invariant_of-self
invariant_of-self c =
    let p = c.args.proposal in
    let others = λ (h : Hold). not (is_of p h) in
    let holds : List Hold = c.self.inside.holds.items in
    let by_place : List Hold = c.self.inside.by_place.items in
    let left : c.retain-2.new.self.items ≡ release p holds =
    filter_same _ others _ (λ x b f' k. search rules) _ _ c.retain-2.ensures.filtered in
    let kept : c.retain.new.self.items ≡ release p by_place =
    filter_same _ others _ (λ x b f' k. search rules) _ _ c.retain.ensures.filtered in
    let both : length (release p holds) + length (filter (is_of p) holds) ≡ length holds =
    length-filter_both others (is_of p) (λ h. twice (is_of p h)) holds in
    let few : length (release p holds) < 2 ^ 32 = omega (arith, both, c.self.invariant.few) in
    let same : AreSame (release p by_place) (reverse (release p holds)) =
    subst (λ (xs : List Hold). AreSame (release p by_place) xs) (filter_reverse others holds)
    (same_less p by_place (reverse holds) c.self.invariant.same) in
    record {
      few = subst (λ (xs : List Hold). length xs < 2 ^ 32) (sym left) few;
      same = subst (λ (xs : List Hold). AreSame xs (reverse c.retain-2.new.self.items)) (sym kept)
          (subst (λ (xs : List Hold). AreSame (release p by_place) (reverse xs)) (sym left) same);
    }
  where
    twice : (b : Bool) → b ≡ not (not b)
    twice true = refl
    twice false = refl

pub returns-clause-by_place : goal.returns-clause-by_place
returns-clause-by_place c =
    let p = c.args.proposal in
    let others = λ (h : Hold). not (is_of p h) in
    filter_same _ others _ (λ x b f' k. search rules) _ _ c.retain.ensures.filtered
    ∙ ap (λ (v : HoldsValue). release p v.by_place) c.self.view_is

pub returns-clause-holds : goal.returns-clause-holds
returns-clause-holds c =
    let p = c.args.proposal in
    let others = λ (h : Hold). not (is_of p h) in
    ap reverse (filter_same _ others _ (λ x b f' k. search rules) _ _ c.retain-2.ensures.filtered)
    ∙ sym (filter_reverse others c.self.inside.holds.items)
    ∙ ap (λ (v : HoldsValue). release p v.holds) c.self.view_is
