use Rattle.std.proofs.Common.{◌≡◌, ◌<◌, ◌≤◌, ◌+◌, ◌-◌, ◌∙◌, ◌++◌, ◌∷◌, ℕ, List, length, take, drop, reverse}
use Rattle.std.proofs.Common.{set, ap, sym, subst, arith}
use Rattle.std.proofs.lemmas.List.{set-append_left}
use Rattle.td_list.specs.Items.{Item, weight_of}
use Rattle.td_list.specs.Buffered.{halves, IsGapBuffer}
use Rattle.td_list.proofs.Weights.{set_there}
use Rattle.td_list.proofs.Halves.{renewed, renew_behind, heavy}
use Rattle.td_list.proofs.gap.GapBuffer.renew.Goals as goal

pub overflow_sub-self : goal.overflow_sub-self
overflow_sub-self c =
    let h = heavy c.args.self.now c.args.place c.requires.place in
    let w = c.self.invariant.weighed ∙ ap weight_of c.self.view_is in
    let e = c.weight.ensures ∙ ap (λ (i : Item). i.weight) c.item.ensures in
    omega arith

in_front : (front back : List Item) (place : ℕ) (i : Item) (all : List Item) → halves front back ≡ all
    → place < length front → place < length all
    → halves (set front place i) back ≡ take place all ++ i ∷ drop (place + 1) all
in_front front back place i all e l m =
    sym (set-append_left front (reverse back) place i l) ∙ ap (λ (xs : List Item). set xs place i) e
    ∙ set_there all place i m

pub returns-then-place-front : goal.returns-then-place-front
returns-then-place-front c =
    in_front c.self.inside.front.items c.self.inside.back.items c.args.place c.args.item c.args.self.now c.self.view_is
    (omega (arith, c.if-place-front.true, c.len-front.ensures)) c.requires.place

pub invariant_of-self : goal.invariant_of-self
invariant_of-self c =
    subst (λ (xs : List Item). IsGapBuffer xs (c.self.inside.weight - c.weight.result + c.weight-2.result)
    c.self.inside.least)
    (sym (in_front c.self.inside.front.items c.self.inside.back.items c.args.place c.args.item c.args.self.now
    c.self.view_is (omega (arith, c.if-place-front.true, c.len-front.ensures)) c.requires.place))
    (renewed c.args.self.now c.args.place c.self.inside.weight c.self.inside.least c.weight.result c.weight-2.result
    c.args.item (subst (λ (xs : List Item). IsGapBuffer xs c.self.inside.weight c.self.inside.least) c.self.view_is
    c.self.invariant) c.requires.place c.requires.named (c.weight.ensures ∙ ap (λ (i : Item). i.weight) c.item.ensures)
    c.weight-2.ensures c.requires.light)

in_back : (front back : List Item) (place j : ℕ) (i : Item) (all : List Item) → halves front back ≡ all
    → length front ≤ place → place < length all → j ≡ length back - 1 - (place - length front)
    → halves front (set back j i) ≡ take place all ++ i ∷ drop (place + 1) all
in_back front back place j i all e h l at =
    ap (λ (n : ℕ). halves front (set back n i)) at
    ∙ renew_behind front back place h (subst (λ (xs : List Item). place < length xs) (sym e) l) i
    ∙ ap (λ (xs : List Item). take place xs ++ i ∷ drop (place + 1) xs) e

pub returns-else-place-front : goal.returns-else-place-front
returns-else-place-front c =
    in_back c.self.inside.front.items c.self.inside.back.items c.args.place
    (c.len.result - 1 - (c.args.place - c.len-front.result)) c.args.item c.args.self.now c.self.view_is
    (omega (arith, c.if-place-front.false, c.len-front.ensures)) c.requires.place
    (omega (arith, c.len-front.ensures, c.len.ensures))

pub invariant_of-self-else-place-front : goal.invariant_of-self-else-place-front
invariant_of-self-else-place-front c =
    subst (λ (xs : List Item). IsGapBuffer xs (c.self.inside.weight - c.weight.result + c.weight-2.result)
    c.self.inside.least)
    (sym (in_back c.self.inside.front.items c.self.inside.back.items c.args.place
    (c.len.result - 1 - (c.args.place - c.len-front.result)) c.args.item c.args.self.now c.self.view_is
    (omega (arith, c.if-place-front.false, c.len-front.ensures)) c.requires.place
    (omega (arith, c.len-front.ensures, c.len.ensures))))
    (renewed c.args.self.now c.args.place c.self.inside.weight c.self.inside.least c.weight.result c.weight-2.result
    c.args.item (subst (λ (xs : List Item). IsGapBuffer xs c.self.inside.weight c.self.inside.least) c.self.view_is
    c.self.invariant) c.requires.place c.requires.named (c.weight.ensures ∙ ap (λ (i : Item). i.weight) c.item.ensures)
    c.weight-2.ensures c.requires.light)
