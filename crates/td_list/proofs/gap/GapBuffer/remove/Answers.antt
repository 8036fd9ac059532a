use Rattle.std.proofs.Common.{◌≡◌, ◌<◌, ◌≤◌, ◌+◌, ◌-◌, ◌∙◌, ◌++◌, ℕ, List, length, take, drop, reverse}
use Rattle.std.proofs.Common.{ap, sym, subst, arith, append_assoc}
use Rattle.std.proofs.lemmas.List.{take-append-le, drop-append-le}
use Rattle.td_list.specs.Items.{Item, weight_of}
use Rattle.td_list.specs.Buffered.{halves, IsGapBuffer}
use Rattle.td_list.proofs.Halves.{shrunk, remove_behind, heavy}
use Rattle.td_list.proofs.gap.GapBuffer.remove.Goals as goal

pub overflow_sub-self : goal.overflow_sub-self
overflow_sub-self c =
    let h = heavy c.args.self.now c.args.place c.requires in
    let w = c.self.invariant.weighed ∙ ap weight_of c.self.view_is in
    let e = c.weight.ensures ∙ ap (λ (i : Item). i.weight) c.item.ensures in
    omega arith

in_front : (front back now : List Item) (place : ℕ) (all : List Item) → halves front back ≡ all
    → place < length front → now ≡ take place front ++ drop (place + 1) front
    → halves now back ≡ take place all ++ drop (place + 1) all
in_front front back now place all e l is =
    ap (λ (xs : List Item). halves xs back) is
    ∙ append_assoc (take place front) (drop (place + 1) front) (reverse back)
    ∙ (λ k. sym (take-append-le place front (reverse back) (omega arith)) k
    ++ sym (drop-append-le (place + 1) front (reverse back) (omega arith)) k)
    ∙ ap (λ (xs : List Item). take place xs ++ drop (place + 1) xs) e

pub invariant_of-self : goal.invariant_of-self
invariant_of-self c =
    subst (λ (xs : List Item). IsGapBuffer xs (c.self.inside.weight - c.weight.result) c.self.inside.least)
    (sym (in_front c.self.inside.front.items c.self.inside.back.items c.remove.new.self.items c.args.place
    c.args.self.now c.self.view_is (omega (arith, c.if-place-front.true, c.len-front.ensures))
    c.remove.ensures.by_index.2))
    (shrunk c.args.self.now c.args.place c.self.inside.weight c.self.inside.least c.weight.result
    (subst (λ (xs : List Item). IsGapBuffer xs c.self.inside.weight c.self.inside.least) c.self.view_is
    c.self.invariant) c.requires (c.weight.ensures ∙ ap (λ (i : Item). i.weight) c.item.ensures))

in_back : (front back now : List Item) (place j : ℕ) (all : List Item) → halves front back ≡ all
    → length front ≤ place → place < length all → j ≡ length back - 1 - (place - length front)
    → now ≡ take j back ++ drop (j + 1) back
    → halves front now ≡ take place all ++ drop (place + 1) all
in_back front back now place j all e h l at is =
    ap (halves front) is ∙ ap (λ (n : ℕ). halves front (take n back ++ drop (n + 1) back)) at
    ∙ remove_behind front back place h (subst (λ (xs : List Item). place < length xs) (sym e) l)
    ∙ ap (λ (xs : List Item). take place xs ++ drop (place + 1) xs) e

pub returns-else-place-front : goal.returns-else-place-front
returns-else-place-front c =
    in_back c.self.inside.front.items c.self.inside.back.items c.remove-else-place-front.new.self.items c.args.place
    (c.len.result - 1 - (c.args.place - c.len-front.result)) c.args.self.now c.self.view_is
    (omega (arith, c.if-place-front.false, c.len-front.ensures)) c.requires
    (omega (arith, c.len-front.ensures, c.len.ensures)) c.remove-else-place-front.ensures.by_index.2

pub invariant_of-self-else-place-front : goal.invariant_of-self-else-place-front
invariant_of-self-else-place-front c =
    subst (λ (xs : List Item). IsGapBuffer xs (c.self.inside.weight - c.weight.result) c.self.inside.least)
    (sym (in_back c.self.inside.front.items c.self.inside.back.items c.remove-else-place-front.new.self.items
    c.args.place (c.len.result - 1 - (c.args.place - c.len-front.result)) c.args.self.now c.self.view_is
    (omega (arith, c.if-place-front.false, c.len-front.ensures)) c.requires
    (omega (arith, c.len-front.ensures, c.len.ensures)) c.remove-else-place-front.ensures.by_index.2))
    (shrunk c.args.self.now c.args.place c.self.inside.weight c.self.inside.least c.weight.result
    (subst (λ (xs : List Item). IsGapBuffer xs c.self.inside.weight c.self.inside.least) c.self.view_is
    c.self.invariant) c.requires (c.weight.ensures ∙ ap (λ (i : Item). i.weight) c.item.ensures))
