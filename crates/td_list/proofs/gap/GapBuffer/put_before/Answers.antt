use Rattle.std.proofs.Common.{◌≡◌, ◌<◌, ◌+◌, ◌-◌, ◌∙◌, ℕ, List, length, get_or, reverse, ap, sym, subst, arith}
use Rattle.td_list.specs.Items.{Item, IsItem, AreNew, put_before, weight_of}
use Rattle.td_list.specs.Places.{nothing}
use Rattle.td_list.specs.Buffered.{IsGapBuffer}
use Rattle.td_list.proofs.Halves.{grown, gap_there, gap_put}
use Rattle.td_list.proofs.gap.GapBuffer.put_before.Goals as goal

pub invariant_of-self-2 : goal.invariant_of-self-2
invariant_of-self-2 c =
    let front = c.self.inside.front.items in
    let back = c.self.inside.back.items in
    let piece = c.args.piece.now in
    let long = ap (λ (xs : List Item). length xs) c.self.view_is in
    let heavy = ap weight_of c.self.view_is in
    subst (λ (xs : List Item). IsGapBuffer xs (c.self.inside.weight + c.weight_of.result) c.least_of-self-inside.result)
    (sym c.in_ok-put_between.ensures.ok)
    (grown front (reverse back) piece c.self.inside.weight c.self.inside.least c.weight_of.result
    c.least_of-self-inside.result c.self.invariant c.requires.apart
    (subst (AreNew piece) (sym c.self.view_is) c.requires.new)
    (omega (arith, c.len.ensures.value, c.len.ensures.few, c.if-piece-len.false))
    c.weight_of.ensures
    (omega (arith, c.self.invariant.weighed, c.weight_of.ensures, c.requires.light))
    c.least_of-self-inside.ensures.number c.least_of-self-inside.ensures.names)

abbrev Last : List Item → ℕ → Type 0
Last items name = (0 < length items) × ((get_or items (length items - 1) nothing).name ≡ name)

pub returns-clause-there : goal.returns-clause-there
returns-clause-there c = λ t.
    let last : Last c.self.inside.back.items c.args.name = subst (λ (xs : List Item). Last xs c.args.name)
    c.deref.ensures.value (c.is_last.ensures c.if-not-is_last.false) in
    subst (IsItem c.args.name) c.self.view_is (gap_there c.self.inside.front.items c.self.inside.back.items
    c.args.piece.now c.args.name c.self.invariant.apart last.0 last.1)

pub returns-clause-put : goal.returns-clause-put
returns-clause-put c = λ t.
    let last : Last c.self.inside.back.items c.args.name = subst (λ (xs : List Item). Last xs c.args.name)
    c.deref.ensures.value (c.is_last.ensures c.if-not-is_last.false) in
    c.in_ok-put_between.ensures.ok
    ∙ gap_put c.self.inside.front.items c.self.inside.back.items c.args.piece.now c.args.name c.self.invariant.apart
    last.0 last.1
    ∙ ap (put_before c.args.name c.args.piece.now) c.self.view_is
