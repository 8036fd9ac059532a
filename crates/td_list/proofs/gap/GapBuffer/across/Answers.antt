use Rattle.std.proofs.Common.{◌≡◌, ◌<◌, ◌-◌, ◌∙◌, ℕ, List, length, get_or, slice_get, ap, sym, subst, arith}
use Rattle.std.proofs.Common.{Some}
use Rattle.std.proofs.lemmas.Option.{slice_get_within, get_or_from_slice_get}
use Rattle.td_list.specs.Items.{Item, IsItem, items_after, first_name}
use Rattle.td_list.specs.Places.{nothing}
use Rattle.td_list.proofs.Halves.{across_there, across_next}
use Rattle.td_list.proofs.gap.GapBuffer.across.Goals as goal

abbrev Last : List Item → ℕ → Type 0
Last items name = (0 < length items) × ((get_or items (length items - 1) nothing).name ≡ name)

abbrev last_place : List Item → ℕ
last_place items = length items - 1

pub returns-in-Some-clause-there : goal.returns-in-Some-clause-there
returns-in-Some-clause-there c =
    let front : List Item = c.self.inside.front.items in
    let back : List Item = c.self.inside.back.items in
    let last : Last front c.args.name = subst (λ (xs : List Item). Last xs c.args.name) c.deref.ensures.value
    (c.is_last.ensures c.if-not-is_last.false) in
    let next : slice_get back (last_place back) ≡ Some c.in-Some.next.now =
    subst (λ (xs : List Item). slice_get xs (last_place xs) ≡ Some c.in-Some.next.now) c.deref-2.ensures.value
    (sym c.in-Some.ensures.value) in
    let within : last_place back < length back = slice_get_within back (last_place back) c.in-Some.next.now next in
    subst (IsItem c.args.name) c.self.view_is (across_there front back c.args.name c.self.invariant.apart last.0 last.1
    (omega (arith, within)))

pub returns-in-Some-clause-next : goal.returns-in-Some-clause-next
returns-in-Some-clause-next c =
    let front : List Item = c.self.inside.front.items in
    let back : List Item = c.self.inside.back.items in
    let last : Last front c.args.name = subst (λ (xs : List Item). Last xs c.args.name) c.deref.ensures.value
    (c.is_last.ensures c.if-not-is_last.false) in
    let next : slice_get back (last_place back) ≡ Some c.in-Some.next.now =
    subst (λ (xs : List Item). slice_get xs (last_place xs) ≡ Some c.in-Some.next.now) c.deref-2.ensures.value
    (sym c.in-Some.ensures.value) in
    let within : last_place back < length back = slice_get_within back (last_place back) c.in-Some.next.now next in
    ap (λ (xs : List Item). first_name (items_after c.args.name xs)) (sym c.self.view_is)
    ∙ across_next front back c.args.name c.self.invariant.apart last.0 last.1
    (omega (arith, within))
    ∙ ap (λ (i : Item). Some i.name) (get_or_from_slice_get back (last_place back) c.in-Some.next.now nothing next)
    ∙ ap Some (sym c.name.ensures)
