use Rattle.std.proofs.Common.{◌≡◌, ◌≤◌, ◌<◌, length, arith, ap, ◌∙◌, sym}
use Rattle.std.proofs.lemmas.List.{length-set, length-map}
use Rattle.td_history.proofs.Places.{replaced_same, set_some}
use Rattle.td_history.proofs.index.Index.reserve.Goals as goal

pub returns-in_err-reserve-clause-lists : goal.returns-in_err-reserve-clause-lists
returns-in_err-reserve-clause-lists c =
    rw (← c.self.view_is)
    (replaced_same _ _ _ c.index_mut.result.now _ c.index_mut.ensures.value c.reserve.ensures.items)

pub returns-clause-lists : goal.returns-clause-lists
returns-clause-lists c =
    rw (← c.self.view_is)
    (replaced_same _ _ _ c.index_mut.result.now _ c.index_mut.ensures.value c.reserve.ensures.items)

pub invariant_of-self-2 : goal.invariant_of-self-2
invariant_of-self-2 c =
    let lists = c.self.inside.lists.items in
    let as_many : length c.args.self.now.lists ≡ length lists = ap (λ v. length v.lists) (sym c.self.view_is)
    ∙ length-map lists (λ v. v.items) in
    let within : c.args.of ≤ length lists = omega arith in
    let place : c.place.result < length lists = omega (arith, c.place.ensures.place, c.place.ensures.least) in
    (rw length-set within, rw (← c.place.ensures.place) (set_some _ _ _ _ place c.in_ok-reserve.ensures.ok))
