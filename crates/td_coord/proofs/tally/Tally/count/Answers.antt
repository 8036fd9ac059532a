use Rattle.std.proofs.Common.{find, is_some, sym, ap, ◌∙◌, ◌≡◌, Ok}
use Rattle.std.specs.Int.{from_bool}
use Rattle.std.specs.Vec.{vec_capacity}
use Rattle.td_machine.specs.Decision.{is_on}
use Rattle.td_coord.specs.Places.{IsPlace}
use Rattle.td_coord.specs.Tally.{TallyValue, brought, voted}
use Rattle.td_coord.specs.TallyParts.{is_decision}
use Rattle.td_coord.proofs.Placed.{is_placed, one_found}
use Rattle.td_coord.proofs.Kept.{vote_parts, seen_changed, seen_voted}
use Rattle.td_coord.proofs.tally.Tally.count.Goals as goal

pub unwrap-place-requires : goal.unwrap-place-requires
unwrap-place-requires c =
    let p = c.args.vote.proposal in
    is_placed p c.self.inside.ballots.items c.place_of.result (rw c.deref.ensures.value at c.place_of.ensures)
    (ap (λ (t : TallyValue). is_some (find (is_on p) t.ballots)) c.self.view_is ∙ c.requires.started)

pub overflow_sub-self : goal.overflow_sub-self
overflow_sub-self c =
    let old = c.self.inside in
    let place : IsPlace c.args.vote.proposal old.ballots.items (Ok c.unwrap-place.result) =
    rw (c.deref.ensures.value, c.unwrap-place.ensures) at c.place_of.ensures in
    (vote_parts old.size old.own old.undecided c.from.result c.args.vote old.ballots.items c.unwrap-place.result
    c.index_mut.result.now c.count-counted.new.self c.self.invariant place.0 c.index_mut.ensures.value
    c.count-counted.ensures.ballot
    (c.from.ensures ∙ ap from_bool c.is_decision.ensures
    ∙ (λ i. from_bool (is_decision (c.count-counted.ensures.brought i))))).0

pub invariant_of-self : goal.invariant_of-self
invariant_of-self c =
    let old = c.self.inside in
    let place : IsPlace c.args.vote.proposal old.ballots.items (Ok c.unwrap-place.result) =
    rw (c.deref.ensures.value, c.unwrap-place.ensures) at c.place_of.ensures in
    (vote_parts old.size old.own old.undecided c.from.result c.args.vote old.ballots.items c.unwrap-place.result
    c.index_mut.result.now c.count-counted.new.self c.self.invariant place.0 c.index_mut.ensures.value
    c.count-counted.ensures.ballot
    (c.from.ensures ∙ ap from_bool c.is_decision.ensures
    ∙ (λ i. from_bool (is_decision (c.count-counted.ensures.brought i))))).1

pub returns-clause-brought : goal.returns-clause-brought
returns-clause-brought c = λ b found.
    let v = c.args.vote in
    let xs = c.self.inside.ballots.items in
    let seen = c.index_mut.result.now in
    let same : b ≡ seen =
    one_found v.proposal xs c.unwrap-place.result seen b c.self.invariant.rising
    (rw (c.deref.ensures.value, c.unwrap-place.ensures) at c.place_of.ensures) c.index_mut.ensures.value
    (ap (λ (t : TallyValue). find (is_on v.proposal) t.ballots) c.self.view_is ∙ found) in
    c.count-counted.ensures.brought
    ∙ (λ i. brought (ap (λ (t : TallyValue). t.size) c.self.view_is i) v (sym same i))

pub returns-clause-tally : goal.returns-clause-tally
returns-clause-tally c = λ b found.
    let v = c.args.vote in
    let old = c.self.inside in
    let xs = old.ballots.items in
    let k = c.unwrap-place.result in
    let seen = c.index_mut.result.now in
    let place : IsPlace v.proposal xs (Ok k) =
    rw (c.deref.ensures.value, c.unwrap-place.ensures) at c.place_of.ensures in
    let same : b ≡ seen =
    one_found v.proposal xs k seen b c.self.invariant.rising place c.index_mut.ensures.value
    (ap (λ (t : TallyValue). find (is_on v.proposal) t.ballots) c.self.view_is ∙ found) in
    seen_changed old.size old.own (vec_capacity old.ballots) xs k c.count-counted.new.self _
    (seen_voted old.size v xs k seen c.count-counted.new.self c.self.invariant.rising place c.index_mut.ensures.value
    c.count-counted.ensures.ballot)
    ∙ (λ i. let t : TallyValue = c.self.view_is i in record t { ballots = voted t.size v (sym same i) t.ballots })
