use Rattle.std.proofs.Common.{find, sym, ap, ◌∙◌, Ok, false}
use Rattle.std.specs.Vec.{vec_capacity}
use Rattle.td_machine.specs.Decision.{is_on, revise, close}
use Rattle.td_coord.specs.Places.{IsPlace}
use Rattle.td_coord.specs.Tally.{TallyValue, is_open_found}
use Rattle.td_coord.proofs.Placed.{found_at, not_found, revised_at}
use Rattle.td_coord.proofs.Kept.{close_parts, seen_changed}
use Rattle.td_coord.proofs.tally.Tally.cancel.Goals as goal

pub returns-in_default-clause-open : goal.returns-in_default-clause-open
returns-in_default-clause-open c =
    let p = c.args.proposal in
    ap is_open_found
    (sym
    (not_found p c.self.inside.ballots.items c.in_default.field-0 (rw c.deref.ensures.value at c.in_default.ensures)))
    ∙ ap (λ (t : TallyValue). is_open_found (find (is_on p) t.ballots)) c.self.view_is

pub returns-then-not-is_open-clause-open : goal.returns-then-not-is_open-clause-open
returns-then-not-is_open-clause-open c =
    let p = c.args.proposal in
    c.if-not-is_open.ensures
    ∙ ap is_open_found
    (sym
    (found_at p c.self.inside.ballots.items c.in-Ok.place c.index_mut-ballot.result.now c.self.invariant.rising
    (rw c.deref.ensures.value at c.in-Ok.ensures) c.index_mut-ballot.ensures.value))
    ∙ ap (λ (t : TallyValue). is_open_found (find (is_on p) t.ballots)) c.self.view_is

pub overflow_sub-self : goal.overflow_sub-self
overflow_sub-self c =
    let old = c.self.inside in
    let place : IsPlace c.args.proposal old.ballots.items (Ok c.in-Ok.place) =
    rw c.deref.ensures.value at c.in-Ok.ensures in
    (close_parts old.size old.own old.undecided old.ballots.items c.in-Ok.place c.index_mut-ballot.result.now
    c.close.new.self c.self.invariant place.0 c.index_mut-ballot.ensures.value (sym c.if-not-is_open.ensures)
    c.close.ensures).0

pub invariant_of-self-2 : goal.invariant_of-self-2
invariant_of-self-2 c =
    let old = c.self.inside in
    let place : IsPlace c.args.proposal old.ballots.items (Ok c.in-Ok.place) =
    rw c.deref.ensures.value at c.in-Ok.ensures in
    (close_parts old.size old.own old.undecided old.ballots.items c.in-Ok.place c.index_mut-ballot.result.now
    c.close.new.self c.self.invariant place.0 c.index_mut-ballot.ensures.value (sym c.if-not-is_open.ensures)
    c.close.ensures).1

pub returns-clause-open : goal.returns-clause-open
returns-clause-open c =
    let p = c.args.proposal in
    c.if-not-is_open.ensures
    ∙ ap is_open_found
    (sym
    (found_at p c.self.inside.ballots.items c.in-Ok.place c.index_mut-ballot.result.now c.self.invariant.rising
    (rw c.deref.ensures.value at c.in-Ok.ensures) c.index_mut-ballot.ensures.value))
    ∙ ap (λ (t : TallyValue). is_open_found (find (is_on p) t.ballots)) c.self.view_is

pub returns-clause-tally : goal.returns-clause-tally
returns-clause-tally c =
    let p = c.args.proposal in
    let old = c.self.inside in
    let xs = old.ballots.items in
    let k = c.in-Ok.place in
    seen_changed old.size old.own (vec_capacity old.ballots) xs k c.close.new.self _
    (revised_at p (close false) xs k c.index_mut-ballot.result.now c.close.new.self c.self.invariant.rising
    (rw c.deref.ensures.value at c.in-Ok.ensures) c.index_mut-ballot.ensures.value (sym c.close.ensures))
    ∙ (λ i. let t : TallyValue = c.self.view_is i in record t { ballots = revise p (close false) t.ballots })
