use Rattle.std.proofs.Common.{find, sym, ap, ◌∙◌}
use Rattle.td_machine.specs.Decision.{is_on}
use Rattle.td_coord.specs.Tally.{TallyValue}
use Rattle.td_coord.proofs.Placed.{found_at, not_found}
use Rattle.td_coord.proofs.tally.Tally.find.Goals as goal

pub returns-in-Ok : goal.returns-in-Ok
returns-in-Ok c =
    let p = c.args.proposal in
    sym
    (found_at p c.self.inside.ballots.items c.in-Ok.place c.index.result.now c.self.invariant.rising
    (rw c.deref.ensures.value at c.in-Ok.ensures) c.index.ensures)
    ∙ ap (λ (t : TallyValue). find (is_on p) t.ballots) c.self.view_is

pub returns-in-Err : goal.returns-in-Err
returns-in-Err c =
    let p = c.args.proposal in
    sym (not_found p c.self.inside.ballots.items c.in-Err.field-0 (rw c.deref.ensures.value at c.in-Err.ensures))
    ∙ ap (λ (t : TallyValue). find (is_on p) t.ballots) c.self.view_is
