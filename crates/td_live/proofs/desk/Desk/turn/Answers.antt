use Rattle.std.proofs.Common.{[], refl, sym, subst}
use Rattle.std.proofs.lemmas.Result.{on_err_weaker}
use Rattle.td_line.specs.Editors.{AwaitsAnswer, LaterEditor}
use Rattle.td_live.specs.declared.went.Went.{Went}
use Rattle.td_live.specs.Following.{Stays as LeadsStays}
use Rattle.td_live.specs.Desks.{DeskValue, IsDesk}
use Rattle.td_live.specs.Turning.{IsTurn, IsAtEnd}
use Rattle.td_live.proofs.Turns.{not_waiting, if_ok, keeps_same, keeps_begun, turn_begun, later_by, later_turn}
use Rattle.td_live.proofs.Turns.{done_on, done_before, over_done, asks_not_done, look_not_done}
use Rattle.td_line.proofs.Editing.{later_editor_self}
use Rattle.td_live.specs.declared.went.Went.TheVariants as Way
use Rattle.td_live.proofs.desk.Desk.turn.Goals as goal

pub returns-then-self-clause-err : goal.returns-then-self-clause-err
returns-then-self-clause-err g c =
    on_err_weaker c.poll.result (keeps_same c.args.self.now c.poll.new.self) c.poll.ensures.err

pub returns-in-Ask-clause-turn : goal.returns-in-Ask-clause-turn
returns-in-Ask-clause-turn g c =
    let d : DeskValue = record {
      editor = c.self.inside.editor;
      rest = c.self.inside.agenda;
      did = c.self.inside.did.items;
    } in
    let idle = not_waiting c.self.inside.waits (AwaitsAnswer d.editor) c.self.invariant.waits_is c.if-self.false in
    rw (← c.self.view_is)
    (turn_begun d c.submit.new.self c.next.new.self c.submit.result idle (c.next.ensures.leads d.rest [] LeadsStays)
    c.submit.ensures.turn)

pub returns-in-Ask-clause-over : goal.returns-in-Ask-clause-over
returns-in-Ask-clause-over g c =
    let d : DeskValue = record {
      editor = c.self.inside.editor;
      rest = c.self.inside.agenda;
      did = c.self.inside.did.items;
    } in
    let next = c.in-Ask.ensures.next in
    λ end.
    let at : IsAtEnd d = subst IsAtEnd (sym c.self.view_is) end in
    absurd (asks_not_done c.next.new.self next.0 next.1.0 next.1.1
    (done_on (c.next.ensures.leads d.rest [] LeadsStays) refl at.done))

pub returns-in-Look-clause-turn : goal.returns-in-Look-clause-turn
returns-in-Look-clause-turn g c =
    let d : DeskValue = record {
      editor = c.self.inside.editor;
      rest = c.self.inside.agenda;
      did = c.self.inside.did.items;
    } in
    let idle = not_waiting c.self.inside.waits (AwaitsAnswer d.editor) c.self.invariant.waits_is c.if-self.false in
    rw (← c.self.view_is)
    (if_ok (λ (went : Went). IsTurn (record d { rest = c.next.new.self }) went c.look.new.self)
    (λ (went : Went). IsTurn d went c.look.new.self) c.look.result
    (λ went h. turn_begun d c.look.new.self c.next.new.self went idle (c.next.ensures.leads d.rest [] LeadsStays) h)
    c.look.ensures.turn)

pub returns-in-Look-clause-over : goal.returns-in-Look-clause-over
returns-in-Look-clause-over g c =
    let d : DeskValue = record {
      editor = c.self.inside.editor;
      rest = c.self.inside.agenda;
      did = c.self.inside.did.items;
    } in
    let next = c.in-Look.ensures.next in
    λ end.
    let at : IsAtEnd d = subst IsAtEnd (sym c.self.view_is) end in
    absurd (look_not_done c.next.new.self next.1.0 next.1.1
    (done_on (c.next.ensures.leads d.rest [] LeadsStays) refl at.done))

pub returns-in-Look-clause-err : goal.returns-in-Look-clause-err
returns-in-Look-clause-err g c =
    let d : DeskValue = record {
      editor = c.self.inside.editor;
      rest = c.self.inside.agenda;
      did = c.self.inside.did.items;
    } in
    rw (← c.self.view_is)
    (on_err_weaker c.look.result (keeps_begun d c.look.new.self c.next.new.self
    (c.next.ensures.leads d.rest [] LeadsStays))
    c.look.ensures.err)

pub returns-in-Over-clause-turn : goal.returns-in-Over-clause-turn
returns-in-Over-clause-turn g c =
    let d : DeskValue = record {
      editor = c.self.inside.editor;
      rest = c.self.inside.agenda;
      did = c.self.inside.did.items;
    } in
    let idle = not_waiting c.self.inside.waits (AwaitsAnswer d.editor) c.self.invariant.waits_is c.if-self.false in
    let way = c.next.ensures.leads d.rest [] LeadsStays in
    rw (← c.self.view_is) (
      record { idle = idle; done = done_before way refl (over_done c.next.new.self c.in-Over.ensures.next) },
      record { rest = way; did = refl },
      refl,
    )

pub returns-then-self-clause-later : goal.returns-then-self-clause-later
returns-then-self-clause-later g c =
    later_by c.args.self.now c.poll.new.self c.poll.result (subst IsDesk c.self.view_is c.self.invariant.desk)
    c.poll.ensures.turn (returns-then-self-clause-err g c) c.poll.ensures.later

pub returns-in-Ask-clause-later : goal.returns-in-Ask-clause-later
returns-in-Ask-clause-later g c =
    later_turn c.args.self.now c.submit.new.self c.submit.result
    (subst IsDesk c.self.view_is c.self.invariant.desk) (returns-in-Ask-clause-turn g c)
    (subst (λ (d : DeskValue). LaterEditor d.editor c.submit.new.self.editor) c.self.view_is c.submit.ensures.later)

pub returns-in-Look-clause-later : goal.returns-in-Look-clause-later
returns-in-Look-clause-later g c =
    later_by c.args.self.now c.look.new.self c.look.result (subst IsDesk c.self.view_is c.self.invariant.desk)
    (returns-in-Look-clause-turn g c) (returns-in-Look-clause-err g c)
    (subst (λ (d : DeskValue). LaterEditor d.editor c.look.new.self.editor) c.self.view_is c.look.ensures.later)

pub returns-in-Over-clause-later : goal.returns-in-Over-clause-later
returns-in-Over-clause-later g c =
    let e : DeskValue = record {
      editor = c.self.inside.editor;
      rest = c.next.new.self;
      did = c.self.inside.did.items;
    } in
    later_turn c.args.self.now e Way.Over (subst IsDesk c.self.view_is c.self.invariant.desk)
    (returns-in-Over-clause-turn g c)
    (subst (λ (d : DeskValue). LaterEditor d.editor e.editor) c.self.view_is (later_editor_self e.editor))
