use Rattle.std.proofs.Common.{refl, sym, subst, inl, inr}
use Rattle.td_line.specs.Editors.{AwaitsAnswer}
use Rattle.td_live.specs.declared.next.Next.TheVariants as Next
use Rattle.td_live.specs.Agenda.{IsNextToDo}
use Rattle.td_live.specs.Following.{Stays as LeadsStays}
use Rattle.td_live.specs.Desks.{DeskValue}
use Rattle.td_live.proofs.Turns.{parts_submitted, only_full}
use Rattle.td_live.proofs.desk.Desk.submit.Goals as goal

pub invariant_of-self : goal.invariant_of-self
invariant_of-self g c =
    let d : DeskValue = record {
      editor = c.self.inside.editor;
      rest = c.self.inside.agenda;
      did = c.self.inside.did.items;
    } in
    let idle = subst (λ (d : DeskValue). AwaitsAnswer d.editor → ⊥) (sym c.self.view_is) c.requires.idle in
    let next = subst (λ (d : DeskValue). IsNextToDo (Next.Ask c.args.request) d.rest) (sym c.self.view_is)
    c.requires.next in
    let sent = c.in-Ok.ensures.submitted in
    parts_submitted d c.submit.new.self c.args.request c.in-Ok.call c.self.inside.call c.self.inside.waits
    c.self.invariant idle next sent.2 sent.3

pub returns-in-Ok-clause-turn : goal.returns-in-Ok-clause-turn
returns-in-Ok-clause-turn g c =
    let idle = subst (λ (d : DeskValue). AwaitsAnswer d.editor → ⊥) (sym c.self.view_is) c.requires.idle in
    let next = subst (λ (d : DeskValue). IsNextToDo (Next.Ask c.args.request) d.rest) (sym c.self.view_is)
    c.requires.next in
    rw (← c.self.view_is) (record {
      idle = idle;
      request = c.args.request;
      next = next;
      editor = c.in-Ok.ensures.submitted.3;
      stays = record { rest = LeadsStays; did = refl };
    })

pub returns-in-Ok-clause-desk : goal.returns-in-Ok-clause-desk
returns-in-Ok-clause-desk g c = (invariant_of-self g c).desk

pub returns-in-Err-clause-turn : goal.returns-in-Err-clause-turn
returns-in-Err-clause-turn g c =
    let d : DeskValue = record {
      editor = c.self.inside.editor;
      rest = c.self.inside.agenda;
      did = c.self.inside.did.items;
    } in
    let idle = subst (λ (d : DeskValue). AwaitsAnswer d.editor → ⊥) (sym c.self.view_is) c.requires.idle in
    let next = subst (λ (d : DeskValue). IsNextToDo (Next.Ask c.args.request) d.rest) (sym c.self.view_is)
    c.requires.next in
    let why = c.in-Err.ensures.submitted in
    rw (← c.self.view_is) (
      record { rest = LeadsStays; did = refl },
      inr (inl (idle, only_full d c.in-Err.field-0 c.args.request c.self.invariant.desk idle next why.0, why.1)),
    )
