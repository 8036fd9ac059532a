use Rattle.std.proofs.Common.{◌≡◌, ◌++◌, ◌∷◌, [], refl, sym, subst, inr, rules}
use Rattle.std.specs.List.{concat}
use Rattle.td_view.specs.Deeds.{publish_of}
use Rattle.td_line.specs.Editors.{AwaitsAnswer}
use Rattle.td_trace.specs.declared.log.Did.TheVariants.{Look}
use Rattle.td_live.specs.declared.next.Next.TheVariants as Next
use Rattle.td_live.specs.Agenda.{IsNextToDo}
use Rattle.td_live.specs.Following.{Stays as LeadsStays}
use Rattle.td_live.specs.Desks.{DeskValue}
use Rattle.td_live.proofs.Turns.{always_err, shown_reader, seen_rises, parts_reader, parts_looked, turn_looked}
use Rattle.td_live.proofs.desk.Desk.look.Goals as goal

pub returns-in_err-reserve-clause-err : goal.returns-in_err-reserve-clause-err
returns-in_err-reserve-clause-err c =
    rw (← c.self.view_is)
    (always_err c.from_residual.result (record {
      stays = record { rest = LeadsStays; did = c.reserve.ensures.items };
      editor = refl;
    }))

pub returns-in_default-clause-turn : goal.returns-in_default-clause-turn
returns-in_default-clause-turn c =
    let idle = subst (λ (d : DeskValue). AwaitsAnswer d.editor → ⊥) (sym c.self.view_is) c.requires.idle in
    rw (← c.self.view_is) (
      record { rest = LeadsStays; did = c.reserve.ensures.items },
      inr (inr (idle, c.in_default.ensures.none)),
    )

pub invariant_of-self-in_err-upto : goal.invariant_of-self-in_err-upto
invariant_of-self-in_err-upto c =
    let d : DeskValue = record {
      editor = c.self.inside.editor;
      rest = c.self.inside.agenda;
      did = c.self.inside.did.items;
    } in
    let idle = subst (λ (d : DeskValue). AwaitsAnswer d.editor → ⊥) (sym c.self.view_is) c.requires.idle in
    let s = c.in-Some.ensures.shown in
    parts_reader d c.look.new.self c.self.inside.call c.self.inside.waits c.reserve.new.self.items c.self.invariant idle
    (shown_reader d.editor c.look.new.self c.look.new.self.reader.seen c.in-Some.ensures.some)
    c.look.ensures.later.seen
    (seen_rises d.editor.reader.seen c.look.new.self.reader.seen (publish_of s.0) s.2 s.4)
    c.reserve.ensures.items

pub returns-in_err-upto-clause-err : goal.returns-in_err-upto-clause-err
returns-in_err-upto-clause-err c =
    rw (← c.self.view_is)
    (always_err c.from_residual-in_err-upto.result (record {
      stays = record { rest = LeadsStays; did = c.reserve.ensures.items };
      editor = shown_reader c.self.inside.editor c.look.new.self c.look.new.self.reader.seen c.in-Some.ensures.some;
    }))

pub returns-in_err-upto-clause-desk : goal.returns-in_err-upto-clause-desk
returns-in_err-upto-clause-desk c = (invariant_of-self-in_err-upto c).desk

pub invariant_of-self-2 : goal.invariant_of-self-2
invariant_of-self-2 c =
    let d : DeskValue = record {
      editor = c.self.inside.editor;
      rest = c.self.inside.agenda;
      did = c.self.inside.did.items;
    } in
    let idle = subst (λ (d : DeskValue). AwaitsAnswer d.editor → ⊥) (sym c.self.view_is) c.requires.idle in
    let next = subst (λ (d : DeskValue). IsNextToDo Next.Look d.rest) (sym c.self.view_is) c.requires.next in
    let s = c.in-Some.ensures.shown in
    let upto : c.in_ok-upto.upto ≡ s.0.upto = search rules in
    let text : c.in_ok-upto.text ≡ concat s.0.atoms = search rules in
    let did : c.push_reserved.new.self.items ≡ d.did
    ++ Look c.self.inside.call c.in_ok-upto.upto c.in_ok-upto.text ∷ [] =
    cc in
    parts_looked d c.look.new.self c.looked.new.self (publish_of s.0) c.self.inside.call c.self.inside.waits
    c.in_ok-upto.upto c.in_ok-upto.text c.push_reserved.new.self.items c.self.invariant idle next c.looked.ensures
    (shown_reader d.editor c.look.new.self c.look.new.self.reader.seen c.in-Some.ensures.some)
    c.look.ensures.later.seen s.2 s.3 s.4 upto text did

pub returns-clause-turn : goal.returns-clause-turn
returns-clause-turn c =
    let d : DeskValue = record {
      editor = c.self.inside.editor;
      rest = c.self.inside.agenda;
      did = c.self.inside.did.items;
    } in
    let idle = subst (λ (d : DeskValue). AwaitsAnswer d.editor → ⊥) (sym c.self.view_is) c.requires.idle in
    let next = subst (λ (d : DeskValue). IsNextToDo Next.Look d.rest) (sym c.self.view_is) c.requires.next in
    let s = c.in-Some.ensures.shown in
    let upto : c.in_ok-upto.upto ≡ s.0.upto = search rules in
    let text : c.in_ok-upto.text ≡ concat s.0.atoms = search rules in
    let did : c.push_reserved.new.self.items ≡ d.did
    ++ Look c.self.inside.call c.in_ok-upto.upto c.in_ok-upto.text ∷ [] =
    cc in
    rw (← c.self.view_is)
    (turn_looked d c.look.new.self c.looked.new.self (publish_of s.0) c.self.inside.call c.in_ok-upto.upto
    c.in_ok-upto.text c.push_reserved.new.self.items c.self.invariant.desk c.self.invariant.call_is idle next
    c.looked.ensures c.in-Some.ensures.some s.2 upto text did)

pub returns-clause-desk : goal.returns-clause-desk
returns-clause-desk c = (invariant_of-self-2 c).desk
