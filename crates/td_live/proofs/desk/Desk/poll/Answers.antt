use Rattle.std.proofs.Common.{◌≡◌, ◌++◌, ◌∷◌, [], sym, subst, inl}
use Rattle.td_line.specs.Editors.{AwaitsAnswer}
use Rattle.td_trace.specs.declared.log.Did.TheVariants.{Call}
use Rattle.td_live.specs.Following.{Stays as LeadsStays}
use Rattle.td_live.specs.Desks.{DeskValue}
use Rattle.td_live.proofs.Turns.{parts_answered, turn_answered}
use Rattle.td_live.proofs.desk.Desk.poll.Goals as goal

pub returns-in_default-clause-turn : goal.returns-in_default-clause-turn
returns-in_default-clause-turn g c =
    let pending = subst (λ (d : DeskValue). AwaitsAnswer d.editor) (sym c.self.view_is) c.requires in
    let none = c.in_default.ensures.none in
    rw (← c.self.view_is)
    (record { rest = LeadsStays; did = c.reserve.ensures.items }, inl (pending, none.1, none.0))

pub invariant_of-self-2 : goal.invariant_of-self-2
invariant_of-self-2 g c =
    let d : DeskValue = record {
      editor = c.self.inside.editor;
      rest = c.self.inside.agenda;
      did = c.self.inside.did.items;
    } in
    let pending = subst (λ (d : DeskValue). AwaitsAnswer d.editor) (sym c.self.view_is) c.requires in
    let did : c.push_reserved.new.self.items ≡ d.did ++ Call c.self.inside.call c.in-Some.answer.entry ∷ [] = cc in
    parts_answered d c.poll.new.self c.in-Some.answer c.replied.new.self c.self.inside.call c.self.inside.waits
    c.push_reserved.new.self.items c.self.invariant pending c.in-Some.ensures.polled c.in-Some.ensures.some
    c.replied.ensures did

pub returns-clause-turn : goal.returns-clause-turn
returns-clause-turn g c =
    let d : DeskValue = record {
      editor = c.self.inside.editor;
      rest = c.self.inside.agenda;
      did = c.self.inside.did.items;
    } in
    let pending = subst (λ (d : DeskValue). AwaitsAnswer d.editor) (sym c.self.view_is) c.requires in
    let did : c.push_reserved.new.self.items ≡ d.did ++ Call c.self.inside.call c.in-Some.answer.entry ∷ [] = cc in
    rw (← c.self.view_is)
    (turn_answered d c.poll.new.self c.in-Some.answer c.replied.new.self c.self.inside.call
    c.push_reserved.new.self.items c.self.invariant.desk c.self.invariant.call_is pending c.in-Some.ensures.polled
    c.in-Some.ensures.some c.replied.ensures did)

pub returns-clause-desk : goal.returns-clause-desk
returns-clause-desk g c = (invariant_of-self-2 g c).desk
