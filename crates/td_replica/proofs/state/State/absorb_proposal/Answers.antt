use Rattle.std.proofs.Common.{◌≡◌, ◌≤◌, ◌+◌, Bool, true, refl, sym, ap, ◌∙◌, arith}
use Rattle.std.proofs.lemmas.Option.{slice_get_within}
use Rattle.td_base.specs.Value.{DotValue}
use Rattle.td_op.specs.declared.body.Body.{Body}
use Rattle.td_op.specs.Op.{OpValue}
use Rattle.td_machine.specs.Machine.{Machine}
use Rattle.td_machine.specs.Making.{holds_after}
use Rattle.td_machine.specs.Shown.{change_by}
use Rattle.td_machine.specs.Taking.{answer, take, vote_on}
use Rattle.td_replica.specs.Parts.{with_note}
use Rattle.td_replica.proofs.Kept.{holds_noted, vote_holds}
use Rattle.td_replica.proofs.Noting.{doc_noted, found_from}
use Rattle.td_replica.proofs.Stepping.{change_once}
use Rattle.td_replica.proofs.Taking.{next_taken, proposal_taken, take_log}
use Rattle.td_replica.proofs.state.State.absorb_proposal.Goals as goal

pub note-requires-clause-next : goal.note-requires-clause-next
note-requires-clause-next g c =
    rw c.in_ok-reserve.ensures.same.machine
    (next_taken c.args.self.now.machine c.requires.built c.args.op.now c.requires.fit)

pub answer-requires-clause-may : goal.answer-requires-clause-may
answer-requires-clause-may g c = λ yes.
    let m : Machine = c.args.self.now.machine in
    let x : OpValue = c.args.op.now in
    let same : c.reserve-2.new.self.machine ≡ m = c.in_ok-reserve.ensures.same.machine in
    let says : vote_on x c.args.slot.now m ≡ true =
    sym (c.vote_on-says.ensures ∙ ap (vote_on x c.args.slot.now) same) ∙ yes in
    let doc : c.note.new.self.machine.doc ≡ m.doc =
    ap (λ (k : Machine). k.doc) c.note.ensures.machine
    ∙ doc_noted c.args.origin x c.reserve-2.new.self.machine ∙ ap (λ (k : Machine). k.doc) same in
    let holds : c.note.new.self.machine.holds ≡ m.holds =
    ap (λ (k : Machine). k.holds) c.note.ensures.machine
    ∙ holds_noted c.args.origin x c.reserve-2.new.self.machine
    ∙ ap (λ (body : Body). holds_after body c.reserve-2.new.self.machine.holds) c.requires.asks
    ∙ ap (λ (k : Machine). k.holds) same in
    rw (doc, holds) (vote_holds m c.requires.built x c.args.slot.now says)

pub returns-clause-number : goal.returns-clause-number
returns-clause-number g c =
    rw (c.answer.ensures.ops, c.note.ensures.ops, c.number_from-number.ensures, c.in_ok-reserve.ensures.same.ops)
    (found_from c.args.origin c.args.op.now c.args.self.now.machine.site c.args.self.now.ops c.requires.other
    c.requires.comes)

pub returns-clause-ok : goal.returns-clause-ok
returns-clause-ok g c =
    let m : Machine = c.args.self.now.machine in
    let x : OpValue = c.args.op.now in
    let same : c.reserve-2.new.self.machine ≡ m = c.in_ok-reserve.ensures.same.machine in
    let enough : 8 ≤ c.reserve-2.new.self.room.things = c.in_ok-reserve.ensures.ok.things in
    let less : c.note.new.self.room.things + 1 ≡ c.reserve-2.new.self.room.things = c.note.ensures.things in
    let least : c.answer.new.self.room.things + 1 ≡ c.note.new.self.room.things = c.answer.ensures.things in
    let dot : c.dot-2.result ≡ x.dot = c.dot-2.ensures.dot in
    let says : c.vote_on-says.result ≡ vote_on x c.args.slot.now m =
    c.vote_on-says.ensures ∙ ap (vote_on x c.args.slot.now) same in
    let noted : c.note.new.self.machine ≡ with_note c.args.origin x m =
    c.note.ensures.machine ∙ ap (with_note c.args.origin x) same in
    record {
      reply = refl;
      machine = c.answer.ensures.machine
          ∙ ap (λ (p : DotValue). answer p c.args.slot.now c.vote_on-says.result c.note.new.self.machine) dot
          ∙ ap (λ (b : Bool). answer x.dot c.args.slot.now b c.note.new.self.machine) says
          ∙ ap (answer x.dot c.args.slot.now (vote_on x c.args.slot.now m)) noted
          ∙ proposal_taken m c.requires.built x c.requires.fit c.args.origin c.args.slot.now c.requires.other
          c.requires.asks;
      entries = c.answer.ensures.entries ∙ c.note.ensures.entries ∙ c.in_ok-reserve.ensures.same.entries;
      change = sym (change_once m (take x m) x (take_log m c.requires.built x c.requires.fit)
          ∙ ap (λ (body : Body). change_by x.dot body m.doc) c.requires.asks);
      room = omega (arith, enough, less, least);
      number = slice_get_within c.answer.new.self.ops c.number_from-number.result x (returns-clause-number g c);
    }
