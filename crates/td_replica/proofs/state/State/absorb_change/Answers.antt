use Rattle.std.proofs.Common.{◌≡◌, ◌≤◌, ◌+◌, refl, sym, ap, ◌∙◌, arith}
use Rattle.std.proofs.lemmas.Option.{slice_get_within}
use Rattle.td_op.specs.Op.{OpValue}
use Rattle.td_machine.specs.Machine.{Machine}
use Rattle.td_machine.specs.Shown.{change_by}
use Rattle.td_machine.specs.Taking.{take}
use Rattle.td_replica.specs.Parts.{StateValue, with_effect, with_note}
use Rattle.td_replica.specs.LastChange.{change_of}
use Rattle.td_replica.proofs.Kept.{taken_keeps}
use Rattle.td_replica.proofs.Noting.{doc_noted, found_from}
use Rattle.td_replica.proofs.Stepping.{change_once}
use Rattle.td_replica.proofs.Taking.{next_taken, fresh_taken, changed_taken, take_log}
use Rattle.td_replica.proofs.state.State.absorb_change.Goals as goal

pub change_taken-requires-clause-fresh : goal.change_taken-requires-clause-fresh
change_taken-requires-clause-fresh g c =
    rw c.in_ok-reserve.ensures.same.machine
    (fresh_taken c.args.self.now.machine c.requires.built c.args.op.now c.requires.fit)

pub change_taken-requires-clause-keeps : goal.change_taken-requires-clause-keeps
change_taken-requires-clause-keeps g c =
    rw c.in_ok-reserve.ensures.same.machine
    (taken_keeps c.args.self.now.machine c.requires.built c.args.op.now c.requires.fit c.requires.change)

pub note-requires-clause-next : goal.note-requires-clause-next
note-requires-clause-next g c =
    rw (c.in_ok-change.ensures.ok, c.in_ok-reserve.ensures.same.machine)
    (next_taken c.args.self.now.machine c.requires.built c.args.op.now c.requires.fit)

pub returns-clause-number : goal.returns-clause-number
returns-clause-number g c =
    rw (c.note.ensures.ops, c.in_ok-change.ensures.ok, c.number_from-number.ensures, c.in_ok-reserve.ensures.same.ops)
    (found_from c.args.origin c.args.op.now c.args.self.now.machine.site c.args.self.now.ops c.requires.other
    c.requires.comes)

pub returns-clause-ok : goal.returns-clause-ok
returns-clause-ok g c =
    let m : Machine = c.args.self.now.machine in
    let x : OpValue = c.args.op.now in
    let same : c.reserve-2.new.self.machine ≡ m = c.in_ok-reserve.ensures.same.machine in
    let things : c.change_taken.new.self.room.things ≡ c.reserve-2.new.self.room.things =
    ap (λ (s : StateValue). s.room.things) c.in_ok-change.ensures.ok in
    let enough : 8 ≤ c.reserve-2.new.self.room.things = c.in_ok-reserve.ensures.ok.things in
    let less : c.note.new.self.room.things + 1 ≡ c.change_taken.new.self.room.things = c.note.ensures.things in
    record {
      reply = refl;
      machine = c.note.ensures.machine
          ∙ ap (λ (s : StateValue). with_note c.args.origin x s.machine) c.in_ok-change.ensures.ok
          ∙ ap (λ (k : Machine). with_note c.args.origin x (with_effect x k)) same
          ∙ changed_taken m c.requires.built x c.requires.fit c.args.origin c.requires.other c.requires.change;
      entries = c.note.ensures.entries ∙ ap (λ (s : StateValue). s.entries) c.in_ok-change.ensures.ok
          ∙ c.in_ok-reserve.ensures.same.entries;
      change = ap (λ (k : Machine). change_of c.in_ok-change.change c.note.new.self.ops k.doc) c.note.ensures.machine
          ∙ ap (change_of c.in_ok-change.change c.note.new.self.ops)
          (doc_noted c.args.origin x c.change_taken.new.self.machine)
          ∙ c.in_ok-change.ensures.change c.note.new.self.ops (returns-clause-number g c)
          ∙ ap (λ (k : Machine). change_by x.dot x.body k.doc) same
          ∙ sym (change_once m (take x m) x (take_log m c.requires.built x c.requires.fit));
      room = omega (arith, things, enough, less);
      number = slice_get_within c.note.new.self.ops c.number_from-number.result x (returns-clause-number g c);
    }
