use Rattle.std.proofs.Common.{◌≡◌, ◌≤◌, ◌-◌, refl, sym, ap, ◌∙◌, arith}
use Rattle.std.proofs.lemmas.Option.{slice_get_within}
use Rattle.td_op.specs.Op.{OpValue}
use Rattle.td_machine.specs.Machine.{Machine}
use Rattle.td_machine.specs.Taking.{keep_waiting}
use Rattle.td_replica.specs.Parts.{StateValue}
use Rattle.td_replica.proofs.Noting.{number_of_new}
use Rattle.td_replica.proofs.Stepping.{change_none}
use Rattle.td_replica.proofs.state.State.delay.Goals as goal

pub returns-clause-number : goal.returns-clause-number
returns-clause-number g c =
    rw (c.in_ok-number.ensures.ok, c.in_ok-number.ensures.number)
    (number_of_new c.reserve-2.new.self.ops c.args.op.now)

pub returns-clause-ok : goal.returns-clause-ok
returns-clause-ok g c =
    let m : Machine = c.args.self.now.machine in
    let x : OpValue = c.args.op.now in
    let enough : 8 ≤ c.reserve-2.new.self.room.things = c.in_ok-reserve.ensures.ok.things in
    let left : c.wait.new.self.room.things ≡ c.reserve-2.new.self.room.things - 1 =
    ap (λ (s : StateValue). s.room.things) c.in_ok-number.ensures.ok in
    record {
      reply = refl;
      machine = ap (λ (s : StateValue). s.machine) c.in_ok-number.ensures.ok
          ∙ ap (keep_waiting x) c.in_ok-reserve.ensures.same.machine;
      entries = ap (λ (s : StateValue). s.entries) c.in_ok-number.ensures.ok ∙ c.in_ok-reserve.ensures.same.entries;
      change = sym (change_none m (keep_waiting x m) refl);
      room = omega (arith, enough, left);
      number = slice_get_within c.wait.new.self.ops c.in_ok-number.number x (returns-clause-number g c);
    }
