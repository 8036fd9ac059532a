use Rattle.std.proofs.Common.{length}
use Rattle.td_op.specs.declared.input.Input.TheVariants.{Local}
use Rattle.td_machine.specs.Machine.{start}
use Rattle.td_machine.specs.Step.{step}
use Rattle.td_law_replay.specs.Judging.{Steps}
use Rattle.td_check.specs.Sites.{ReplayValue, histories_of, machine_of}
use Rattle.td_check.proofs.AtSeats.{if_ok_so, at_replay}
use Rattle.td_check.proofs.Placing.{with_machines}
use Rattle.td_check.proofs.replay.Replay.asked.Goals as goal

pub returns : goal.returns
returns g c =
    let inside : ReplayValue = record {
      trace = c.self.inside.trace.now;
      machines = c.self.inside.seats.items;
      done = c.self.inside.done.items;
    } in
    if_ok_so _ _ c.asked_at.result
    (λ judged it.
    at_replay inside c.args.self.now c.self.view_is c.args.site (λ (r : ReplayValue). Steps (step
    (machine_of r c.args.site) (Local c.args.request))) c.args.reply.now judged
    c.asked_at.new.seats.items it) (c.asked_at.ensures.judged (start c.args.site (length (histories_of inside))))

pub invariant_of-self : goal.invariant_of-self
invariant_of-self g c =
    with_machines c.self.inside.made
    (record {
      trace = c.self.inside.trace.now;
      machines = c.self.inside.seats.items;
      done = c.self.inside.done.items;
    }) c.self.invariant c.asked_at.new.seats.items c.asked_at.ensures.each
