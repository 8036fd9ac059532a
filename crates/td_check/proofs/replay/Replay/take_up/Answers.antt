use Rattle.std.proofs.Common.{◌≡◌, ◌≢◌, ◌-◌, get_or, length, ap, sym, subst, ◌∙◌}
use Rattle.std.specs.Prelude.{IfSome}
use Rattle.td_op.specs.Op.{OpValue}
use Rattle.td_check.specs.ReplayParts.{IsReplayParts, IsOutlineAt}
use Rattle.td_machine.specs.Machine.{Machine, start}
use Rattle.td_law_replay.specs.Judging.{judge_taken}
use Rattle.td_check.specs.Sites.{ReplayValue, histories_of, machine_of}
use Rattle.td_check.proofs.AtSeats.{if_ok_so, at_replay}
use Rattle.td_check.proofs.Placing.{with_machines, machine_any}
use Rattle.td_check.proofs.replay.Replay.take_up.Goals as goal

pub taken_at-requires-clause-sized : goal.taken_at-requires-clause-sized
taken_at-requires-clause-sized g c = λ d.
    let r : ReplayValue = c.args.self.now in
    let parts : IsReplayParts c.self.inside.made r =
    subst (λ (q : ReplayValue). IsReplayParts c.self.inside.made q) c.self.view_is c.self.invariant in
    let there : machine_of r c.args.site ≡ get_or c.self.inside.seats.items (c.args.site - 1) d =
    machine_any c.self.inside.made r parts c.args.site c.requires.within d
    ∙ ap (λ (q : ReplayValue). get_or q.machines (c.args.site - 1) d) (sym c.self.view_is) in
    subst (λ (m : Machine). IfSome c.args.op (λ (x : OpValue). length x.deps ≡ m.size)) there c.requires.sized

pub taken_at-requires-clause-apart : goal.taken_at-requires-clause-apart
taken_at-requires-clause-apart g c = λ d.
    let r : ReplayValue = c.args.self.now in
    let parts : IsReplayParts c.self.inside.made r =
    subst (λ (q : ReplayValue). IsReplayParts c.self.inside.made q) c.self.view_is c.self.invariant in
    let there : machine_of r c.args.site ≡ get_or c.self.inside.seats.items (c.args.site - 1) d =
    machine_any c.self.inside.made r parts c.args.site c.requires.within d
    ∙ ap (λ (q : ReplayValue). get_or q.machines (c.args.site - 1) d) (sym c.self.view_is) in
    subst (λ (m : Machine). IfSome c.args.op (λ (x : OpValue). x.dot.site ≢ m.site)) there c.requires.apart

pub taken_at-requires-clause-outlined : goal.taken_at-requires-clause-outlined
taken_at-requires-clause-outlined g c = λ d.
    let r : ReplayValue = c.args.self.now in
    let parts : IsReplayParts c.self.inside.made r =
    subst (λ (q : ReplayValue). IsReplayParts c.self.inside.made q) c.self.view_is c.self.invariant in
    let there : machine_of r c.args.site ≡ get_or c.self.inside.seats.items (c.args.site - 1) d =
    machine_any c.self.inside.made r parts c.args.site c.requires.within d
    ∙ ap (λ (q : ReplayValue). get_or q.machines (c.args.site - 1) d) (sym c.self.view_is) in
    subst (λ (m : Machine). IfSome c.args.op (IsOutlineAt m)) there c.requires.outlined

pub returns : goal.returns
returns g c =
    let inside : ReplayValue = record {
      trace = c.self.inside.trace.now;
      machines = c.self.inside.seats.items;
      done = c.self.inside.done.items;
    } in
    if_ok_so _ _ c.taken_at.result
    (λ judged it.
    at_replay inside c.args.self.now c.self.view_is c.args.site (λ
    (r : ReplayValue). judge_taken c.args.deps c.args.op (machine_of r c.args.site)) c.args.reply.now judged
    c.taken_at.new.seats.items it) (c.taken_at.ensures.judged (start c.args.site (length (histories_of inside))))

pub invariant_of-self : goal.invariant_of-self
invariant_of-self g c =
    with_machines c.self.inside.made
    (record {
      trace = c.self.inside.trace.now;
      machines = c.self.inside.seats.items;
      done = c.self.inside.done.items;
    }) c.self.invariant c.taken_at.new.seats.items c.taken_at.ensures.each
