use Rattle.std.proofs.Common.{◌≤◌, ◌∙◌, length, ap, sym, arith}
use Rattle.std.proofs.lemmas.List.{take_all}
use Rattle.std.specs.List.{list_all}
use Rattle.td_idle.specs.Certificate.{is_top}
use Rattle.td_idle.proofs.Lists.{next_passes, one_failed}
use Rattle.td_idle.proofs.conditions.are_tops.Goals as goal

pub loop-top-preserved : goal.loop-top-preserved
loop-top-preserved g c =
    next_passes (is_top c.args.replica.now.machine c.args.slot.now) c.args.tops.now c.loop-top.top-index
    c.top-item.result
    c.loop-top-test.true c.top-item.is (sym c.is_top.ensures ∙ c.if-not-is_top.false) c.loop-top.invariant

pub returns-then-not-is_top : goal.returns-then-not-is_top
returns-then-not-is_top g c =
    sym (one_failed (is_top c.args.replica.now.machine c.args.slot.now) c.args.tops.now c.loop-top.top-index
    c.top-item.result
    c.loop-top-test.true c.top-item.is (sym c.is_top.ensures ∙ c.if-not-is_top.true))

pub returns : goal.returns
returns g c =
    let end : length c.args.tops.now ≤ c.loop-top.top-index = omega arith in
    sym (sym (ap (list_all (is_top c.args.replica.now.machine c.args.slot.now))
    (take_all c.loop-top.top-index c.args.tops.now end)) ∙ c.loop-top.invariant)
