use Rattle.std.proofs.Common.{Bool, true, false, ap, subst, ◌∙◌}
use Rattle.td_check.specs.Course.{HasRounded}
use Rattle.td_check.specs.declared.stop.Went.{Went}
use Rattle.td_check.specs.declared.stop.Went.TheVariants as went
use Rattle.td_check.proofs.Rounding.{begun_moved, again, run_ends}
use Rattle.td_check.proofs.replay.Replay.run.Goals as goal

pub loop-stop-init : goal.loop-stop-init
loop-stop-init g c =
    let begun = begun_moved c.args.self.now c.args.looks.now c.requires.begun c.requires.seen in
    ((false, begun.0), begun.1)

pub loop-stop-preserved : goal.loop-stop-preserved
loop-stop-preserved g c =
    let rounded = subst (λ (w : Went). HasRounded c.loop-stop.self c.round.new.self c.round.new.looks w)
    (c.in-Rests-true.is ∙ ap (λ (b : Bool). went.Rests b) c.in-Rests-true.moved-test) c.in_ok-stop.ensures in
    let on = again c.args.self.now c.loop-stop.self c.round.new.self c.loop-stop.looks c.round.new.looks
    c.loop-stop.invariant.0.0 c.sites.ensures.value c.loop-stop.invariant.0.1 rounded in
    ((true, on.0), on.1)

pub returns-in-Rests-false : goal.returns-in-Rests-false
returns-in-Rests-false g c =
    run_ends c.args.self.now c.loop-stop.self c.round.new.self c.loop-stop.looks c.round.new.looks
    c.loop-stop.invariant.0.0 c.stuck.result c.sites.ensures.value c.loop-stop.invariant.0.1
    (subst (λ (w : Went). HasRounded c.loop-stop.self c.round.new.self c.round.new.looks w)
    (c.in-Rests-false.is ∙ ap (λ (b : Bool). went.Rests b) c.in-Rests-false.moved-test) c.in_ok-stop.ensures)
    c.stuck.ensures.within c.stuck.ensures.stuck
