use Rattle.std.proofs.Common.{◌+◌, ◌≡◌, ◌∙◌, ap, subst, sym}
use Rattle.td_gen.specs.Generator.{turn, begun}
use Rattle.td_gen.specs.Growth.{AreWithin}
use Rattle.td_gen.specs.declared.progress.Progress.{Progress}
use Rattle.td_gen.proofs.Growing.{begins_within, turns_within}
use Rattle.td_gen.proofs.Making.{next_turn}
use Rattle.td_gen.proofs.generator.script_of.Goals as goal

pub loop-done-init : goal.loop-done-init
loop-done-init c =
    let now : c.in_ok-progress.progress ≡ begun c.args.number = c.in_ok-progress.ensures in
    record {
      made = now;
      within = subst (λ (q : Progress). AreWithin 0 q.least) (sym now) (begins_within c.args.number);
    }

pub loop-done-preserved : goal.loop-done-preserved
loop-done-preserved c =
    let i = c.loop-done.done in
    let now : c.turn.new.self ≡ turn (i + 1) c.loop-done.progress = rw c.in_ok-turn.was at c.turn.ensures in
    record {
      made = now ∙ ap (turn (i + 1)) c.loop-done.invariant.made ∙ next_turn c.args.number i;
      within = subst (λ (q : Progress). AreWithin (i + 1) q.least) (sym now)
          (turns_within i c.loop-done.progress c.loop-done.invariant.within);
    }
