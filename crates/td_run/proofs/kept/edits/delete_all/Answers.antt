use Rattle.std.proofs.Common.{◌≡◌, ◌+◌, ◌-◌, None, ap, ◌∙◌, rules}
use Rattle.td_op.specs.declared.request.Request.TheVariants.{Delete}
use Rattle.td_world.specs.World.{WorldValue}
use Rattle.td_report.specs.Asking.{deletes}
use Rattle.td_run.specs.KeptAsking.{KeptAnswer, ask_kept, asked_once, done_before_kept}
use Rattle.td_run.proofs.KeptEdits.{next_kept_delete, once_more}
use Rattle.td_run.proofs.kept.edits.delete_all.Goals as goal

pub loop-done-preserved : goal.loop-done-preserved
loop-done-preserved g c =
    let w : WorldValue = c.loop-done.world.world in
    let first : KeptAnswer = asked_once c.args.site (Delete c.args.index) w in
    let others = ask_kept c.args.site (deletes c.args.index (c.args.count - (c.loop-done.done + 1))) first.world in
    let none : first.refusal ≡ None = search rules in
    let there : first.world ≡ c.ask.new.world.world = search rules in
    let next = next_kept_delete c.args.site c.args.index c.args.count c.loop-done.done w c.loop-done-test.true in
    record {
      same = search rules;
      asked = c.loop-done.invariant.asked
          ∙ ap (done_before_kept c.loop-done.done) next
          ∙ once_more c.loop-done.done 1 others first.refusal first.world none
          ∙ ap (λ (v : WorldValue). done_before_kept (c.loop-done.done + 1)
          (ask_kept c.args.site (deletes c.args.index (c.args.count - (c.loop-done.done + 1))) v)) there;
    }
