use Rattle.std.proofs.Common.{◌≡◌, ◌+◌, ◌-◌, true, ap, ◌∙◌, rules}
use Rattle.td_op.specs.declared.request.Request.TheVariants.{Delete}
use Rattle.td_world.specs.World.{WorldValue, moved, reply_to}
use Rattle.td_world.specs.Calls.{ask}
use Rattle.td_report.specs.Asking.{deletes, is_made}
use Rattle.td_run.specs.Asking.{ask_all, done_before}
use Rattle.td_run.proofs.NextEdits.{done_twice, made_on, next_delete}
use Rattle.td_run.proofs.edits.delete_all.Goals as goal

pub loop-done-preserved : goal.loop-done-preserved
loop-done-preserved g c =
    let w : WorldValue = c.loop-done.world in
    let after : WorldValue = moved (ask c.args.site (Delete c.args.index)) w in
    let others = ask_all c.args.site (deletes c.args.index (c.args.count - (c.loop-done.done + 1))) after in
    let made : is_made (reply_to (ask c.args.site (Delete c.args.index)) w) ≡ true = search rules in
    let next = next_delete c.args.site c.args.index c.args.count c.loop-done.done w c.loop-done-test.true in
    let there : after ≡ c.call.new.self = search rules in
    record {
      same = search rules;
      asked = c.loop-done.invariant.asked
          ∙ ap (done_before c.loop-done.done)
          (next ∙ made_on (reply_to (ask c.args.site (Delete c.args.index)) w) after 1 others made)
          ∙ done_twice c.loop-done.done 1 others
          ∙ ap (λ (v : WorldValue). done_before (c.loop-done.done + 1)
          (ask_all c.args.site (deletes c.args.index (c.args.count - (c.loop-done.done + 1))) v)) there;
    }
