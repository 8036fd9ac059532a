use Rattle.std.proofs.Common.{◌<◌, length, rules}
use Rattle.td_run.proofs.Events.{one_more}
use Rattle.td_run.proofs.kept.player.KeptPlayer.print_events.Goals as goal

pub loop-number-preserved : goal.loop-number-preserved
loop-number-preserved g c =
    let less : c.loop-number.number < length c.args.self.now.world.sent = search rules in
    record {
      same = search rules;
      marks = search rules;
      text = one_more c.args.self.now.world.sent c.args.before c.loop-number.number c.args.self.now.text
          c.loop-number.self.text c.print_event.new.self.text c.loop-number.invariant.behind less
          c.loop-number.invariant.text
          (search rules);
      behind = search rules;
    }
