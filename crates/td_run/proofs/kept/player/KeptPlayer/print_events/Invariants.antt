use Rattle.std.proofs.Common.{◌≡◌, ◌≤◌, ◌-◌, ◌++◌, take, drop}
use Rattle.std.specs.List.{flat_map}
use Rattle.td_report.specs.Replies.{event_line}
use Rattle.td_run.proofs.kept.player.KeptPlayer.print_events.Given as goal

abbrev pub invariant-loop-number : goal.invariant-loop-number
invariant-loop-number g l = record {
  same : l.self.world ≡ l.fn.self.world;
  marks : l.self.marks ≡ l.fn.self.marks;
  text : l.self.text ≡ l.fn.self.text
      ++ flat_map event_line (take (l.number - l.before) (drop l.before l.fn.self.world.sent));
  behind : l.before ≤ l.number;
}
