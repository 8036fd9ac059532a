use Rattle.std.proofs.Common.{◌≡◌, None}
use Rattle.test_room.proofs.view.publish_all.Given as goal

abbrev pub invariant-loop : goal.invariant-loop
invariant-loop g l = (l.writer.owed ≡ None) × (l.writer.shown.upto ≡ l.upto)
