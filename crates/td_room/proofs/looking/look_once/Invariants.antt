use Rattle.std.proofs.Common.{◌≡◌}
use Rattle.td_room.proofs.looking.look_once.Given as goal

abbrev pub invariant-loop : goal.invariant-loop
invariant-loop g l = record {
  known : l.reader.known ≡ l.fn.reader.known;
  seen : l.reader.seen ≡ l.fn.reader.seen;
}
