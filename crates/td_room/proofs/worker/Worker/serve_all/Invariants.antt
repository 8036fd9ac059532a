use Rattle.std.proofs.Common.{◌≡◌, length}
use Rattle.td_room.specs.Turns.{TurnedLine}
use Rattle.td_room.specs.Workers.{LaterWorker}
use Rattle.td_room.specs.Walk.{SoFar}
use Rattle.td_room.proofs.worker.Worker.serve_all.Given as goal

abbrev pub invariant-loop-i : goal.invariant-loop-i
invariant-loop-i g l = record {
  later : LaterWorker l.fn.self l.self;
  peers : l.self.peers ≡ l.fn.self.peers;
  all : l.i-end ≡ length l.fn.self.lines;
  turned : SoFar TurnedLine l.i l.fn.self.lines l.self.lines;
}
