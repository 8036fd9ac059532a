use Rattle.std.proofs.Common.{◌≡◌, length}
use Rattle.td_room.specs.Workers.{LaterWorker}
use Rattle.td_room.specs.Walk.{SoFar}
use Rattle.td_room.specs.Turns.{ToldPeer}
use Rattle.td_room.proofs.worker.Worker.tell_all.Given as goal

abbrev pub invariant-loop-i : goal.invariant-loop-i
invariant-loop-i g l = record {
  later : LaterWorker l.fn.self l.self;
  lines : l.self.lines ≡ l.fn.self.lines;
  site : l.self.site ≡ l.fn.self.site;
  all : l.i-end ≡ length l.fn.self.peers;
  told : SoFar (ToldPeer l.fn.self.site) l.i l.fn.self.peers l.self.peers;
}
