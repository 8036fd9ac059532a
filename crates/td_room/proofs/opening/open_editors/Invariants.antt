use Rattle.std.proofs.Common.{◌≡◌, ℕ, [], length, map, take, drop}
use Rattle.td_law_meeting.specs.Thin.{Loss}
use Rattle.td_room.specs.Workers.{WorkerValue}
use Rattle.td_room.specs.Opening.{AreOpen, AreOpened}
use Rattle.td_room.proofs.opening.open_editors.Given as goal

abbrev pub invariant-loop-i : goal.invariant-loop-i
invariant-loop-i g l = record {
  all : l.i-end ≡ length l.homes;
  peers : map (λ (w : WorkerValue). w.peers) l.workers.items ≡ map (λ (w : WorkerValue). w.peers) l.fn.workers.items;
  opened : AreOpened (take l.i l.homes) (take l.i l.calls) l.editors.items;
  opens : (size : ℕ) (lost : Loss) → AreOpen [] l.homes size lost [] 1 l.fn.workers.items l.fn.readers.items
      → AreOpen (take l.i l.homes) (drop l.i l.homes) size lost l.editors.items 1 l.workers.items l.readers.items;
}
