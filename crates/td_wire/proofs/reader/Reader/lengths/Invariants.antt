use Rattle.std.proofs.Common.{◌≡◌, ◌≤◌, ◌-◌, ◌++◌, length, take, drop}
use Rattle.td_wire.specs.Reading.{lengths_at}
use Rattle.td_wire.proofs.Loops.{mapped}
use Rattle.td_wire.proofs.reader.Reader.lengths.Given as goal

abbrev pub invariant-loop-i : goal.invariant-loop-i
invariant-loop-i l = record {
  at : l.self.rest.now ≡ drop l.i l.initial.self.rest.now;
  within : l.i ≤ length l.initial.self.rest.now;
  room : l.count - l.i ≤ l.room;
  read : mapped (λ ls. take l.i l.initial.self.rest.now ++ ls)
      (lengths_at (l.count - l.i) l.room (drop l.i l.initial.self.rest.now))
      ≡ lengths_at l.count 64 l.initial.self.rest.now;
}
