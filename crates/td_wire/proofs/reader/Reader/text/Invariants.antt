use Rattle.std.proofs.Common.{◌≡◌, ◌≤◌, ◌+◌, ◌-◌}
use Rattle.td_wire.specs.Reading.{text_at}
use Rattle.td_wire.proofs.Loops.{mapped}
use Rattle.td_wire.proofs.reader.Reader.text.Given as goal

abbrev pub invariant-loop-left : goal.invariant-loop-left
invariant-loop-left l = record {
  short : l.left ≤ l.len;
  read : mapped (λ k. l.len - l.left + k) (text_at l.left l.left l.self.rest.now)
      ≡ text_at l.len l.len l.initial.self.rest.now;
}

abbrev pub decreases-loop-left : goal.decreases-loop-left
decreases-loop-left l = l.left
