use Rattle.std.proofs.Common.{◌≡◌, ◌≤◌, ◌+◌, ◌-◌, length}
use Rattle.std.specs.Io.KnownBytes.{Consumes}
use Rattle.td_io.proofs.read_whole.read_all.Given as goal

-- the bytes so far were taken, at most one too many, and each call gave one of them
abbrev pub invariant-loop-buf : goal.invariant-loop-buf
invariant-loop-buf g l = record {
  within : length l.bytes ≤ l.most + 1;
  taken : Consumes (g.S.Source.left l.fn.source) (g.S.Source.left l.source) l.bytes;
  count : g.S.Source.faults l.fn.source ≤ g.S.Source.faults l.source;
  turns : g.S.Source.calls l.source ≤ g.S.Source.calls l.fn.source + length l.bytes;
  no_end : g.S.Source.end l.source ≡ g.S.Source.end l.fn.source;
}

abbrev pub decreases-loop-buf : goal.decreases-loop-buf
decreases-loop-buf g l = l.most + 1 - length l.bytes
