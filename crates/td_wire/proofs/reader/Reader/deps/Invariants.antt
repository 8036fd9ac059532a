use Rattle.std.proofs.Common.{◌≡◌, ◌+◌, ◌-◌, ◌++◌, length, take}
use Rattle.td_wire.specs.Reading.{deps_at}
use Rattle.td_wire.proofs.Loops.{mapped}
use Rattle.td_wire.proofs.reader.Reader.deps.Given as goal

abbrev pub invariant-loop-i : goal.invariant-loop-i
invariant-loop-i l = record {
  size : length l.deps ≡ l.n;
  read : mapped (λ ds. take l.i l.deps ++ ds) (deps_at l.own (l.i + 1) (l.n - l.i) l.numbers.rest.now)
      ≡ deps_at l.own 1 l.n l.initial.numbers.rest.now;
}
