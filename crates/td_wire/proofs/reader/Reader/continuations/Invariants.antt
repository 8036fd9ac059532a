use Rattle.std.proofs.Common.{◌≡◌, ◌+◌, ◌-◌}
use Rattle.td_wire.specs.Reading.{continuations_at}
use Rattle.td_wire.proofs.Loops.{mapped}
use Rattle.td_wire.proofs.reader.Reader.continuations.Given as goal

abbrev pub invariant-loop : goal.invariant-loop
invariant-loop l = mapped (λ k. l.counter + k) (continuations_at (l.count - l.counter) l.least l.most l.self.rest.now)
    ≡ continuations_at l.count l.fn.least l.fn.most l.initial.self.rest.now
