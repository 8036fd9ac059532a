use Rattle.std.proofs.Common.{take}
use Rattle.td_journal.specs.Journal.{inputs_of}
use Rattle.td_journal.specs.Whole.{IsWritten}
use Rattle.td_journal.proofs.whole.write_journal.Given as goal

abbrev pub invariant-loop-k : goal.invariant-loop-k
invariant-loop-k g l =
    IsWritten l.fn.format l.replica.machine.site l.replica.machine.size (inputs_of (take l.k l.replica.entries))
    l.journal.bytes l.journal.check
