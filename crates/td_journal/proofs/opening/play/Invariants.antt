use Rattle.std.proofs.Common.{◌≡◌, length}
use Rattle.td_journal.specs.Check.{bytes_of}
use Rattle.td_journal.proofs.Playing.{Replays}
use Rattle.td_journal.proofs.opening.play.Given as goal

abbrev pub invariant-loop-input : goal.invariant-loop-input
invariant-loop-input g l = record {
  replays : Replays l.fn.check.format (bytes_of l.fn.check) l.fn.bytes l.fn.replica.machine l.replica
      (bytes_of l.check) l.rest;
  format : l.check.format ≡ l.fn.check.format;
}

abbrev pub decreases-loop-input : goal.decreases-loop-input
decreases-loop-input g l = length l.rest
