use Rattle.std.proofs.Common.{◌∙◌}
use Rattle.td_journal.specs.Check.{bytes_of}
use Rattle.td_journal.proofs.Playing.{replays_more}
use Rattle.td_journal.proofs.opening.play.Goals as goal

pub loop-input-preserved : goal.loop-input-preserved
loop-input-preserved g c =
    record {
      replays = replays_more c.args.check.format c.loop-input.check.format (bytes_of c.args.check) c.args.bytes.now
          c.args.replica.now.machine
          c.loop-input.replica c.step_on.new.self (bytes_of c.loop-input.check) c.loop-input.rest.now c.in-Some.input
          (bytes_of c.in-Some.next) c.in-Some.behind.now
          c.loop-input.invariant.replays c.in-Some.ensures.can c.loop-input.invariant.format c.in-Some.ensures.found
          c.in-Some.ensures.check c.in_ok-step_on.ensures.ok;
      format = c.in-Some.ensures.format ∙ c.loop-input.invariant.format;
    }
