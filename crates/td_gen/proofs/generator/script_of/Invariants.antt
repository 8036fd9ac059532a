use Rattle.std.proofs.Common.{◌≡◌}
use Rattle.td_gen.specs.Generator.{after_edits}
use Rattle.td_gen.specs.Growth.{AreWithin}
use Rattle.td_gen.proofs.generator.script_of.Given as goal

abbrev pub invariant-loop-done : goal.invariant-loop-done
invariant-loop-done l = record {
  made : l.progress ≡ after_edits l.number l.done;
  within : AreWithin l.done l.progress.least;
}
