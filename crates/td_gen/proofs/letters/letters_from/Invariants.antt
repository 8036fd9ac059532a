use Rattle.std.proofs.Common.{◌≡◌}
use Rattle.td_gen.specs.Generator.{letters_from}
use Rattle.td_gen.proofs.letters.letters_from.Given as goal

abbrev pub invariant-loop-place : goal.invariant-loop-place
invariant-loop-place l = l.atoms ≡ letters_from l.first l.place
