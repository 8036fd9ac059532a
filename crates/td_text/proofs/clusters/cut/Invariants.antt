use Rattle.std.proofs.Common.{◌≡◌, ◌++◌, true, All}
use Rattle.td_base.specs.Atom.{IsAtom}
use Rattle.unicode_segmentation.specs.Grapheme.{graphemes}
use Rattle.unicode_segmentation.specs.Iter.{graphemes_left}
use Rattle.td_text.proofs.clusters.cut.Given as goal

abbrev pub invariant-loop-cluster : goal.invariant-loop-cluster
invariant-loop-cluster l = record {
  whole : graphemes true l.text ≡ l.atoms ++ graphemes_left l.cluster-iterator;
  each : All IsAtom l.atoms;
}
