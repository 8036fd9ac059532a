use Rattle.std.proofs.Common.{◌≡◌, drop}
use Rattle.td_base.specs.RunParts.{ends_of}
use Rattle.td_base.proofs.RunPieces.{lengths_upto}
use Rattle.td_base.proofs.run.Run.lengths.Given as goal

abbrev pub invariant-loop-i : goal.invariant-loop-i
invariant-loop-i l = record {
  lengths : l.lengths ≡ lengths_upto l.self l.i;
  ends : l.ends ≡ ends_of (drop l.i l.self);
}
