use Rattle.std.proofs.Common.{◌≡◌, length, take}
use Rattle.std.specs.List.{concat}
use Rattle.td_base.specs.RunParts.{bytes_of, ends_of}
use Rattle.td_base.proofs.run.Run.new.Given as goal

abbrev pub invariant-loop-atom : goal.invariant-loop-atom
invariant-loop-atom l = record {
  at : l.end ≡ length (concat (take l.atom-index l.atoms));
  bytes : l.bytes ≡ bytes_of (take l.atom-index l.atoms);
  ends : l.ends ≡ ends_of (take l.atom-index l.atoms);
}
