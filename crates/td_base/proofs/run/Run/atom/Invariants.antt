use Rattle.std.proofs.Common.{◌≡◌, length, drop, take}
use Rattle.std.specs.List.{concat}
use Rattle.td_base.specs.RunParts.{ends_of}
use Rattle.td_base.proofs.run.Run.atom.Given as goal

abbrev pub invariant-loop : goal.invariant-loop
invariant-loop l = record {
  start : l.start ≡ length (concat (take l.counter l.self));
  ends : l.ends ≡ ends_of (drop l.counter l.self);
}
