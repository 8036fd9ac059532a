use Rattle.std.proofs.Common.{◌≡◌, length, take}
use Rattle.std.specs.List.{concat}
use Rattle.td_base.specs.Run.{pieces}
use Rattle.td_base.specs.RunParts.{ends_of}
use Rattle.td_base.proofs.run.Run.cut.Given as goal

abbrev pub invariant-loop-len : goal.invariant-loop-len
invariant-loop-len l = record {
  at : l.end ≡ length (concat (take l.len-index (pieces l.lengths l.bytes)));
  ends : l.ends ≡ ends_of (take l.len-index (pieces l.lengths l.bytes));
}
