use Rattle.std.proofs.Common.{◌≡◌, ◌++◌, ◌∷◌, length, take}
use Rattle.std.specs.List.{flat_map}
use Rattle.td_wire.specs.Spelling.{number_bytes}
use Rattle.td_wire.proofs.writing.put_deps.Given as goal

abbrev pub invariant-loop-i : goal.invariant-loop-i
invariant-loop-i l = l.bytes ≡ l.fn.bytes ++ length l.deps ∷ flat_map number_bytes (take l.i l.deps)
