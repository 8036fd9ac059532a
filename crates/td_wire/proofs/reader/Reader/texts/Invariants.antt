use Rattle.std.proofs.Common.{◌≡◌, drop}
use Rattle.td_wire.specs.Reading.{atoms_at}
use Rattle.td_wire.proofs.Loops.{passed}
use Rattle.td_wire.proofs.reader.Reader.texts.Given as goal

abbrev pub invariant-loop-len : goal.invariant-loop-len
invariant-loop-len l = passed (atoms_at (drop l.len-index l.lengths) l.self.rest.now)
    ≡ passed (atoms_at l.lengths l.fn.self.rest.now)
