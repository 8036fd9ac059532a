use Rattle.std.proofs.Common.{arith}
use Rattle.td_wire.proofs.Loops.{some_if, number_in}
use Rattle.td_wire.proofs.reader.Reader.dot.Goals as goal

pub unwrap-requires : goal.unwrap-requires
unwrap-requires c =
    let r = number_in 1 65535 c.site.new.self.rest.now c.in_ok-seq.seq c.number.new.self.rest.now (omega arith)
    (omega arith) c.in_ok-seq.ensures in
    some_if c.new.result _ _ c.new.ensures (
      omega (arith, r.least, c.from.ensures),
      omega
          (arith, r.most, c.from.ensures),
    )
