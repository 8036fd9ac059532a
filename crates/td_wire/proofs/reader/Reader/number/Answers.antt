use Rattle.std.proofs.Common.{arith}
use Rattle.td_wire.proofs.Loops.{number_in_front}
use Rattle.td_wire.proofs.reader.Reader.number.Goals as goal

pub returns-then-number-from : goal.returns-then-number-from
returns-then-number-from c = number_in_front c.args.least c.args.most c.from_be_bytes-number.result
    c.args.self.now.rest.now c.in-len4-up.len_at_least c.from_be_bytes-number.ensures
    (omega arith) (omega arith) (omega arith) (omega arith)
