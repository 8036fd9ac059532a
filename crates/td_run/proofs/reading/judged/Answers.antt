use Rattle.std.proofs.Common.{Err, ap}
use Rattle.td_io.specs.declared.fault.ReadFault.{ReadFault}
use Rattle.td_run.proofs.Answering.{long_trace_answered}
use Rattle.td_run.proofs.reading.judged.Goals as goal

pub returns-in-Err-TooLong : goal.returns-in-Err-TooLong
returns-in-Err-TooLong g c =
    long_trace_answered g.S.Source c.args.source.now c.read_all.new.source c.told.result
    (c.in-Err-TooLong.ensures.too_long (ap (λ (e : ReadFault). Err e) c.in-Err-TooLong.field-0-is))
    c.read_all.ensures.turns c.told.ensures.answer c.told.ensures.read
