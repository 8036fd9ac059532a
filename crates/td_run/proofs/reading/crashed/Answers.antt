use Rattle.std.proofs.Common.{Err, ap}
use Rattle.td_io.specs.declared.fault.ReadFault.{ReadFault}
use Rattle.td_run.specs.declared.words.Language.TheVariants.{Kept}
use Rattle.td_run.proofs.Answering.{long_answered, long_kept_script}
use Rattle.td_run.proofs.reading.crashed.Goals as goal

pub returns-in-Err-TooLong : goal.returns-in-Err-TooLong
returns-in-Err-TooLong g c =
    long_answered g.S.Source Kept c.args.source.now c.read_all.new.source
    (c.in-Err-TooLong.ensures.too_long (ap (λ (e : ReadFault). Err e) c.in-Err-TooLong.field-0-is))
    c.read_all.ensures.turns c.refused.result long_kept_script c.refused.ensures.answer c.refused.ensures.read
