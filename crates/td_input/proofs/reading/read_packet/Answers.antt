use Rattle.std.proofs.Common.{ap, ◌∙◌}
use Rattle.std.specs.Result.{result_ok}
use Rattle.td_wire.specs.declared.format.Format.TheVariants.{Two}
use Rattle.td_input.proofs.reading.read_packet.Goals as goal

pub returns-in-50-clause-only : goal.returns-in-50-clause-only
returns-in-50-clause-only c = λ m h is. c.ok.ensures.value
    ∙ ap result_ok (c.decode.ensures.only m (Two, record { can = h; bytes_are = is }))
