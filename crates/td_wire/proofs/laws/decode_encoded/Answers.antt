use Rattle.std.proofs.Common.{sym, subst}
use Rattle.td_wire.specs.declared.format.Format.TheVariants.{Two}
use Rattle.td_wire.specs.Spelling.{Spells}
use Rattle.td_wire.proofs.laws.decode_encoded.Goals as goal

pub returns : goal.returns
returns c = c.decode.ensures.only c.args.message.now
    (Two, subst (Spells Two c.args.message.now) (sym c.bytes.ensures.bytes) c.encode.ensures)
