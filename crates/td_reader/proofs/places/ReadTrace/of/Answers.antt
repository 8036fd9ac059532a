use Rattle.std.proofs.Common.{refl}
use Rattle.td_reader.specs.Places.{value_at}
use Rattle.td_reader.proofs.Kept.{seen}
use Rattle.td_reader.proofs.places.ReadTrace.of.Goals as goal

pub returns : goal.returns
returns c =
    (seen c.args.bytes.now c.args.starts.items c.args.parts c.args.sites
    (value_at c.args.bytes.now c.args.starts.items) c.requires refl).is
