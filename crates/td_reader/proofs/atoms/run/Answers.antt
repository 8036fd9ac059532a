use Rattle.td_reader.proofs.AtomLaws.{no_first}
use Rattle.td_reader.proofs.atoms.run.Goals as goal

pub returns-in_default : goal.returns-in_default
returns-in_default c = no_first c.args.bytes.now c.in_default.ensures
