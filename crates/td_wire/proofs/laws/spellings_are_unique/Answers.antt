use Rattle.td_wire.proofs.Decoding.{one_message, one_format}
use Rattle.td_wire.proofs.laws.spellings_are_unique.Goals as goal

pub returns-clause-message : goal.returns-clause-message
returns-clause-message c = one_message

pub returns-clause-format : goal.returns-clause-format
returns-clause-format c = one_format
