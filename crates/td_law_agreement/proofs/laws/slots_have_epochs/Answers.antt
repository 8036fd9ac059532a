use Rattle.td_law_agreement.proofs.EveryFamily.{epochs_of}
use Rattle.td_law_agreement.proofs.laws.slots_have_epochs.Goals as goal

pub returns : goal.returns
returns c = epochs_of
