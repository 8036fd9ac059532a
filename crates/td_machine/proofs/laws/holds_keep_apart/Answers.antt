use Rattle.td_machine.proofs.Reached.{rooted_of, apart_of}
use Rattle.td_machine.proofs.laws.holds_keep_apart.Goals as goal

-- src/laws.rt:1:1
pub returns-clause-rooted : goal.returns-clause-rooted
returns-clause-rooted c = rooted_of

-- src/laws.rt:1:1
pub returns-clause-apart : goal.returns-clause-apart
returns-clause-apart c = apart_of
