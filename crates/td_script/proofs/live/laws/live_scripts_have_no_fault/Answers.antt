use Rattle.td_script.proofs.LiveScriptLaws.{live_of_no_fault, no_live_fault}
use Rattle.td_script.proofs.live.laws.live_scripts_have_no_fault.Goals as goal

pub returns-clause-script : goal.returns-clause-script
returns-clause-script c = no_live_fault

pub returns-clause-other : goal.returns-clause-other
returns-clause-other c = live_of_no_fault
