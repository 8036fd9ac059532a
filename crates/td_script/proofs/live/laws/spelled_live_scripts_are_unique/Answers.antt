use Rattle.td_script.proofs.LiveScriptLaws.{live_unique}
use Rattle.td_script.proofs.live.laws.spelled_live_scripts_are_unique.Goals as goal

pub returns : goal.returns
returns c = live_unique
