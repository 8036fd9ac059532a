use Rattle.td_script.proofs.LiveWritingLaws.{live_read_again}
use Rattle.td_script.proofs.live.laws.written_live_scripts_are_read_again.Goals as goal

pub returns : goal.returns
returns c = live_read_again
