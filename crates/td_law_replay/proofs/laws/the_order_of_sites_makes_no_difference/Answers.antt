use Rattle.td_law_replay.proofs.Shown.{any_order}
use Rattle.td_law_replay.proofs.laws.the_order_of_sites_makes_no_difference.Goals as goal

pub returns : goal.returns
returns c = any_order
