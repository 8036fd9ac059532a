use Rattle.td_disk.proofs.Growing.{not_both}
use Rattle.td_disk.proofs.laws.a_piece_is_there_or_it_is_not.Goals as goal

pub returns : goal.returns
returns c = not_both
