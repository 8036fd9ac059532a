use Rattle.std.proofs.Common.{Some}
use Rattle.td_link.proofs.opening.part.Given as goal

abbrev pub ghosts-part_marked : goal.ghosts-part_marked
ghosts-part_marked g a = record { mark = Some a.mark.now }
