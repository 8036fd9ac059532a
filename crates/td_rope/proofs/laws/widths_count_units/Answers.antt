use Rattle.td_rope.proofs.Sizes.{width_bytes}
use Rattle.td_rope.proofs.Standard.{width_points, width_utf16}
use Rattle.td_rope.proofs.laws.widths_count_units.Goals as goal

pub returns-clause-bytes : goal.returns-clause-bytes
returns-clause-bytes c = width_bytes

pub returns-clause-points : goal.returns-clause-points
returns-clause-points c = width_points

pub returns-clause-utf16 : goal.returns-clause-utf16
returns-clause-utf16 c = width_utf16
