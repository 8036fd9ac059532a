-- The text of some of the atoms.
use Rattle.std.proofs.Common.{List, ℕ, filter, not, map}
use Rattle.std.specs.List.{concat}
use Rattle.td_base.specs.Value.{AtomIdValue}
use Rattle.td_op.specs.Op.{OpValue}
use Rattle.td_order.specs.Show.{atom_of, is_deleted}

-- what these atoms show
abbrev pub text_of : List OpValue → List AtomIdValue → List ℕ
text_of ops ids = concat (map (atom_of ops) (filter (λ (x : AtomIdValue). not (is_deleted ops x)) ids))
