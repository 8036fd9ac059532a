-- The line-up: operations by how many operations each knew, ties by dot (as Lamport 1978 orders events by clock and
-- process). Here a list of operations in line-up has the last one first, so that those before an operation are the
-- tail behind it.
use Rattle.std.specs.Prelude.{◌≢◌, List, [], ◌∷◌, Bool, if◌then◌else◌}
use Rattle.std.specs.declared.cmp.Ordering.{Ordering}
use Rattle.std.specs.List.{list_any}
use Rattle.std.specs.Ordering.{is_lt, nat_cmp, ordering_then}
use Rattle.td_base.specs.Value.{DotValue}
use Rattle.td_base.specs.Order.{dot_cmp}
use Rattle.td_base.specs.Lists.{Successive}
use Rattle.td_op.specs.Op.{OpValue}
use Rattle.td_op.specs.Past.{op_sum}
use Rattle.td_base.specs.Equality.{same_dot}

-- by sum, then by dot
abbrev pub line_up_cmp : OpValue → OpValue → Ordering
line_up_cmp x y = ordering_then (nat_cmp (op_sum x) (op_sum y)) (dot_cmp x.dot y.dot)

abbrev pub comes_before : OpValue → OpValue → Bool
comes_before x y = is_lt (line_up_cmp x y)

-- a line-up with one more operation, put before the first that comes before it
abbrev pub lined_up_with : OpValue → List OpValue → List OpValue
lined_up_with o [] = o ∷ []
lined_up_with o (p ∷ ps) = if comes_before p o then o ∷ p ∷ ps else p ∷ lined_up_with o ps

-- the line-up of these operations, the last first
abbrev pub line_up : List OpValue → List OpValue
line_up [] = []
line_up (o ∷ ops) = lined_up_with o (line_up ops)

-- no two of these operations have one dot
abbrev pub DotsDiffer : List OpValue → Type 0
DotsDiffer ops = Successive (λ (x y : OpValue). x.dot ≢ y.dot) ops

-- one of these operations has the dot
abbrev pub has_dot : DotValue → List OpValue → Bool
has_dot d ops = list_any (λ (o : OpValue). same_dot o.dot d) ops
