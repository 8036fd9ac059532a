-- Causal delivery by vectors (after Lamport 1978): which operations a replica has, and which of those that wait it may
-- take.
use Rattle.std.specs.Prelude.{ℕ, List, [], ◌∷◌, Bool, ◌&&◌, not, filter, Option, Some, None, if◌then◌else◌}
use Rattle.std.specs.List.{list_any}
use Rattle.td_base.specs.Value.{DotValue}
use Rattle.td_base.specs.Order.{dot_lt}
use Rattle.td_base.specs.Equality.{same_dot}
use Rattle.td_clock.specs.Vector.{vector_has, vector_covers}
use Rattle.td_op.specs.Op.{OpValue}

-- the operation was made or taken
abbrev pub is_had : List ℕ → OpValue → Bool
is_had have x = vector_has have x.dot

-- it was not, and all that it depends on was
abbrev pub is_ready : List ℕ → OpValue → Bool
is_ready have x = not (is_had have x) && vector_covers have x.deps

abbrev pub smaller_op : OpValue → Option OpValue → OpValue
smaller_op x None = x
smaller_op x (Some y) = if dot_lt y.dot x.dot then y else x

-- the operation with the least dot
abbrev pub least_op : List OpValue → Option OpValue
least_op [] = None
least_op (x ∷ ops) = Some (smaller_op x (least_op ops))

-- the ready operation with the least dot, of those that wait
abbrev pub next_ready : List ℕ → List OpValue → Option OpValue
next_ready have waiting = least_op (filter (is_ready have) waiting)

-- d is the dot of x
abbrev pub is_dot_of : DotValue → OpValue → Bool
is_dot_of d x = same_dot x.dot d

-- an operation with this dot waits
abbrev pub waits : DotValue → List OpValue → Bool
waits d waiting = list_any (is_dot_of d) waiting

-- the operation waits too; what waits is kept in the order of dots
abbrev pub put_waiting : OpValue → List OpValue → List OpValue
put_waiting x [] = x ∷ []
put_waiting x (y ∷ waiting) = if dot_lt y.dot x.dot then y ∷ put_waiting x waiting else x ∷ y ∷ waiting

-- the others wait on
abbrev pub without : DotValue → List OpValue → List OpValue
without d waiting = filter (λ (x : OpValue). not (is_dot_of d x)) waiting
