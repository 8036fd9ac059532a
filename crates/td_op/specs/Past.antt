-- Which operations happened before one another (Lamport 1978), as their vectors say.
use Rattle.std.specs.Prelude.{◌≢◌, ℕ, Bool, IsTrue, sum}
use Rattle.td_clock.specs.Vector.{vector_has}
use Rattle.td_op.specs.Op.{OpValue}

-- whether x is in the past of y: y depends on it
abbrev pub in_past : OpValue → OpValue → Bool
in_past x y = vector_has y.deps x.dot

-- two different operations of which neither is in the past of the other
pub record Concurrent (x y : OpValue) : Type 0 where
  pub different : x ≢ y
  pub not_before : ¬ IsTrue (in_past x y)
  pub not_after : ¬ IsTrue (in_past y x)

-- how many operations were known where this one was made
abbrev pub op_sum : OpValue → ℕ
op_sum x = sum x.deps
