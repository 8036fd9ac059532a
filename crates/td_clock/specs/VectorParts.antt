-- How a `Vector` keeps its numbers: in an array of fixed size, with zeros behind them.
use Rattle.std.specs.Prelude.{◌≡◌, ◌-◌, ◌++◌, ℕ, List, length, take, replicate}
use Rattle.td_base.specs.declared.site.TheConstants.{MAX_SITE}
use Rattle.td_clock.specs.Vector.{IsVector}

-- the numbers in an array
abbrev pub numbers_of : List ℕ → List ℕ
numbers_of v = v ++ replicate (MAX_SITE - length v) 0

pub record IsVectorParts (size : ℕ) (numbers : List ℕ) : Type 0 where
  pub vector : IsVector (take size numbers)
  pub size_again : size ≡ length (take size numbers)
  pub numbers_again : numbers ≡ numbers_of (take size numbers)
