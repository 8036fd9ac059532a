-- What contracts see of the lists that are stored: their elements in the order in which they were pushed, and for how
-- many more there is room.
use Rattle.std.specs.Prelude.{ℕ, List}
use Rattle.td_op.specs.Op.{OpValue}
use Rattle.td_store.specs.declared.place.Place.{Place}

pub record RunsValue : Type 0 where
  pub runs : List (List (List ℕ))
  pub room : ℕ

-- vectors of one size
pub record VectorsValue : Type 0 where
  pub size : ℕ
  pub rows : List (List ℕ)
  pub room : ℕ

-- operations for a buffer of so many sites
pub record OpsValue : Type 0 where
  pub size : ℕ
  pub ops : List OpValue
  pub room : ℕ

-- the places of operations, of which so many are heads
pub record ChainsValue : Type 0 where
  pub heads : ℕ
  pub places : List Place
  pub room : ℕ
