-- Records in front of a closed gate.
use Rattle.std.specs.Prelude.{◌≡◌, ◌<◌, ◌-◌, ℕ, List, length, slice_index}

-- the last byte is a closed gate
pub record IsPieceParts (items : List ℕ) : Type 0 where
  pub some : 0 < length items
  pub shut : slice_index items (length items - 1) ≡ 0

-- the first byte is an open gate
pub record BeginsOpen (bytes : List ℕ) : Type 0 where
  pub some : 0 < length bytes
  pub is_open : slice_index bytes 0 ≡ 1
