-- Bytes in the front of an array of fixed size, with zeros behind them.
use Rattle.std.specs.Prelude.{◌≡◌, ◌≤◌, ◌-◌, ◌++◌, ℕ, List, length, replicate, take}
use Rattle.std.proofs.Common.{arith}
use Rattle.std.proofs.lemmas.List.{length-take-le}

abbrev pub padded_with_zeros : ℕ → List ℕ → List ℕ
padded_with_zeros room bytes = bytes ++ replicate (room - length bytes) 0

-- so many bytes of the array, and zeros behind them
pub record IsPadded (room len : ℕ) (bytes : List ℕ) : Type 0 where
  pub short : len ≤ room
  pub whole : length bytes ≡ room
  pub zeros : bytes ≡ padded_with_zeros room (take len bytes)

-- the bytes give back how many they are
pub len_again : (room len : ℕ) (bytes : List ℕ) → IsPadded room len bytes → length (take len bytes) ≡ len
len_again room len bytes padded = length-take-le len bytes (omega (arith, padded.short, padded.whole))
