-- How an `AtomList` keeps its atoms: their bytes one after another, and how many of them each atom has.
use Rattle.std.specs.Prelude.{◌≡◌, ◌<◌, ◌≤◌, ◌^◌, ℕ, List, length, drop, sum, All}
use Rattle.td_base.specs.Atom.{IsAtom}
use Rattle.td_base.specs.Run.{pieces}

-- the bytes, cut into pieces of these lengths, are atoms, fewer than 2^32
pub record IsAtomListParts (lens bytes : List ℕ) : Type 0 where
  pub whole : sum lens ≡ length bytes
  pub each : All IsAtom (pieces lens bytes)
  pub few : length lens < 2 ^ 32

-- so many atoms, which have so many bytes, came of them, and what is left keeps the others
pub record IsOwnedParts (lens bytes : List ℕ) (count len : ℕ) : Type 0 where
  pub within : count ≤ length lens
  pub in_bytes : len ≤ length bytes
  pub left : IsAtomListParts (drop count lens) (drop len bytes)
