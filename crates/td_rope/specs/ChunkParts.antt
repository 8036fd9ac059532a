-- How a chunk keeps its atoms: their bytes one after another, and how many of them each atom has.
use Rattle.std.specs.Prelude.{◌≡◌, ◌<◌, ◌^◌, ℕ, List, length, sum, All}
use Rattle.td_base.specs.Atom.{IsAtom}
use Rattle.td_base.specs.Run.{pieces}
use Rattle.td_rope.specs.declared.size.Size.{Size}
use Rattle.td_rope.specs.Sizes.{IsSize}

-- the bytes, cut into pieces of these lengths, are atoms, fewer than 2^32
pub record IsChunkParts (lens bytes : List ℕ) : Type 0 where
  pub whole : sum lens ≡ length bytes
  pub each : All IsAtom (pieces lens bytes)
  pub few : length lens < 2 ^ 32

-- and this is how much they are
pub record IsChunk (lens bytes : List ℕ) (size : Size) : Type 0 where
  pub parts : IsChunkParts lens bytes
  pub size_is : IsSize (pieces lens bytes) size
