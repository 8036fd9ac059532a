-- What a source was left with, by what it tells of itself.
use Rattle.std.specs.Prelude.{◌≡◌, ◌<◌, ◌+◌, ℕ, [], Some, None, IfSome, length}
use Rattle.td_io.specs.declared.source.Source as source
use Rattle.td_io.specs.Whole.{ConsumesFirst}

-- the source was read to its end
pub record IsReadToEnd {S : Type 0} (s : source.Ghosts S) (old new : S) : Type 0 where
  -- no byte is left
  pub emptied : IfSome (s.left old) (λ _. s.left new ≡ Some [])
  -- the call that found the end is the last that was made
  pub last : s.end old ≡ None → s.end new ≡ Some (s.calls new)

-- more bytes were left than so many, and one more than these was taken
pub record IsReadPast {S : Type 0} (s : source.Ghosts S) (most : ℕ) (old new : S) : Type 0 where
  pub long : IfSome (s.left old) (λ left. most < length left)
  pub taken : ConsumesFirst (s.left old) (s.left new) (most + 1)
