-- How far the least lengths grow: each edit adds at most eight.
use Rattle.std.specs.Prelude.{◌≡◌, ◌≤◌, ◌+◌, ◌*◌, ℕ, All, length, sum}
use Rattle.td_gen.specs.declared.least.Least.{Least}
use Rattle.td_gen.specs.declared.edit.TheConstants.{MAX_LETTERS}
use Rattle.td_gen.specs.declared.generator.TheConstants.{SITES}

-- after so many edits
pub record AreWithin (edits : ℕ) (l : Least) : Type 0 where
  pub sites : length l.sites ≡ SITES
  pub shared : l.shared ≤ MAX_LETTERS * edits
  pub each : All (λ least. least ≤ MAX_LETTERS * edits) l.sites
  -- what was added since the sites settled, with what they shared, is not more
  pub together : sum l.sites ≤ 2 * l.shared + MAX_LETTERS * edits
