-- What contracts see of what entries keep beside themselves, and how it grows.
use Rattle.std.specs.Prelude.{ℕ, List}
use Rattle.td_op.specs.Op.{OpValue}
use Rattle.td_history.specs.Standing.{IsGrown}
use Rattle.td_history.specs.declared.entry.WholeEntry.{WholeEntry}

pub record AsideValue : Type 0 where
  -- the entries that are kept whole, by their numbers from 0
  pub wholes : List WholeEntry
  -- the texts that no operation has, and the operations that were offered alone, by their numbers from 0
  pub texts : List (List (List ℕ))
  pub offered : List OpValue
  -- for how many more of each there is room
  pub room : ℕ

-- more of each may have come, at the end
pub record HasGrown (old new : AsideValue) : Type 0 where
  pub wholes : IsGrown old.wholes new.wholes
  pub texts : IsGrown old.texts new.texts
  pub offered : IsGrown old.offered new.offered
