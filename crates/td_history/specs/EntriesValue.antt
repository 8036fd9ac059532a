-- What contracts see of the entries as they are kept.
use Rattle.std.specs.Prelude.{ℕ, List}
use Rattle.td_op.specs.Op.{OpValue}
use Rattle.td_history.specs.declared.entry.CompactEntry.{CompactEntry}
use Rattle.td_history.specs.declared.entry.WholeEntry.{WholeEntry}

pub record EntriesValue : Type 0 where
  -- the oldest first
  pub entries : List CompactEntry
  -- those that are kept whole, by their numbers from 0
  pub wholes : List WholeEntry
  -- the texts that no operation has, and the operations that were offered alone, by their numbers from 0
  pub texts : List (List (List ℕ))
  pub offered : List OpValue
  -- for how many more there is room
  pub room : ℕ
