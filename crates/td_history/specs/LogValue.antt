-- What contracts see of a log.
use Rattle.std.specs.Prelude.{ℕ, List}
use Rattle.td_op.specs.Op.{OpValue}

pub record LogValue : Type 0 where
  -- the number of sites
  pub size : ℕ
  -- the operations that are kept, by their numbers from 0
  pub ops : List OpValue
  -- those made or taken, the newest first
  pub log : List OpValue
  -- for how many more there is room, and of which site in the log
  pub room : ℕ
  pub room_site : ℕ
