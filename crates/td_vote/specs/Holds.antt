-- What a replica votes by.
use Rattle.std.specs.Prelude.{ℕ, List}
use Rattle.td_machine.specs.Hold.{Hold}
use Rattle.td_machine.specs.Log.{Committed}

pub record HoldsValue : Type 0 where
  -- the newest first
  pub holds : List Hold
  -- the same holds in the order of their places
  pub by_place : List Hold
  -- in the order of their dots
  pub commits : List Committed
  -- how many holds, and how many commits, can be put in without memory
  pub hold_places : ℕ
  pub commit_places : ℕ
