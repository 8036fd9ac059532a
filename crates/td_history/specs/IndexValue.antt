-- What contracts see of an index: the lists of the sites, that of site s at place s - 1.
use Rattle.std.specs.Prelude.{ℕ, List}
use Rattle.td_history.specs.declared.index.Logged.{Logged}

pub record IndexValue : Type 0 where
  pub lists : List (List Logged)
  -- how many more can be added, and to the list of which site
  pub room : ℕ
  pub room_site : ℕ
