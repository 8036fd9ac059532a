-- How a `Buffer` keeps what waits: in a map by dots.
use Rattle.std.specs.Prelude.{◌≡◌, ◌<◌, ◌^◌, ℕ, length, true}
use Rattle.std.specs.List.{AllByRecursion}
use Rattle.td_base.specs.Value.{DotValue, IsDot}
use Rattle.td_base.specs.Order.{dot_lt}
use Rattle.td_base.specs.Lists.{Successive}
use Rattle.td_causal.specs.Waiting.{Numbers}

-- the dots are in range, and rise
pub record AreEntries (waiting : Numbers) : Type 0 where
  pub dots : AllByRecursion (λ (w : DotValue × ℕ). IsDot w.0) waiting
  pub rising : Successive (λ (w v : DotValue × ℕ). dot_lt w.0 v.0 ≡ true) waiting
  pub few : length waiting < 2 ^ 32
