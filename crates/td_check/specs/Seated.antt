-- The seats at the end of the replay, by their machines.
use Rattle.std.specs.Prelude.{◌≡◌, ◌<◌, ◌≤◌, ◌-◌, ℕ, List, length, Some, slice_get}
use Rattle.td_machine.specs.Machine.{Machine}
use Rattle.td_law_replay.specs.Judging.{States}

-- these are the machines of so many sites in these states, that of site s at place s - 1
pub record AreSeated (n : ℕ) (states : States) (machines : List Machine) : Type 0 where
  pub each : length machines ≡ n
  pub machine : (site : ℕ) → 0 < site → site ≤ n → slice_get machines (site - 1) ≡ Some (states site).machine
