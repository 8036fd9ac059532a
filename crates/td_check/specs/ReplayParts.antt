-- How a replay is kept.
use Rattle.std.specs.Prelude.{◌≡◌, ◌<◌, ◌≤◌, ◌-◌, ℕ, List, Some, length, get_or}
use Rattle.td_op.specs.Op.{OpValue}
use Rattle.td_machine.specs.Machine.{Machine, start}
use Rattle.td_machine.specs.Ready.{next_ready}
use Rattle.td_reader.specs.Values.{IsTraceValue}
use Rattle.td_law_replay.specs.Traced.{site_entries}
use Rattle.td_seat.specs.Made.{IsMade}
use Rattle.td_seat.specs.declared.made.Made.{Made}
use Rattle.td_check.specs.Sites.{ReplayValue, histories_of, done_of}

-- what is kept beside the machines is what entries say that sites made, and no site has done more than it has entries
pub record IsReplayParts (made : Made) (r : ReplayValue) : Type 0 where
  pub trace : IsTraceValue r.trace
  pub some : 0 < r.trace.sites
  pub told : IsMade (histories_of r) made
  pub each_machine : length r.machines ≡ r.trace.sites
  pub each_done : length r.done ≡ r.trace.sites
  pub within : (site : ℕ) → 0 < site → site ≤ r.trace.sites
      → done_of r site ≤ length (site_entries (histories_of r) site)

-- the machines of the first k of n sites, which have done nothing
pub record AreStarted (n k : ℕ) (machines : List Machine) : Type 0 where
  pub each : length machines ≡ k
  pub started : (site : ℕ) → 0 < site → site ≤ k → get_or machines (site - 1) (start site n) ≡ start site n

-- the least ready operation that waits is the outline of this one, where it has its dot
abbrev pub IsOutlineAt : Machine → OpValue → Type 0
IsOutlineAt m x = (y : OpValue) → next_ready m.have m.waiting ≡ Some y → y.dot ≡ x.dot → y.deps ≡ x.deps
