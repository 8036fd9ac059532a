-- Where a ballot stands among ballots in the order of their proposals.
use Rattle.std.specs.Prelude.{◌≡◌, ◌<◌, ◌≤◌, ℕ, List, length, take, drop, All, Result, Ok, Err}
use Rattle.std.specs.List.{HoldsAt}
use Rattle.std.specs.declared.cmp.Ordering.TheVariants.{Less}
use Rattle.td_base.specs.Value.{DotValue}
use Rattle.td_base.specs.Order.{dot_cmp}
use Rattle.td_machine.specs.Decision.{Ballot}

-- the place of the ballot on p; or, where none is on it, the place between those on smaller and on greater proposals
abbrev pub IsPlace : DotValue → List Ballot → Result ℕ ℕ → Type 0
IsPlace p ballots (Ok k) = (k < length ballots) × HoldsAt (λ (b : Ballot). b.proposal ≡ p) ballots k
IsPlace p ballots (Err k) =
    (k ≤ length ballots)
    × All (λ (b : Ballot). dot_cmp b.proposal p ≡ Less) (take k ballots)
    × All (λ (b : Ballot). dot_cmp p b.proposal ≡ Less) (drop k ballots)
