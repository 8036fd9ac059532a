-- How a `Tally` keeps its parts.
use Rattle.std.specs.Prelude.{◌≡◌, ◌<◌, ◌≤◌, ◌^◌, ◌-◌, min, ℕ, List, length, reverse}
use Rattle.std.specs.Prelude.{All, Bool, true, false, if◌then◌else◌}
use Rattle.std.specs.declared.cmp.Ordering.TheVariants.{Less}
use Rattle.td_base.specs.Lists.{Successive}
use Rattle.td_base.specs.Order.{dot_cmp}
use Rattle.td_base.specs.declared.site.TheConstants.{MAX_SITE}
use Rattle.td_op.specs.declared.vote.Vote.{Vote}
use Rattle.td_machine.specs.Decision.{Ballot, is_open, is_counted, counted, outcome, count_open}
use Rattle.td_coord.specs.declared.counted.Counted.{Counted}
use Rattle.td_coord.specs.declared.counted.Counted.TheVariants.{Wait, Commit, Abort, Repeat}
use Rattle.td_coord.specs.Tally.{TallyValue}

-- the ballots stand by their proposals, the least first
abbrev pub IsRising : List Ballot → Type 0
IsRising ballots = Successive (λ (b c : Ballot). dot_cmp b.proposal c.proposal ≡ Less) ballots

-- a ballot that is open waits for a vote: it has fewer Yes than there are sites
abbrev pub HasRoom : ℕ → Ballot → Type 0
HasRoom size b = is_open b ≡ true → length b.yes < size

pub record IsTallyParts (size own undecided : ℕ) (ballots : List Ballot) : Type 0 where
  pub some : 1 ≤ size
  pub small : size ≤ MAX_SITE
  pub within : own ≤ size
  pub rising : IsRising ballots
  pub room : All (HasRoom size) ballots
  pub open_count : undecided ≡ count_open ballots
  pub few : length ballots < 2 ^ 32

-- the places that are free, of those for at most 2^32 - 1 ballots
abbrev pub places : ℕ → List Ballot → ℕ
places capacity ballots = min capacity (2 ^ 32 - 1) - length ballots

-- what contracts see of the parts
abbrev pub tally_of : ℕ → ℕ → ℕ → List Ballot → TallyValue
tally_of size own capacity ballots =
    record { size = size; own = own; ballots = reverse ballots; places = places capacity ballots }

-- one ballot after a vote on it, with the decision that is due
abbrev pub after_vote : ℕ → Vote → Ballot → Ballot
after_vote n v b =
    if is_counted v.voter b then b
    else record (counted v.voter v.yes b) { decision = outcome n v.yes (counted v.voter v.yes b) }

abbrev pub is_decision : Counted → Bool
is_decision Wait = false
is_decision Commit = true
is_decision Abort = true
is_decision Repeat = false
