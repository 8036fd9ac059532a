-- How a proposer counts votes on its proposals, by the decision rule of `td_machine` (two-phase commitment, Gray
-- 1978).
use Rattle.std.specs.Prelude.{ℕ, List, [], ◌∷◌, Bool, true, false, Option, Some, None, if◌then◌else◌}
use Rattle.td_base.specs.Value.{DotValue}
use Rattle.td_base.specs.Order.{dot_lt}
use Rattle.td_op.specs.declared.vote.Vote.{Vote}
use Rattle.td_machine.specs.Decision.{Ballot, is_open, is_counted, counted, outcome, revise, close}
use Rattle.td_coord.specs.declared.counted.Counted.{Counted}
use Rattle.td_coord.specs.declared.counted.Counted.TheVariants.{Wait, Commit, Abort, Repeat}

-- what contracts see of a tally
pub record TallyValue : Type 0 where
  -- the number of sites
  pub size : ℕ
  -- the site whose proposals they are
  pub own : ℕ
  -- one for each proposal that was started, the greatest proposal first
  pub ballots : List Ballot
  -- how many more proposals can be started without taking memory
  pub places : ℕ

-- how a decision is told, or that there is none
abbrev pub told : Option Bool → Counted
told None = Wait
told (Some true) = Commit
told (Some false) = Abort

-- an open ballot with the Yes of the own site alone
abbrev pub own_ballot : ℕ → DotValue → Ballot
own_ballot own p = record { proposal = p; yes = own ∷ []; decision = None }

-- the ballot of a proposal that is started: decided at once where that Yes is the last
abbrev pub started : ℕ → ℕ → DotValue → Ballot
started n own p = record (own_ballot own p) { decision = outcome n true (own_ballot own p) }

-- the ballot put in its place
abbrev pub put_ballot : Ballot → List Ballot → List Ballot
put_ballot b [] = b ∷ []
put_ballot b (c ∷ ballots) =
    if dot_lt b.proposal c.proposal then c ∷ put_ballot b ballots else b ∷ c ∷ ballots

-- what a vote on the ballot brings
abbrev pub brought : ℕ → Vote → Ballot → Counted
brought n v b = if is_counted v.voter b then Repeat else told (outcome n v.yes (counted v.voter v.yes b))

-- the ballot on p closed by the decision that is due, if one is
abbrev pub close_due : DotValue → Option Bool → List Ballot → List Ballot
close_due p None ballots = ballots
close_due p (Some commit) ballots = revise p (close commit) ballots

-- the ballots after a vote on b, which is one of them: it is counted, unless it is a repeat
abbrev pub voted : ℕ → Vote → Ballot → List Ballot → List Ballot
voted n v b ballots =
    if is_counted v.voter b then ballots
    else close_due v.proposal (outcome n v.yes (counted v.voter v.yes b))
    (revise v.proposal (counted v.voter v.yes) ballots)

-- whether there is a ballot, and it is open
abbrev pub is_open_found : Option Ballot → Bool
is_open_found None = false
is_open_found (Some b) = is_open b
