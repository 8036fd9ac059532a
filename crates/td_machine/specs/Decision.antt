-- The decision rule: how a proposer counts votes (two-phase commitment, Gray 1978).
use Rattle.std.specs.Prelude.{ℕ, List, [], ◌∷◌, Bool, true, false, ◌||◌, length, map}
use Rattle.std.specs.Prelude.{filter, Option, Some, None, if◌then◌else◌, ◌==◌}
use Rattle.std.specs.List.{list_any}
use Rattle.std.specs.Option.{is_some, is_none}
use Rattle.td_base.specs.Value.{DotValue}
use Rattle.td_base.specs.Equality.{same_dot}

-- an own proposal: the sites whose Yes is counted, and the decision, true for a commit
pub record Ballot : Type 0 where
  pub proposal : DotValue
  pub yes : List ℕ
  pub decision : Option Bool

-- a proposal begins undecided, with the Yes of its own site counted
abbrev pub new_ballot : DotValue → Ballot
new_ballot p = record { proposal = p; yes = p.site ∷ []; decision = None }

abbrev pub is_on : DotValue → Ballot → Bool
is_on p b = same_dot b.proposal p

abbrev pub is_open : Ballot → Bool
is_open b = is_none b.decision

-- the proposal is decided, or the voter's vote is counted
abbrev pub is_counted : ℕ → Ballot → Bool
is_counted voter b = is_some b.decision || list_any (λ (site : ℕ). voter == site) b.yes

-- the ballot with one more vote counted
abbrev pub counted : ℕ → Bool → Ballot → Ballot
counted voter false b = b
counted voter true b = record { proposal = b.proposal; yes = voter ∷ b.yes; decision = b.decision }

-- the decision that a ballot of n sites brings once a vote is counted: the n-th Yes a commit, a No an abort
abbrev pub outcome : ℕ → Bool → Ballot → Option Bool
outcome n false b = Some false
outcome n true b = if length b.yes == n then Some true else None

-- how many proposals are undecided
abbrev pub count_open : List Ballot → ℕ
count_open ballots = length (filter is_open ballots)

-- the ballot on p changed
abbrev pub revise : DotValue → (Ballot → Ballot) → List Ballot → List Ballot
revise p change ballots = map (λ (b : Ballot). if is_on p b then change b else b) ballots

abbrev pub close : Bool → Ballot → Ballot
close commit b = record { proposal = b.proposal; yes = b.yes; decision = Some commit }
