-- The peers of the workers side by side, a row for each worker, and how they meet: first the peers of the first worker,
-- each with the first peer that is left of the worker that it stands for; then so those of the second, and so on.
use Rattle.std.specs.Prelude.{ℕ, zero, suc, List, [], ◌∷◌, drop, map}
use Rattle.td_law_meeting.specs.Peers.{PeerValue}
use Rattle.td_law_meeting.specs.Accounts.{Account}

-- each of the row stands in the relation to the first of the row at its place
abbrev pub MatchesFirsts : {P : Type 0} → (P → P → Type 0) → List P → List (List P) → Type 0
MatchesFirsts R [] [] = Unit {0}
MatchesFirsts R [] (row ∷ rows) = ⊥
MatchesFirsts R (p ∷ ps) [] = ⊥
MatchesFirsts R (p ∷ ps) ([] ∷ rows) = ⊥
MatchesFirsts R (p ∷ ps) ((q ∷ qs) ∷ rows) = R p q × MatchesFirsts R ps rows

-- so many of the rows: the first with the firsts of all behind it, and then those without their firsts among themselves
abbrev pub AllMatch : {P : Type 0} → (P → P → Type 0) → ℕ → List (List P) → Type 0
AllMatch R zero rows = Unit {0}
AllMatch R (suc k) [] = Unit {0}
AllMatch R (suc k) (row ∷ rows) = MatchesFirsts R row rows × AllMatch R k (map (drop 1) rows)

-- what each worker keeps
abbrev pub rows_of : List Account → List (List PeerValue)
rows_of accounts = map (λ (a : Account). a.peers) accounts
