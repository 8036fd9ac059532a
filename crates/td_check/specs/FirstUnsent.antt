-- The first entry of a trace, by line, that takes a vote which its voter did not send.
use Rattle.std.specs.Prelude.{◌≡◌, ℕ}
use Rattle.td_reader.specs.LineNumbers.{line_of_entry}
use Rattle.td_reader.specs.Values.{TraceValue}
use Rattle.td_law_replay.specs.Judging.{States}
use Rattle.td_check.specs.Stops.{IsBefore, IsUnsentAt}

-- it stands at this line
pub record IsFirstUnsent (t : TraceValue) (last : States) (line : ℕ) : Type 0 where
  pub site : ℕ
  pub k : ℕ
  pub unsent : IsUnsentAt t last site k
  pub before : (r j : ℕ) → IsBefore r j site k → ¬ IsUnsentAt t last r j
  pub line_is : line ≡ line_of_entry t site k
