-- How a `Holds` keeps what it votes by: the newest hold at the end, and at most 2 ^ 32 - 1 of them; and the same holds
-- by place.
use Rattle.std.specs.Prelude.{◌<◌, ◌-◌, ◌^◌, ℕ, List, length, min, reverse}
use Rattle.td_machine.specs.Hold.{Hold}
use Rattle.td_vote.specs.ByPlace.{AreSame}
use Rattle.td_vote.specs.Commits.{CommitsValue}
use Rattle.td_vote.specs.Holds.{HoldsValue}

abbrev pub holds_of : List Hold → ℕ → List Hold → ℕ → CommitsValue → HoldsValue
holds_of holds hold_capacity by_place place_capacity commits =
    record {
      holds = reverse holds;
      by_place = by_place;
      commits = commits.commits;
      hold_places = min (min hold_capacity (2 ^ 32 - 1) - length holds) (place_capacity - length by_place);
      commit_places = commits.places;
    }

pub record AreHoldsParts (holds by_place : List Hold) : Type 0 where
  pub few : length holds < 2 ^ 32
  pub same : AreSame by_place (reverse holds)
