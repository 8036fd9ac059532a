-- How a `Votes` keeps the votes that are counted.
use Rattle.std.specs.Prelude.{◌≡◌, ◌-◌, ◌^◌, List, min}
use Rattle.std.specs.List.{list_any}
use Rattle.std.specs.Map.{count_at}
use Rattle.std.specs.BTreeMap as tree
use Rattle.std.specs.BTreeSet as tree_set
use Rattle.td_base.specs.Value.{DotValue}
use Rattle.td_base.specs.Equality.{same_dot}
use Rattle.td_base.specs.Order.{dot_cmp}
use Rattle.td_law_replay.specs.Counting.{how_often}
use Rattle.td_seat.specs.declared.votes.Votes.{Votes}

-- these are the proposals of each Yes, and of each No, that is counted. A number of Yes is kept up to 2 ^ 32 - 1
pub record AreVotes (yes no : List DotValue) (votes : Votes) : Type 0 where
  pub each_yes : (p : DotValue) → count_at (tree.get dot_cmp votes.yes) p ≡ min (how_often p yes) (2 ^ 32 - 1)
  pub each_no : (p : DotValue) → tree_set.contains dot_cmp votes.no p ≡ list_any (λ (d : DotValue). same_dot d p) no
