-- Commits in the order of their dots.
use Rattle.std.specs.Prelude.{◌≡◌, ℕ, List, [], ◌∷◌, false, if◌then◌else◌}
use Rattle.std.specs.List.{AllByRecursion}
use Rattle.td_base.specs.Lists.{Successive}
use Rattle.td_base.specs.Order.{dot_lt}
use Rattle.td_machine.specs.Log.{Committed}

-- one commit more, before those with no smaller dot
abbrev pub put_commit : Committed → List Committed → List Committed
put_commit c [] = c ∷ []
put_commit c (d ∷ commits) = if dot_lt d.dot c.dot then d ∷ put_commit c commits else c ∷ d ∷ commits

-- the commits of a list, in the order of their dots
abbrev pub in_order : List Committed → List Committed
in_order [] = []
in_order (c ∷ commits) = put_commit c (in_order commits)

-- the dot of c is at most that of d
abbrev pub AtMost : Committed → Committed → Type 0
AtMost c d = dot_lt d.dot c.dot ≡ false

abbrev pub InOrder : List Committed → Type 0
InOrder commits = Successive AtMost commits

-- the commits are of the site, in the order of their numbers
pub record IsOfSite (site : ℕ) (commits : List Committed) : Type 0 where
  pub one : AllByRecursion (λ (c : Committed). c.dot.site ≡ site) commits
  pub order : InOrder commits

-- commits in the order of their dots, and how many can be put in without memory
pub record CommitsValue : Type 0 where
  pub commits : List Committed
  pub places : ℕ
