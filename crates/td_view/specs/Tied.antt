-- The rule of the table: what ties the text that is shown to the history.
use Rattle.std.specs.Prelude.{◌≡◌, ◌≢◌, ℕ, List, [], ◌∷◌, ◌++◌, length, Some, None}
use Rattle.std.proofs.Props.{props}
use mathlib.Core.Option.{some}
use lib.ListN.{get_elem?}
use Rattle.td_view.specs.declared.shown.Shown.{Shown}
use Rattle.td_view.specs.declared.table.Named.{Named}
use Rattle.td_view.specs.Publishes.{AreLegal, EndsWith, legal_prop}
use Rattle.td_view.specs.Deeds.{Publishes, publish_of}

-- the text stands at the end of the history that it carries, and its number is the length of that
pub record StandsAtEnd (x : Shown) : Type 0 where
  pub counted : x.count ≡ length x.past.log
  pub legal : AreLegal x.past.log
  pub ends : EndsWith x.past.log (publish_of x)

pub stands_prop : (x : Shown) → IsProp (StandsAtEnd x)
stands_prop x = hlevel (props, legal_prop x.past.log)

-- and each seat that knows a history knows the one of which this is a beginning
abbrev pub Tied : Shown → List Named → Type 0
Tied x views =
    StandsAtEnd x
    × ((seat : ℕ) (v : Named) → get_elem? views seat ≡ some v → (p : Publishes) → v.of ≡ Some p → p.book ≡ x.past.book)

-- a seat that knows nothing yet
abbrev pub nobody : Named
nobody = record { of = None; given = [] }

-- one text more was given to it
abbrev pub given_more : Named → Publishes → Named
given_more v past = record v { given = v.given ++ past ∷ [] }

-- the seat knows the history of which this is a beginning
abbrev pub KnowsPast : Publishes → Named → Type 0
KnowsPast past v = (v.of ≢ None) × ((p : Publishes) → v.of ≡ Some p → p.book ≡ past.book)

-- it does, and no text was given to it
abbrev pub IsUngiven : Publishes → Named → Type 0
IsUngiven past v = KnowsPast past v × (v.given ≡ [])
