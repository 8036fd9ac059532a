-- How a row keeps the dot of its first delete.
use Rattle.std.specs.Prelude.{◌≤◌, zero, suc, ℕ, ◌∷◌, List, [], Option, Some, None}
use Rattle.td_base.specs.Value.{DotValue}
use Rattle.td_base.specs.declared.site.TheConstants.{MAX_SITE}

-- none where the site is 0
abbrev pub first_dot : ℕ → ℕ → Option DotValue
first_dot zero seq = None
first_dot (suc s) seq = Some (record { site = suc s; seq = seq })

abbrev pub first_dots : Option DotValue → List DotValue
first_dots None = []
first_dots (Some dot) = dot ∷ []

abbrev pub IsFirst : ℕ → ℕ → Type 0
IsFirst site seq = (site ≤ MAX_SITE) × (1 ≤ site → 1 ≤ seq)
