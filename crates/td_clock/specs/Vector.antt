-- Version vectors as lists of numbers, the number of site s at place s - 1.
use Rattle.std.specs.Prelude.{◌<◌, ◌≤◌, ◌+◌, ◌-◌, ℕ, Bool, true, false, ◌&&◌, nat_le, List, []}
use Rattle.std.specs.Prelude.{◌∷◌, length, max, slice_index, slice_set, All}
use Rattle.td_base.specs.Value.{DotValue}
use Rattle.td_base.specs.declared.site.TheConstants.{MAX_SITE}
use Rattle.td_base.specs.declared.dot.TheConstants.{MAX_SEQ}

-- 1 to 64 numbers of at most 65,535
pub record IsVector (v : List ℕ) : Type 0 where
  pub some : 0 < length v
  pub short : length v ≤ MAX_SITE
  pub small : All (λ n. n ≤ MAX_SEQ) v

-- the number of a site, which is 0 past the size
abbrev pub vector_get : List ℕ → ℕ → ℕ
vector_get v site = slice_index v (site - 1)

-- the vector with another number for a site
abbrev pub vector_set : List ℕ → ℕ → ℕ → List ℕ
vector_set v site n = slice_set v (site - 1) n

-- whether the vector has a dot: never past the size, since the numbers of dots begin with 1
abbrev pub vector_has : List ℕ → DotValue → Bool
vector_has v d = nat_le d.seq (vector_get v d.site)

-- whether the second is at most the first in every place
abbrev pub vector_covers : List ℕ → List ℕ → Bool
vector_covers v [] = true
vector_covers [] (n ∷ w) = false
vector_covers (m ∷ v) (n ∷ w) = nat_le n m && vector_covers v w

-- the greater number in each place
abbrev pub vector_join : List ℕ → List ℕ → List ℕ
vector_join v [] = v
vector_join [] (n ∷ w) = n ∷ w
vector_join (m ∷ v) (n ∷ w) = max m n ∷ vector_join v w

-- the number of a site raised by one
abbrev pub vector_bump : List ℕ → ℕ → List ℕ
vector_bump v site = vector_set v site (vector_get v site + 1)
