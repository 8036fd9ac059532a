-- What the order of a log keeps: each operation is the next of its site, and comes after all of its past (Lamport
-- 1978).
use Rattle.std.specs.Prelude.{◌≡◌, ◌<◌, ◌≤◌, ◌+◌, ℕ, List, [], ◌∷◌, length, filter, replicate, IsTrue, ◌==◌}
use Rattle.td_clock.specs.Vector.{vector_get, vector_bump, vector_covers}
use Rattle.td_op.specs.Op.{OpValue}

-- how many operations of each of n sites stand in the log
abbrev pub counts : ℕ → List OpValue → List ℕ
counts n [] = replicate n 0
counts n (x ∷ log) = vector_bump (counts n log) x.dot.site

-- the operations of one site
abbrev pub ops_of : ℕ → List OpValue → List OpValue
ops_of site log = filter (λ (x : OpValue). x.dot.site == site) log

-- the operation can come next where so many of each site are had
pub record IsNext (have : List ℕ) (x : OpValue) : Type 0 where
  pub some : 0 < x.dot.site
  pub within : x.dot.site ≤ length have
  pub size : length x.deps ≡ length have
  -- it has the next number of its site
  pub next : x.dot.seq ≡ vector_get have x.dot.site + 1
  -- its past is had
  pub past : IsTrue (vector_covers have x.deps)

-- each operation of the log came in its turn: it could come next after the older ones
abbrev pub IsInTurn : ℕ → List OpValue → Type 0
IsInTurn n [] = Unit {0}
IsInTurn n (x ∷ log) = IsNext (counts n log) x × IsInTurn n log
