-- What contracts see of the marks that a site has: a list of operations, of each site without gaps.
use Rattle.std.specs.Prelude.{◌≡◌, ◌<◌, ◌≤◌, ◌+◌, ◌++◌, ◌==◌, ℕ, List, [], ◌∷◌, length, filter, map}
use Rattle.std.specs.List.{AllByRecursion, range_with_len}
use Rattle.td_base.specs.Value.{DotValue}
use Rattle.td_marks.specs.Mark.{MarkOpValue}
use Rattle.td_marks.specs.declared.mark_op.TheConstants.{NAMES, MAX_ATOMS}

pub record MarksValue : Type 0 where
  pub site : ℕ
  -- the number of sites
  pub size : ℕ
  -- the operations made or taken, the oldest first
  pub ops : List MarkOpValue

-- how many operations of a site there are
abbrev pub count_of : ℕ → List MarkOpValue → ℕ
count_of site ops = length (filter (λ (o : MarkOpValue). o.dot.site == site) ops)

-- how many of each of n sites: the vector of the operations
abbrev pub counts : ℕ → List MarkOpValue → List ℕ
counts n ops = map (λ (site : ℕ). count_of site ops) (range_with_len 1 n)

-- the dot of the first operation of a site that is not had
abbrev pub next_dot : ℕ → List MarkOpValue → DotValue
next_dot site ops = record { site = site; seq = count_of site ops + 1 }

-- each operation came as the next of its site
pub data IsInTurn : List MarkOpValue → Type 0 where
  none_came : IsInTurn []
  came_next : (ops : List MarkOpValue) (o : MarkOpValue) → IsInTurn ops → o.dot ≡ next_dot o.dot.site ops
      → IsInTurn (ops ++ o ∷ [])

-- an operation of one of n sites, about one of the names and 1 to 64 atoms
pub record IsMarkOp (n : ℕ) (o : MarkOpValue) : Type 0 where
  pub site : o.dot.site ≤ n
  pub size : length o.seen ≡ n
  pub name : o.name < NAMES
  pub some : 1 ≤ length o.atoms
  pub few : length o.atoms ≤ MAX_ATOMS

pub record IsMarks (m : MarksValue) : Type 0 where
  pub first : 1 ≤ m.site
  pub own : m.site ≤ m.size
  pub each : AllByRecursion (IsMarkOp m.size) m.ops
  pub turn : IsInTurn m.ops

-- with one more operation
abbrev pub with_op : MarkOpValue → MarksValue → MarksValue
with_op o m = record m { ops = m.ops ++ o ∷ [] }
