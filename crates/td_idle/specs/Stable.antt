-- The stable vector: the operations that every site is known to have (causal stability; Wuu and Bernstein 1984,
-- Baquero et al. 2014).
use Rattle.std.specs.Prelude.{ℕ, zero, suc, List, [], ◌∷◌, min, replicate, slice_get}
use Rattle.std.specs.Prelude.{Option, Some, None, if◌then◌else◌, ◌==◌}
use Rattle.td_clock.specs.Vector.{vector_set}
use Rattle.td_op.specs.Op.{OpValue}
use Rattle.td_machine.specs.Counts.{ops_of}
use Rattle.td_machine.specs.Machine.{Machine}

-- the lesser number in each place
abbrev pub vector_meet : List ℕ → List ℕ → List ℕ
vector_meet v [] = []
vector_meet [] (n ∷ w) = []
vector_meet (m ∷ v) (n ∷ w) = min m n ∷ vector_meet v w

-- what the site of an operation had right after it
abbrev pub had_after : OpValue → List ℕ
had_after x = vector_set x.deps x.dot.site x.dot.seq

abbrev pub had_by : ℕ → Option OpValue → List ℕ
had_by size None = replicate size 0
had_by size (Some x) = had_after x

-- what a site is known to have: this one what it has, another what it had right after its last operation that came
-- here
abbrev pub known_of : Machine → ℕ → List ℕ
known_of m site = if site == m.site then m.have else had_by m.size (slice_get (ops_of site m.log) 0)

-- what this site and each of the sites 1 to k are known to have
abbrev pub stable_upto : Machine → ℕ → List ℕ
stable_upto m zero = m.have
stable_upto m (suc k) = vector_meet (stable_upto m k) (known_of m (suc k))

-- what each site is known to have
abbrev pub stable : Machine → List ℕ
stable m = stable_upto m m.size
