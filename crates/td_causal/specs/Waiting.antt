-- What waits: for each dot the number by which its keeper has the operation stored, in the order of the dots.
use Rattle.std.specs.Prelude.{◌≡◌, ℕ, List, [], ◌∷◌, length, filter, Bool, not, ◌&&◌, ◌==◌, if◌then◌else◌}
use Rattle.std.specs.Prelude.{Option, Some, slice_get, is_some}
use Rattle.std.specs.List.{AllByRecursion, filter_map}
use Rattle.std.specs.Map.{lookup}
use Rattle.td_base.specs.Value.{DotValue}
use Rattle.td_base.specs.Order.{dot_lt}
use Rattle.td_base.specs.Equality.{same_dot}
use Rattle.td_op.specs.Op.{OpValue, IsOp}
use Rattle.td_machine.specs.Ready.{is_ready}

abbrev pub Numbers : Type 0
Numbers = List (DotValue × ℕ)

-- the operations themselves, as a machine has them, from the stored ones
abbrev pub ops_waiting : List OpValue → Numbers → List OpValue
ops_waiting ops waiting = filter_map (λ (w : DotValue × ℕ). slice_get ops w.1) waiting

-- the number stored at a dot is that of an operation with the dot, which is one of so many sites
pub record IsStored (n : ℕ) (ops : List OpValue) (w : DotValue × ℕ) : Type 0 where
  pub op : OpValue
  pub found : slice_get ops w.1 ≡ Some op
  pub dot : w.0 ≡ op.dot
  pub is : IsOp op
  pub size : length op.deps ≡ n

abbrev pub AreStored : ℕ → List OpValue → Numbers → Type 0
AreStored n ops waiting = AllByRecursion (IsStored n ops) waiting

-- the number of the operation with the dot, where it waits
abbrev pub number_of : DotValue → Numbers → Option ℕ
number_of d waiting = lookup (λ (e : DotValue). same_dot e d) waiting

abbrev pub is_kept : DotValue → Numbers → Bool
is_kept d waiting = is_some (number_of d waiting)

-- one more, put in the order of dots
abbrev pub put_in_order : DotValue × ℕ → Numbers → Numbers
put_in_order w [] = w ∷ []
put_in_order w (v ∷ waiting) = if dot_lt v.0 w.0 then v ∷ put_in_order w waiting else w ∷ v ∷ waiting

-- those of other dots
abbrev pub others_than : DotValue → Numbers → Numbers
others_than d waiting = filter (λ (w : DotValue × ℕ). not (same_dot w.0 d)) waiting

-- the operation is one of the site, and ready
abbrev pub is_ready_of : ℕ → List ℕ → OpValue → Bool
is_ready_of site have x = x.dot.site == site && is_ready have x
