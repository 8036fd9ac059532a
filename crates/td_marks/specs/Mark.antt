-- Marks on atoms: for each atom and name an observed-remove set of adds (Shapiro et al. 2011). An add that a removal
-- had not seen stays.
use Rattle.std.specs.Prelude.{◌+◌, ◌^◌, ◌&&◌, ◌==◌, ℕ, zero, suc, List, Bool, not, if◌then◌else◌}
use Rattle.std.specs.List.{list_any}
use Rattle.td_base.specs.Value.{DotValue, AtomIdValue}
use Rattle.td_base.specs.Equality.{same_id}
use Rattle.td_clock.specs.Vector.{vector_has}
use Rattle.td_marks.specs.declared.mark_op.TheConstants.{NAMES}

-- an operation on marks: how many such operations of each site its maker had just before, whether it adds or removes,
-- the name, and the atoms
pub record MarkOpValue : Type 0 where
  pub dot : DotValue
  pub seen : List ℕ
  pub add : Bool
  pub name : ℕ
  pub atoms : List AtomIdValue

-- it is about this name of this atom
abbrev pub is_about : AtomIdValue → ℕ → MarkOpValue → Bool
is_about x m o = o.name == m && list_any (λ (y : AtomIdValue). same_id y x) o.atoms

abbrev pub adds : AtomIdValue → ℕ → MarkOpValue → Bool
adds x m o = o.add && is_about x m o

-- it removes the name, and had seen the operation with this dot
abbrev pub removes : AtomIdValue → ℕ → DotValue → MarkOpValue → Bool
removes x m d o = (not o.add && is_about x m o) && vector_has o.seen d

-- the atom has the name: an operation adds it, and no removal had seen that
abbrev pub has_name : List MarkOpValue → AtomIdValue → ℕ → Bool
has_name ops x m = list_any (λ (a : MarkOpValue). adds x m a && not (list_any (removes x m a.dot) ops)) ops

-- the number of so many bits that are set where the test holds
abbrev pub bits_below : ℕ → (ℕ → Bool) → ℕ
bits_below zero has = 0
bits_below (suc m) has = bits_below m has + (if has m then 2 ^ m else 0)

-- the names of an atom, a bit for each
abbrev pub names_of : List MarkOpValue → AtomIdValue → ℕ
names_of ops x = bits_below NAMES (has_name ops x)
