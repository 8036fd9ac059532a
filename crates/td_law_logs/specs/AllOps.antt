-- All operations of a family, each once.
use Rattle.std.specs.Prelude.{zero, suc, ◌↔◌, ◌++◌, ℕ, List, [], length}
use Rattle.td_base.specs.Lists.{In}
use Rattle.td_op.specs.Op.{OpValue}
use Rattle.td_machine.specs.Counts.{ops_of}
use Rattle.td_machine.specs.History.{log_of, Family, IsOpOf}
use Rattle.td_order.specs.LineUp.{DotsDiffer}

-- all operations of the family, each once
pub record IsAllOf (family : Family) (ops : List OpValue) : Type 0 where
  pub apart : DotsDiffer ops
  pub is : (x : OpValue) → In x ops ↔ IsOpOf family x

-- what the first k sites made
abbrev pub ops_upto : Family → ℕ → List OpValue
ops_upto family zero = []
ops_upto family (suc k) = ops_of (suc k) (log_of family (suc k)) ++ ops_upto family k

abbrev pub all_ops : Family → List OpValue
all_ops family = ops_upto family (length family)
