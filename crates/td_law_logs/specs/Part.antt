-- Sets of operations of a family.
use Rattle.std.specs.Prelude.{List, IsTrue}
use Rattle.td_base.specs.Lists.{In}
use Rattle.td_op.specs.Op.{OpValue}
use Rattle.td_op.specs.Past.{in_past}
use Rattle.td_machine.specs.History.{Family, IsOpOf}
use Rattle.td_order.specs.LineUp.{DotsDiffer}

-- operations of the family, each once, that have the past of each of them
pub record IsPartOf (family : Family) (ops : List OpValue) : Type 0 where
  pub apart : DotsDiffer ops
  pub inside : (x : OpValue) → In x ops → IsOpOf family x
  pub pasts : (x y : OpValue) → In x ops → IsOpOf family y → IsTrue (in_past y x) → In y ops
