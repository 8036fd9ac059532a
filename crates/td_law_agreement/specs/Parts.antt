-- What is promised of the one order.
use Rattle.std.specs.Prelude.{List}
use Rattle.td_base.specs.Lists.{In, IsSublist}
use Rattle.td_op.specs.Op.{OpValue}
use Rattle.td_machine.specs.History.{Family, Moment, machine_at}
use Rattle.td_order.specs.Order.{order}
use Rattle.td_law_logs.specs.Part.{IsPartOf}
use Rattle.td_law_logs.specs.AllOps.{all_ops}

-- of two parts of the family of which the one is in the other, the one has the order of the other, with atoms left out
abbrev pub PartsKeepOrder : Family → Type 0
PartsKeepOrder family =
    (part ops : List OpValue) → IsPartOf family part → IsPartOf family ops → ((x : OpValue) → In x part → In x ops)
    → IsSublist (order part) (order ops)

-- at every moment a site has the order of all operations of the family, with atoms left out
abbrev pub StableOrder : Family → Type 0
StableOrder family = (t : Moment family) → IsSublist (order (machine_at family t).log) (order (all_ops family))
