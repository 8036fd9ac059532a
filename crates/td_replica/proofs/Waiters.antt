-- The least ready operation of those that wait: it was offered, and is taken where it fits.
use Rattle.std.proofs.Common.{◌≡◌, filter, Some, None}
use Rattle.td_base.proofs.Lists.{In-filter}
use Rattle.td_op.specs.Op.{OpValue}
use Rattle.td_machine.specs.Machine.{Machine}
use Rattle.td_machine.specs.Ready.{is_ready, next_ready}
use Rattle.td_machine.specs.Taking.{misfit}
use Rattle.td_machine.specs.Parts.{Anything, IsBuilt, IsFit}
use Rattle.td_machine.proofs.StepKinds.{least_in}
use Rattle.td_machine.proofs.Walk.{offered}

pub least_fit : (m : Machine) → IsBuilt Anything m.site m.size m → (x : OpValue) → next_ready m.have m.waiting ≡ Some x
    → misfit x m ≡ None → IsFit Anything m x
least_fit m b x e fit =
    let found = In-filter (is_ready m.have) x m.waiting (least_in (filter (is_ready m.have) m.waiting) x e) in
    record { offered = offered m b x found.0; ready = found.1; fit = fit }
