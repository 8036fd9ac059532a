use Rattle.std.proofs.Common.{◌-◌, ◌∙◌, length, sym, arith}
use Rattle.td_history.proofs.RampPlaces.{start_below, next_of_last}
use Rattle.td_history.proofs.ramps.goes_on.Goals as goal

pub overflow_sub-len : goal.overflow_sub-len
overflow_sub-len g c =
    let below =
    start_below 0 c.args.ramps.now c.args.len (length c.args.ramps.now - 1) c.in-Some.last.now c.requires
    (sym c.in-Some.ensures.value) in
    omega (arith, below)

pub returns-in-Some : goal.returns-in-Some
returns-in-Some g c =
    λ h. next_of_last g.T.GoesOn.on c.args.len c.args.item c.args.ramps.now c.in-Some.last.now
    (sym c.in-Some.ensures.value)
    (sym c.on.ensures ∙ g.met.T.GoesOn.same c.on.result c.args.item (sym c.eq.ensures ∙ h))
