use Rattle.std.proofs.Common.{subst, List}
use Rattle.td_history.specs.declared.ramps.Ramp.{Ramp}
use Rattle.td_history.specs.Ramps.{IsNextOfRamp}
use Rattle.td_history.proofs.RampPlaces.{ramp_put, put_ramps, ramp_on, on_ramps}
use Rattle.td_history.proofs.ramps.push_item.Goals as goal

pub returns-then-not-goes_on-clause-items : goal.returns-then-not-goes_on-clause-items
returns-then-not-goes_on-clause-items g c =
    rw c.push_reserved.ensures.items
    (ramp_put g.T.GoesOn.on c.args.len c.args.item (g.met.T.GoesOn.first c.args.item) c.args.ramps.now.items)

pub returns-then-not-goes_on-clause-ramps : goal.returns-then-not-goes_on-clause-ramps
returns-then-not-goes_on-clause-ramps g c =
    rw c.push_reserved.ensures.items
    (put_ramps g.T.GoesOn.on c.args.len c.args.item 0 c.args.ramps.now.items c.requires.ramps)

pub returns-else-not-goes_on-clause-items : goal.returns-else-not-goes_on-clause-items
returns-else-not-goes_on-clause-items g c =
    ramp_on g.T.GoesOn.on c.args.len c.args.item 0 c.args.ramps.now.items c.requires.ramps
    (subst (λ (z : List (Ramp g.row.T.Denot)). IsNextOfRamp g.T.GoesOn.on z c.args.len c.args.item)
    c.deref.ensures.value (c.goes_on.ensures c.if-not-goes_on.false))

pub returns-else-not-goes_on-clause-ramps : goal.returns-else-not-goes_on-clause-ramps
returns-else-not-goes_on-clause-ramps g c =
    on_ramps g.T.GoesOn.on c.args.len c.args.item 0 c.args.ramps.now.items c.requires.ramps
    (subst (λ (z : List (Ramp g.row.T.Denot)). IsNextOfRamp g.T.GoesOn.on z c.args.len c.args.item)
    c.deref.ensures.value (c.goes_on.ensures c.if-not-goes_on.false))
