use Rattle.std.proofs.Common.{◌≡◌, length, subst, arith}
use Rattle.td_history.specs.Ramps.{RampsValue}
use Rattle.td_history.proofs.RampPlaces.{items_len}
use Rattle.td_history.proofs.ramps.Ramps.len.Goals as goal

pub returns : goal.returns
returns g c =
    let len = items_len g.T.GoesOn.on 0 c.self.inside.ramps.items c.self.inside.len c.self.invariant.ramps in
    subst (λ (v : RampsValue g.row.T.Denot). c.self.inside.len ≡ length v.items) c.self.view_is (omega (arith, len))
