use Rattle.std.proofs.Common.{◌<◌, length, sym, subst, arith}
use Rattle.std.proofs.lemmas.Option.{slice_get_past}
use Rattle.td_history.specs.Ramps.{RampsValue, items_in}
use Rattle.td_history.proofs.RampPlaces.{items_len}
use Rattle.td_history.proofs.ramps.Ramps.get.Goals as goal

pub returns-then-k-self : goal.returns-then-k-self
returns-then-k-self g c =
    let ramps = c.self.inside.ramps.items in
    let len = items_len g.T.GoesOn.on 0 ramps c.self.inside.len c.self.invariant.ramps in
    rw (sym c.self.view_is) (sym (slice_get_past (items_in g.T.GoesOn.on ramps c.self.inside.len) c.args.k
    (omega (arith, len, c.if-k-self.true))))

pub at-requires : goal.at-requires
at-requires g c =
    let ramps = c.self.inside.ramps.items in
    let len = items_len g.T.GoesOn.on 0 ramps c.self.inside.len c.self.invariant.ramps in
    subst (λ (v : RampsValue g.row.T.Denot). c.args.k < length v.items) c.self.view_is
    (omega (arith, len, c.if-k-self.false))
