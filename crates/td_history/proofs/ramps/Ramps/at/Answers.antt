use Rattle.std.proofs.Common.{◌≡◌, ◌≤◌, ◌∙◌, length, Some, sym, ap, subst, arith}
use Rattle.std.specs.List.{slice_get}
use Rattle.td_history.specs.Ramps.{RampsValue}
use Rattle.td_history.proofs.RampPlaces.{place_found, last_begins, item_behind}
use Rattle.td_history.proofs.ramps.Ramps.at.Goals as goal

pub overflow_sub-begun : goal.overflow_sub-begun
overflow_sub-begun g c =
    let found =
    place_found c.self.inside.len c.args.k g.T.GoesOn.on _ _ _ c.begun.result c.deref.ensures.value
    c.self.invariant.ramps (ap (λ (v : RampsValue g.row.T.Denot). v.items) c.self.view_is) c.requires
    c.begun.ensures.point in
    found.1

pub overflow_cast-ramp : goal.overflow_cast-ramp
overflow_cast-ramp g c =
    let found =
    place_found c.self.inside.len c.args.k g.T.GoesOn.on _ _ _ c.begun.result c.deref.ensures.value
    c.self.invariant.ramps (ap (λ (v : RampsValue g.row.T.Denot). v.items) c.self.view_is) c.requires
    c.begun.ensures.point in
    let below =
    last_begins c.self.inside.len c.args.k c.self.inside.ramps.items c.begun.result c.index-ramp.result.now
    c.index-ramp.result.now found.1 found.2 c.index-ramp.ensures in
    omega (arith, below, c.ranges.k.fits)

pub overflow_sub-k : goal.overflow_sub-k
overflow_sub-k g c =
    let found =
    place_found c.self.inside.len c.args.k g.T.GoesOn.on _ _ _ c.begun.result c.deref.ensures.value
    c.self.invariant.ramps (ap (λ (v : RampsValue g.row.T.Denot). v.items) c.self.view_is) c.requires
    c.begun.ensures.point in
    last_begins c.self.inside.len c.args.k c.self.inside.ramps.items c.begun.result c.index-ramp.result.now
    c.index-ramp.result.now found.1 found.2 c.index-ramp.ensures

pub overflow_cast-k : goal.overflow_cast-k
overflow_cast-k g c =
    let found =
    place_found c.self.inside.len c.args.k g.T.GoesOn.on _ _ _ c.begun.result c.deref.ensures.value
    c.self.invariant.ramps (ap (λ (v : RampsValue g.row.T.Denot). v.items) c.self.view_is) c.requires
    c.begun.ensures.point in
    omega (arith, found.0, c.self.invariant.few)

pub returns : goal.returns
returns g c =
    let found =
    place_found c.self.inside.len c.args.k g.T.GoesOn.on _ _ _ c.begun.result c.deref.ensures.value
    c.self.invariant.ramps (ap (λ (v : RampsValue g.row.T.Denot). v.items) c.self.view_is) c.requires
    c.begun.ensures.point in
    let bound = subst (λ z. c.begun.result ≤ length z) c.deref.ensures.value c.begun.ensures.bound in
    subst (λ (v : RampsValue g.row.T.Denot). slice_get v.items c.args.k ≡ Some c.on.result) c.self.view_is
    (item_behind c.self.inside.len c.args.k g.T.GoesOn.on c.self.inside.ramps.items c.begun.result
    c.index-ramp.result.now c.index-ramp.result.now c.self.invariant.ramps found.0 bound found.2 c.index-ramp.ensures
    ∙ ap Some (sym c.on.ensures))
