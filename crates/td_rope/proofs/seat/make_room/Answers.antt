use Rattle.std.proofs.Common.{◌<◌, length, ap, ◌∙◌, arith}
use Rattle.std.specs.Prelude.{IsOk}
use Rattle.std.specs.List.{flat_map}
use Rattle.td_rope.proofs.Joined.{same_part, two_parts}
use Rattle.td_rope.proofs.seat.make_room.Goals as goal

pub returns-in_err-rest-clause-same : goal.returns-in_err-rest-clause-same
returns-in_err-rest-clause-same g c =
    let f = g.P.Part.atoms in
    let ps = c.reserve.new.self.items in
    let d = c.index_mut.result.now in
    let within : c.find-seat.result.part < length ps =
    omega (arith, c.find-seat.ensures.part_within, ap length c.deref.ensures.value, ap length c.reserve.ensures.items)
    in
    same_part f ps c.find-seat.result.part d c.part.new.self within
    (c.in_err-rest.ensures.err ∙ ap f c.index_mut.ensures.value)
    ∙ ap (flat_map f) c.reserve.ensures.items

pub returns-clause-same : goal.returns-clause-same
returns-clause-same g c =
    let f = g.P.Part.atoms in
    let ps = c.reserve.new.self.items in
    let d = c.index_mut.result.now in
    let within : c.find-seat.result.part < length ps =
    omega (arith, c.find-seat.ensures.part_within, ap length c.deref.ensures.value, ap length c.reserve.ensures.items)
    in
    let ok : IsOk c.insert.result = c.insert.ensures.succeeds (omega (arith, c.in_ok-reserve.ensures.ok)) in
    rw (c.insert.ensures.items, ok)
    (two_parts f ps c.find-seat.result.part d c.part.new.self c.in_ok-rest.rest within
    (c.in_ok-rest.ensures.ok ∙ ap f c.index_mut.ensures.value)
    ∙ ap (flat_map f) c.reserve.ensures.items)
