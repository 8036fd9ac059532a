use Rattle.std.proofs.Common.{◌≡◌, ◌<◌, ◌∙◌, ◌+◌, ◌^◌, List, ap, arith, subst, take}
use Rattle.std.specs.List.{All, concat, flat_map}
use Rattle.td_base.specs.Atom.{IsAtom}
use Rattle.td_rope.specs.AmongParts.{IsAmongParts}
use Rattle.td_rope.specs.Units.{offset_of, width}
use Rattle.td_rope.proofs.Offsets.{offset_seated}
use Rattle.td_rope.proofs.Sizes.{front_small}
use Rattle.td_rope.proofs.row.RowPart.offset_of.Goals as goal

pub returns : goal.returns
returns g c =
    let f = g.P.Part.atoms in
    let ps = c.self.inside.parts.items in
    let s = c.find-seat.result in
    let unit = c.args.unit in
    let seat = subst (λ (xs : List _). IsAmongParts f xs c.args.index s.part s.index) c.deref.ensures.value
    c.find-seat.ensures in
    let before = c.width_in.ensures ∙ c.total-before.ensures.widths unit
    ∙ ap (λ (xs : List _). width unit (concat (flat_map f (take s.part xs)))) c.deref-2.ensures.value in
    (λ i. before i + c.offset_of.ensures i)
    ∙ offset_seated f ps c.args.self.now s.part s.index c.args.index c.index.result.now unit seat c.self.view_is
    c.index.ensures

pub overflow_add-result : goal.overflow_add-result
overflow_add-result g c =
    let f = g.P.Part.atoms in
    let ps = c.self.inside.parts.items in
    let s = c.find-seat.result in
    let unit = c.args.unit in
    let seat = subst (λ (xs : List _). IsAmongParts f xs c.args.index s.part s.index) c.deref.ensures.value
    c.find-seat.ensures in
    let before = c.width_in.ensures ∙ c.total-before.ensures.widths unit
    ∙ ap (λ (xs : List _). width unit (concat (flat_map f (take s.part xs)))) c.deref-2.ensures.value in
    let sum : c.width_in.result + c.offset_of.result ≡ offset_of unit c.args.self.now c.args.index =
    (λ i. before i + c.offset_of.ensures i)
    ∙ offset_seated f ps c.args.self.now s.part s.index c.args.index c.index.result.now unit seat c.self.view_is
    c.index.ensures in
    let few : offset_of unit c.args.self.now c.args.index < 2 ^ 63 =
    front_small unit c.args.self.now c.args.index (subst (All IsAtom) c.self.view_is c.self.invariant.each)
    (omega (arith, c.ranges.index.fits)) in
    omega (arith, sum, few)
