use Rattle.std.proofs.Common.{◌≡◌, ◌∙◌, ◌<◌, List, ℕ, sym, ap, set, subst, length, arith}
use Rattle.std.specs.List.{flat_map, remove}
use Rattle.std.proofs.lemmas.List.{length-set}
use Rattle.td_rope.specs.AmongParts.{IsAmongParts}
use Rattle.td_rope.specs.Sizes.{IsSize, IsSmall, minus, plus}
use Rattle.td_rope.specs.declared.size.Size.{Size}
use Rattle.td_rope.proofs.Joined.{empty_part, length_removed, taken_from_part}
use Rattle.td_rope.proofs.Sizes.{changed_size, changed_within, small}
use Rattle.td_rope.proofs.row.RowPart.take_out.Goals as goal

pub minus-requires : goal.minus-requires
minus-requires g c =
    let f = g.P.Part.atoms in
    let ps = c.self.inside.parts.items in
    let s = c.find-seat.result in
    let seat = subst (λ (xs : List _). IsAmongParts f xs c.args.index s.part s.index) c.deref.ensures.value
    c.find-seat.ensures in
    changed_within f ps s.part c.index.result.now c.self.inside.size c.size-before.result seat.part_within
    c.index.ensures c.self.invariant c.size-before.ensures

pub plus-self-inside-requires : goal.plus-self-inside-requires
plus-self-inside-requires g c =
    let f = g.P.Part.atoms in
    let ps = c.self.inside.parts.items in
    let s = c.find-seat.result in
    let q = c.take_out.new.self in
    let within : c.args.index < length (flat_map f ps) = omega (arith, c.requires, ap length c.self.view_is) in
    let seat = subst (λ (xs : List _). IsAmongParts f xs c.args.index s.part s.index) c.deref.ensures.value
    c.find-seat.ensures in
    let done : flat_map f (set ps s.part q) ≡ remove (flat_map f ps) c.args.index =
    taken_from_part f ps s.part c.index_mut.result.now q s.index c.args.index seat within c.index_mut.ensures.value
    c.take_out.ensures in
    subst (λ (m : Size). IsSmall (plus m c.size-after.result)) (sym c.minus.ensures)
    (small (flat_map f (set ps s.part q)) (plus (minus c.self.inside.size c.size-before.result) c.size-after.result)
    (changed_size f ps s.part c.index.result.now q c.index-2.result.now c.self.inside.size c.size-before.result
    c.size-after.result seat.part_within c.index.ensures c.index-2.ensures c.self.invariant c.size-before.ensures
    c.size-after.ensures)
    (omega (
      arith,
      ap length done,
      length_removed (flat_map f ps) c.args.index within,
      c.self.invariant.count,
      c.self.ranges,
    )))

pub invariant_of-self : goal.invariant_of-self
invariant_of-self g c =
    let f = g.P.Part.atoms in
    let ps = c.self.inside.parts.items in
    let s = c.find-seat.result in
    let q = c.take_out.new.self in
    let seat = subst (λ (xs : List _). IsAmongParts f xs c.args.index s.part s.index) c.deref.ensures.value
    c.find-seat.ensures in
    let within : s.part < length (set ps s.part q) = omega (arith, seat.part_within, length-set ps s.part q) in
    subst (IsSize (flat_map f c.remove.new.self.items))
    (sym (c.plus-self-inside.ensures ∙ ap (λ (m : Size). plus m c.size-after.result) c.minus.ensures))
    (subst (λ (atoms : List (List ℕ)). IsSize atoms (plus (minus c.self.inside.size c.size-before.result)
    c.size-after.result))
    (sym (ap (flat_map f) c.remove.ensures.items
    ∙ empty_part f (set ps s.part q) s.part c.index-2.result.now within c.index-2.ensures
    (sym c.size-after.ensures.count ∙ c.if-after-eq0.true)))
    (changed_size f ps s.part c.index.result.now q c.index-2.result.now c.self.inside.size c.size-before.result
    c.size-after.result seat.part_within c.index.ensures c.index-2.ensures c.self.invariant c.size-before.ensures
    c.size-after.ensures))

pub invariant_of-self-else-after-eq0 : goal.invariant_of-self-else-after-eq0
invariant_of-self-else-after-eq0 g c =
    let f = g.P.Part.atoms in
    let ps = c.self.inside.parts.items in
    let s = c.find-seat.result in
    let q = c.take_out.new.self in
    let seat = subst (λ (xs : List _). IsAmongParts f xs c.args.index s.part s.index) c.deref.ensures.value
    c.find-seat.ensures in
    subst (IsSize (flat_map f (set ps s.part q)))
    (sym (c.plus-self-inside.ensures ∙ ap (λ (m : Size). plus m c.size-after.result) c.minus.ensures))
    (changed_size f ps s.part c.index.result.now q c.index-2.result.now c.self.inside.size c.size-before.result
    c.size-after.result seat.part_within c.index.ensures c.index-2.ensures c.self.invariant c.size-before.ensures
    c.size-after.ensures)

pub returns-then-after-eq0 : goal.returns-then-after-eq0
returns-then-after-eq0 g c =
    let f = g.P.Part.atoms in
    let ps = c.self.inside.parts.items in
    let s = c.find-seat.result in
    let q = c.take_out.new.self in
    let within : c.args.index < length (flat_map f ps) = omega (arith, c.requires, ap length c.self.view_is) in
    let seat = subst (λ (xs : List _). IsAmongParts f xs c.args.index s.part s.index) c.deref.ensures.value
    c.find-seat.ensures in
    let there : s.part < length (set ps s.part q) = omega (arith, seat.part_within, length-set ps s.part q) in
    ap (flat_map f) c.remove.ensures.items
    ∙ empty_part f (set ps s.part q) s.part c.index-2.result.now there c.index-2.ensures
    (sym c.size-after.ensures.count ∙ c.if-after-eq0.true)
    ∙ taken_from_part f ps s.part c.index_mut.result.now q s.index c.args.index seat within c.index_mut.ensures.value
    c.take_out.ensures
    ∙ ap (λ (xs : List (List ℕ)). remove xs c.args.index) c.self.view_is

pub returns-else-after-eq0 : goal.returns-else-after-eq0
returns-else-after-eq0 g c =
    let f = g.P.Part.atoms in
    let ps = c.self.inside.parts.items in
    let s = c.find-seat.result in
    let within : c.args.index < length (flat_map f ps) = omega (arith, c.requires, ap length c.self.view_is) in
    let seat = subst (λ (xs : List _). IsAmongParts f xs c.args.index s.part s.index) c.deref.ensures.value
    c.find-seat.ensures in
    taken_from_part f ps s.part c.index_mut.result.now c.take_out.new.self s.index c.args.index seat within
    c.index_mut.ensures.value c.take_out.ensures
    ∙ ap (λ (xs : List (List ℕ)). remove xs c.args.index) c.self.view_is
