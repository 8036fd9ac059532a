use Rattle.std.proofs.Common.{◌≡◌, ◌∙◌, List, ℕ, sym, ap, set, subst, length, arith}
use Rattle.std.specs.List.{flat_map, insert_slice}
use Rattle.std.proofs.lemmas.List.Folds.{length-flat_map-take}
use Rattle.td_rope.specs.AmongParts.{IsAmongParts}
use Rattle.td_rope.specs.Sizes.{IsSize, IsSmall, minus, plus}
use Rattle.td_rope.specs.declared.size.Size.{Size}
use Rattle.td_rope.proofs.Joined.{length_put, put_part, same_part}
use Rattle.td_rope.proofs.Results.{on_err}
use Rattle.td_rope.proofs.Sizes.{changed_size, changed_within, small}
use Rattle.td_rope.proofs.row.RowPart.put.Goals as goal

pub put-requires-clause-few : goal.put-requires-clause-few
put-requires-clause-few g c =
    let f = g.P.Part.atoms in
    let ps = c.make_room.new.parts.items in
    let s = c.find-seat.result in
    let d = c.index_mut.result.now in
    let all : flat_map f ps ≡ c.args.self.now = c.make_room.ensures.same ∙ c.self.view_is in
    let seat = subst (λ (q : List _). IsAmongParts f q c.args.index s.part s.index) c.deref.ensures.value
    c.find-seat.ensures in
    let has : length (f d) ≡ _ = ap (λ p. length (f p)) c.index_mut.ensures.value in
    omega (arith, has, length-flat_map-take f ps s.part d seat.part_within, ap length all, c.requires.few)

pub invariant_of-self-in_err-put : goal.invariant_of-self-in_err-put
invariant_of-self-in_err-put g c =
    let f = g.P.Part.atoms in
    let ps = c.make_room.new.parts.items in
    let s = c.find-seat.result in
    let seat = subst (λ (q : List _). IsAmongParts f q c.args.index s.part s.index) c.deref.ensures.value
    c.find-seat.ensures in
    subst (λ (atoms : List (List ℕ)). IsSize atoms c.self.inside.size)
    (sym (same_part f ps s.part c.index_mut.result.now c.put.new.self seat.part_within
    (c.in_err-put.ensures.err ∙ ap f c.index_mut.ensures.value) ∙ c.make_room.ensures.same)) c.self.invariant

pub returns-in_err-put-clause-err : goal.returns-in_err-put-clause-err
returns-in_err-put-clause-err g c =
    let f = g.P.Part.atoms in
    let ps = c.make_room.new.parts.items in
    let s = c.find-seat.result in
    let seat = subst (λ (q : List _). IsAmongParts f q c.args.index s.part s.index) c.deref.ensures.value
    c.find-seat.ensures in
    on_err c.from_residual-in_err-put.result _
    (same_part f ps s.part c.index_mut.result.now c.put.new.self seat.part_within
    (c.in_err-put.ensures.err ∙ ap f c.index_mut.ensures.value) ∙ c.make_room.ensures.same ∙ c.self.view_is)

pub minus-requires : goal.minus-requires
minus-requires g c =
    let f = g.P.Part.atoms in
    let ps = c.make_room.new.parts.items in
    let s = c.find-seat.result in
    let seat = subst (λ (q : List _). IsAmongParts f q c.args.index s.part s.index) c.deref.ensures.value
    c.find-seat.ensures in
    changed_within f ps s.part c.index.result.now c.self.inside.size c.size-before.result seat.part_within
    c.index.ensures
    (subst (λ (atoms : List (List ℕ)). IsSize atoms c.self.inside.size) (sym c.make_room.ensures.same)
    c.self.invariant)
    c.size-before.ensures

pub plus-self-inside-requires : goal.plus-self-inside-requires
plus-self-inside-requires g c =
    let f = g.P.Part.atoms in
    let ps = c.make_room.new.parts.items in
    let s = c.find-seat.result in
    let q = c.put.new.self in
    let all : flat_map f ps ≡ c.args.self.now = c.make_room.ensures.same ∙ c.self.view_is in
    let seat = subst (λ (q : List _). IsAmongParts f q c.args.index s.part s.index) c.deref.ensures.value
    c.find-seat.ensures in
    let done : flat_map f (set ps s.part q) ≡ insert_slice c.args.self.now c.args.index c.args.run.now =
    put_part f ps s.part c.index_mut.result.now q c.args.run.now s.index c.args.index seat c.index_mut.ensures.value
    c.in_ok-put.ensures.ok
    ∙ ap (λ (xs : List (List ℕ)). insert_slice xs c.args.index c.args.run.now) all in
    subst (λ (m : Size). IsSmall (plus m c.size-after.result)) (sym c.minus.ensures)
    (small (flat_map f (set ps s.part q)) (plus (minus c.self.inside.size c.size-before.result) c.size-after.result)
    (changed_size f ps s.part c.index.result.now q c.index-2.result.now c.self.inside.size c.size-before.result
    c.size-after.result seat.part_within c.index.ensures c.index-2.ensures
    (subst (λ (atoms : List (List ℕ)). IsSize atoms c.self.inside.size) (sym c.make_room.ensures.same)
    c.self.invariant)
    c.size-before.ensures c.size-after.ensures)
    (omega (
      arith,
      ap length done,
      length_put c.args.self.now c.args.run.now c.args.index c.requires.index,
      c.requires.few,
    )))

pub invariant_of-self-2 : goal.invariant_of-self-2
invariant_of-self-2 g c =
    let f = g.P.Part.atoms in
    let ps = c.make_room.new.parts.items in
    let s = c.find-seat.result in
    let q = c.put.new.self in
    let seat = subst (λ (q : List _). IsAmongParts f q c.args.index s.part s.index) c.deref.ensures.value
    c.find-seat.ensures in
    subst (IsSize (flat_map f (set ps s.part q)))
    (sym (c.plus-self-inside.ensures ∙ ap (λ (m : Size). plus m c.size-after.result) c.minus.ensures))
    (changed_size f ps s.part c.index.result.now q c.index-2.result.now c.self.inside.size c.size-before.result
    c.size-after.result seat.part_within c.index.ensures c.index-2.ensures
    (subst (λ (atoms : List (List ℕ)). IsSize atoms c.self.inside.size) (sym c.make_room.ensures.same)
    c.self.invariant)
    c.size-before.ensures c.size-after.ensures)

pub returns-clause-ok : goal.returns-clause-ok
returns-clause-ok g c =
    let f = g.P.Part.atoms in
    let ps = c.make_room.new.parts.items in
    let s = c.find-seat.result in
    let all : flat_map f ps ≡ c.args.self.now = c.make_room.ensures.same ∙ c.self.view_is in
    let seat = subst (λ (q : List _). IsAmongParts f q c.args.index s.part s.index) c.deref.ensures.value
    c.find-seat.ensures in
    put_part f ps s.part c.index_mut.result.now c.put.new.self c.args.run.now s.index c.args.index seat
    c.index_mut.ensures.value c.in_ok-put.ensures.ok
    ∙ ap (λ (xs : List (List ℕ)). insert_slice xs c.args.index c.args.run.now) all
