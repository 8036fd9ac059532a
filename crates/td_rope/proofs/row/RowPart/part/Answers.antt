use Rattle.std.proofs.Common.{◌≡◌, ◌++◌, ◌∙◌, List, ap, subst, sym, take, drop, length, arith, length-append}
use Rattle.std.specs.List.{flat_map}
use Rattle.td_rope.specs.Sizes.{IsSize, minus}
use Rattle.td_rope.proofs.Joined.{joined_parted}
use Rattle.td_rope.proofs.Sizes.{cut_left, cut_within}
use Rattle.td_rope.proofs.row.RowPart.part.Goals as goal

pub total-size-requires : goal.total-size-requires
total-size-requires g c =
    let f = g.P.Part.atoms in
    let ps = c.self.inside.parts.items in
    let cut = c.cut_beside-cut.result in
    let rest : c.deref-2.result.now ≡ drop cut ps = c.deref-2.ensures.value ∙ c.in_ok-parts.ensures.tail in
    omega (
      arith,
      ap (λ xs. length (flat_map f xs)) rest,
      ap length (joined_parted f ps cut),
      length-append (flat_map f (take cut ps)) (flat_map f (drop cut ps)),
      c.self.invariant.count,
      c.self.ranges,
    )

pub minus-self-inside-requires : goal.minus-self-inside-requires
minus-self-inside-requires g c =
    let f = g.P.Part.atoms in
    let ps = c.self.inside.parts.items in
    let cut = c.cut_beside-cut.result in
    let rest : c.deref-2.result.now ≡ drop cut ps = c.deref-2.ensures.value ∙ c.in_ok-parts.ensures.tail in
    cut_within f ps cut c.self.inside.size c.total-size.result c.self.invariant
    (subst (λ (xs : List _). IsSize (flat_map f xs) c.total-size.result) rest c.total-size.ensures)

pub invariant_of-self-2 : goal.invariant_of-self-2
invariant_of-self-2 g c =
    let f = g.P.Part.atoms in
    let ps = c.self.inside.parts.items in
    let cut = c.cut_beside-cut.result in
    let front : c.split_off.new.self.items ≡ take cut ps = c.in_ok-parts.ensures.items in
    let rest : c.deref-2.result.now ≡ drop cut ps = c.deref-2.ensures.value ∙ c.in_ok-parts.ensures.tail in
    subst (IsSize (flat_map f c.split_off.new.self.items)) (sym c.minus-self-inside.ensures)
    (subst (λ (xs : List _). IsSize (flat_map f xs) (minus c.self.inside.size c.total-size.result)) (sym front)
    (cut_left f ps cut c.self.inside.size c.total-size.result c.self.invariant
    (subst (λ (xs : List _). IsSize (flat_map f xs) c.total-size.result) rest c.total-size.ensures)))

pub returns-clause-ok : goal.returns-clause-ok
returns-clause-ok g c =
    let f = g.P.Part.atoms in
    let ps = c.self.inside.parts.items in
    let cut = c.cut_beside-cut.result in
    let front : c.split_off.new.self.items ≡ take cut ps = c.in_ok-parts.ensures.items in
    let rest : c.in_ok-parts.parts.items ≡ drop cut ps = c.in_ok-parts.ensures.tail in
    (λ j. flat_map f (front j) ++ flat_map f (rest j)) ∙ sym (joined_parted f ps cut) ∙ c.self.view_is
