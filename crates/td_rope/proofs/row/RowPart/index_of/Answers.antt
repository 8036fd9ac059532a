use Rattle.std.proofs.Common.{◌≡◌, ◌∙◌, ℕ, List, ap, arith, length, subst}
use Rattle.std.specs.List.{concat, flat_map}
use Rattle.td_rope.specs.Units.{IsIndexOf, width}
use Rattle.td_rope.proofs.Offsets.{index_behind}
use Rattle.td_rope.proofs.row.RowPart.index_of.Goals as goal

pub index_of-requires : goal.index_of-requires
index_of-requires g c =
    let f = g.P.Part.atoms in
    let all : length (flat_map f c.self.inside.parts.items) ≡ length c.args.self.now = ap length c.self.view_is in
    omega (
      arith,
      ap (λ ps. length (flat_map f ps)) c.deref.ensures.value,
      all,
      c.len-count.ensures,
      c.len-count.type_inv,
    )

pub returns-then-offset-width : goal.returns-then-offset-width
returns-then-offset-width g c =
    let unit = c.args.unit in
    let wide = c.width_in-width.ensures ∙ c.self.invariant.widths unit
    ∙ ap (λ (atoms : List (List ℕ)). width unit (concat atoms)) c.self.view_is in
    index_behind unit c.args.self.now c.args.offset c.len-count.result c.len-count.ensures
    (omega (arith, wide, c.if-offset-width.true))

pub returns : goal.returns
returns g c =
    let f = g.P.Part.atoms in
    let all = ap (flat_map f) c.deref.ensures.value ∙ c.self.view_is in
    subst (λ (atoms : List (List ℕ)). IsIndexOf c.args.unit atoms c.args.offset c.index_of.result) all
    c.index_of.ensures
