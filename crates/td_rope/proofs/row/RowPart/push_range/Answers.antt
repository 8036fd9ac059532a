use Rattle.std.proofs.Common.{◌≡◌, ap, length, arith}
use Rattle.std.specs.List.{flat_map}
use Rattle.td_rope.proofs.row.RowPart.push_range.Goals as goal

pub push_parts-requires : goal.push_parts-requires
push_parts-requires g c =
    let f = g.P.Part.atoms in
    let all : length (flat_map f c.self.inside.parts.items) ≡ length c.args.self.now = ap length c.self.view_is in
    omega (arith, ap (λ ps. length (flat_map f ps)) c.deref.ensures.value, all, c.len.ensures, c.len.type_inv)
