use Rattle.std.proofs.Common.{◌≡◌, ◌∙◌, ◌<◌, List, ℕ, sym, ap, subst, length, arith}
use Rattle.std.specs.Prelude.{slice_get}
use Rattle.std.specs.List.{flat_map}
use Rattle.td_rope.specs.AmongParts.{IsAmongParts}
use Rattle.td_rope.proofs.Joined.{get_part}
use Rattle.td_rope.proofs.row.RowPart.atom.Goals as goal

pub returns : goal.returns
returns g c =
    let f = g.P.Part.atoms in
    let ps = c.self.inside.parts.items in
    let s = c.find-seat.result in
    let k = c.args.index in
    let all : flat_map f ps ≡ c.args.self.now = c.self.view_is in
    let seat = subst (λ (q : List _). IsAmongParts f q k s.part s.index) c.deref.ensures.value c.find-seat.ensures in
    let within : k < length (flat_map f ps) = omega (arith, c.requires, ap length all) in
    ap (λ (xs : List (List ℕ)). slice_get xs k) (sym all)
    ∙ get_part f ps s.part c.index.result.now s.index k c.atom.result seat within c.index.ensures c.atom.ensures
