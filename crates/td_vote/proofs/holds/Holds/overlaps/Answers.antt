use Rattle.std.proofs.Common.{◌≡◌, ◌∙◌, List, sym, ap, subst}
use Rattle.std.specs.List.{list_any}
use Rattle.td_doc.specs.Slots.{overlaps}
use Rattle.td_machine.specs.Hold.{Hold}
use Rattle.td_vote.specs.ByPlace.{AreInPlace, AreHeldApart, AreSame}
use Rattle.td_vote.specs.Holds.{HoldsValue}
use Rattle.td_vote.proofs.Placed.{by_place_apart, any_same}
use Rattle.td_vote.proofs.holds.Holds.overlaps.Goals as goal

pub any_overlapping-requires : goal.any_overlapping-requires
any_overlapping-requires g c =
    let rows = g.D.Doc.rows c.args.doc.now in
    let v : HoldsValue = c.args.self.now in
    let same : AreSame v.by_place v.holds =
    subst (λ (w : HoldsValue). AreSame w.by_place w.holds) c.self.view_is c.self.invariant.same in
    let is : c.deref.result.now ≡ v.by_place =
    c.deref.ensures.value ∙ ap (λ (w : HoldsValue). w.by_place) c.self.view_is in
    record {
      apart = subst (AreHeldApart rows) (sym is) (by_place_apart rows v same c.requires);
      order = subst (AreInPlace rows) (sym is) c.requires.order;
    }

pub returns : goal.returns
returns g c =
    let rows = g.D.Doc.rows c.args.doc.now in
    let v : HoldsValue = c.args.self.now in
    let same : AreSame v.by_place v.holds =
    subst (λ (w : HoldsValue). AreSame w.by_place w.holds) c.self.view_is c.self.invariant.same in
    let is : c.deref.result.now ≡ v.by_place =
    c.deref.ensures.value ∙ ap (λ (w : HoldsValue). w.by_place) c.self.view_is in
    c.any_overlapping.ensures
    ∙ ap (λ (xs : List Hold). list_any (λ (h : Hold). overlaps rows h.slot c.args.slot.now) xs) is
    ∙ any_same v.by_place v.holds same (λ (h : Hold). overlaps rows h.slot c.args.slot.now)
