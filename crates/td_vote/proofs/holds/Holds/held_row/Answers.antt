use Rattle.std.proofs.Common.{◌≡◌, ◌∙◌, List, sym, ap, subst}
use Rattle.td_path.specs.declared.slot.Slot.{Slot}
use Rattle.td_doc.specs.Slots.{is_within}
use Rattle.td_machine.specs.Hold.{Hold, held_row}
use Rattle.td_vote.specs.ByPlace.{AreInPlace, AreHeldApart, AreSame}
use Rattle.td_vote.specs.Holds.{HoldsValue}
use Rattle.td_vote.proofs.Placed.{by_place_apart, least_of_same}
use Rattle.td_vote.proofs.holds.Holds.held_row.Goals as goal

pub least_round-requires : goal.least_round-requires
least_round-requires g c =
    let rows = g.D.Doc.rows c.args.doc.now in
    let v : HoldsValue = c.args.self.now in
    let same : AreSame v.by_place v.holds =
    subst (λ (w : HoldsValue). AreSame w.by_place w.holds) c.self.view_is c.self.invariant.same in
    let is : c.deref.result.now ≡ v.by_place =
    c.deref.ensures.value ∙ ap (λ (w : HoldsValue). w.by_place) c.self.view_is in
    record {
      apart = subst (AreHeldApart rows) (sym is) (by_place_apart rows v same c.requires);
      order = subst (AreInPlace rows) (sym is) c.requires.order;
    }

pub returns : goal.returns
returns g c =
    let rows = g.D.Doc.rows c.args.doc.now in
    let v : HoldsValue = c.args.self.now in
    let same : AreSame v.by_place v.holds =
    subst (λ (w : HoldsValue). AreSame w.by_place w.holds) c.self.view_is c.self.invariant.same in
    let is : c.deref.result.now ≡ v.by_place =
    c.deref.ensures.value ∙ ap (λ (w : HoldsValue). w.by_place) c.self.view_is in
    c.least_round.ensures
    ∙ ap (λ (xs : List Hold). held_row rows c.args.id xs) is
    ∙ least_of_same v.by_place v.holds same (λ (t : Slot). is_within rows c.args.id t)
