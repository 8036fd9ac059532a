use Rattle.std.proofs.Common.{◌≡◌, List, sym, ap, subst}
use Rattle.td_base.specs.Lists.{In}
use Rattle.td_machine.specs.Hold.{Hold}
use Rattle.td_vote.specs.ByPlace.{AreInPlace, AreHeldApart, AreSame}
use Rattle.td_vote.specs.Holds.{HoldsValue}
use Rattle.td_vote.specs.HoldsParts.{AreHoldsParts}
use Rattle.td_vote.proofs.Placed.{by_place_apart}
use Rattle.td_vote.proofs.holds.Holds.hold.Goals as goal

pub put-requires : goal.put-requires
put-requires g c =
    let rows = g.D.Doc.rows c.args.doc.now in
    let v : HoldsValue = c.args.self.now in
    let same : AreSame v.by_place v.holds =
    subst (λ (w : HoldsValue). AreSame w.by_place w.holds) c.self.view_is c.self.invariant.same in
    let is : c.self.inside.by_place.items ≡ v.by_place = ap (λ (w : HoldsValue). w.by_place) c.self.view_is in
    record {
      apart = subst (AreHeldApart rows) (sym is) (by_place_apart rows v same c.requires.placed);
      order = subst (AreInPlace rows) (sym is) c.requires.placed.order;
      rooted = c.requires.rooted;
      free = λ h i. c.requires.free h (same.to h (subst (In h) is i));
    }

pub invariant_of-self : goal.invariant_of-self
invariant_of-self g c =
    subst (λ (xs : List Hold). AreHoldsParts xs c.self.inside.by_place.items) (sym c.make_room.ensures.items)
    c.self.invariant
