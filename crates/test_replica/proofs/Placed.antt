-- The holds of a test are apart and in their places.
use Rattle.std.proofs.Common.{◌≡◌, List, [], ◌∷◌, Bool, true, false, Option, Some, None, is_some}
use Rattle.std.proofs.Common.{refl, sym, ap, ◌∙◌, subst, not, ⊎_elim}
use Rattle.std.specs.Option.{option_map}
use Rattle.td_base.proofs.Lists.{In-filter, all_of, successive_filter}
use Rattle.td_base.specs.Lists.{In}
use Rattle.td_base.specs.Value.{DotValue}
use Rattle.td_doc.specs.Answers.{is_rooted}
use Rattle.td_doc.specs.Document.{DocRow, IsDocument}
use Rattle.td_doc.specs.Slots.{overlaps}
use Rattle.td_doc.proofs.ApartSlots.{overlaps_mutual}
use Rattle.td_path.specs.declared.slot.Slot.{Slot}
use Rattle.td_machine.specs.Hold.{Hold, held_over, is_of, release}
use Rattle.td_machine.proofs.Holding.{held_none}
use Rattle.td_vote.specs.ByPlace.{place_before, AreInPlace, AreHeldApart, ArePlaced, IsFree}
use Rattle.td_vote.specs.Holds.{HoldsValue}

pub none_placed : (rows : List DocRow) (v : HoldsValue) → IsDocument rows → v.holds ≡ [] → v.by_place ≡ []
    → ArePlaced rows v
none_placed rows v d e f = record {
  apart = subst (AreHeldApart rows) (sym e) (record { document = d; rooted = λ h i. absurd i; apart = tt });
  order = subst (AreInPlace rows) (sym f) tt;
}

pub free_of : (rows : List DocRow) (slot : Slot) (v : HoldsValue) → held_over rows slot v.holds ≡ None
    → IsFree rows slot v.holds
free_of rows slot v e h i = held_none (λ (t : Slot). overlaps rows t slot) v.holds e h i

pub more_placed : (rows : List DocRow) (old new : HoldsValue) (own : Hold) → ArePlaced rows old
    → is_rooted rows own.slot ≡ true → IsFree rows own.slot old.holds → new.holds ≡ own ∷ old.holds
    → AreInPlace rows new.by_place → ArePlaced rows new
more_placed rows old new own p rooted free e order = record {
  apart = subst (AreHeldApart rows) (sym e) (record {
    document = p.apart.document;
    rooted = λ h i. ⊎_elim (λ (k : h ≡ own). subst (λ (g : Hold). is_rooted rows g.slot ≡ true) (sym k) rooted)
        (λ (k : In h old.holds). p.apart.rooted h k) i;
    apart = (
      all_of (λ (h : Hold). overlaps rows own.slot h.slot ≡ false) old.holds
          (λ h i. overlaps_mutual rows own.slot h.slot ∙ free h i),
      p.apart.apart,
    );
  });
  order = order;
}

pub less_placed : (rows : List DocRow) (proposal : DotValue) (old new : HoldsValue) → ArePlaced rows old
    → new.holds ≡ release proposal old.holds → new.by_place ≡ release proposal old.by_place → ArePlaced rows new
less_placed rows proposal old new p e f =
    let stays : Hold → Bool = λ (h : Hold). not (is_of proposal h) in
    record {
      apart = subst (AreHeldApart rows) (sym e) (record {
        document = p.apart.document;
        rooted = λ h i. p.apart.rooted h (In-filter stays h old.holds i).0;
        apart = successive_filter (λ (g h : Hold). overlaps rows g.slot h.slot ≡ false) stays old.holds p.apart.apart;
      });
      order = subst (AreInPlace rows) (sym f)
          (successive_filter (λ (g h : Hold). place_before rows g.slot h.slot ≡ true) stays old.by_place p.order);
    }

pub no_some : (o : Option DotValue) → is_some o ≡ false → o ≡ None
no_some None e = refl
no_some (Some d) e = absurd cc

-- what is told of a row that is not there
pub not_told : {X Y : Type 0} (f : X → Y) (o : Option X) → is_some (option_map f o) ≡ false → is_some o ≡ false
not_told f None e = refl
not_told f (Some x) e = absurd cc
