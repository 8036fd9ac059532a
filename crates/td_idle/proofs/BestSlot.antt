-- The best candidate is the one that is left of all own slots, the better kept each time.
use Rattle.std.proofs.Common.{◌≡◌, ◌∙◌, true≢false, ℕ, List, [], true, false, Option, Some, None, fold, filter}
use Rattle.std.proofs.Common.{map, refl, sym, ap, subst}
use Rattle.std.specs.Option.{option_map}
use Rattle.td_base.specs.Lists.{In}
use Rattle.td_base.proofs.Lists.{In-filter, In-map, filter_In}
use Rattle.td_path.specs.declared.slot.Slot.{Slot}
use Rattle.td_doc.specs.Document.{IsDocument}
use Rattle.td_doc.specs.Slots.{own_slot}
use Rattle.td_machine.specs.Machine.{Machine}
use Rattle.td_idle.specs.declared.idle.Counted.{Counted}
use Rattle.td_idle.specs.Candidate.{is_candidate}
use Rattle.td_idle.specs.Best.{is_better, kept, best_slot, IsBest}
use Rattle.td_idle.specs.Kept.{IsBestOf}
use Rattle.td_idle.proofs.Better.{neither_better}
use Rattle.td_idle.proofs.Candidates.{free}
use Rattle.td_idle.proofs.Chosen.{best_all}
use Rattle.td_idle.proofs.OwnSlots.{owner_of}

module _ (m : Machine) (d : IsDocument m.doc) where
  abbrev candidates : List Slot
  candidates = filter (is_candidate m) (map own_slot m.doc)

  abbrev left : Option Counted
  left = fold (λ best slot. kept m.doc slot best) None candidates

  left_best : IsBestOf m.doc candidates left
  left_best = best_all m.doc [] candidates None refl

  among : (t : Slot) → is_candidate m t ≡ true → In t candidates
  among t h =
      let o = owner_of m.doc d t (free m t h).some in
      filter_In (is_candidate m) t (map own_slot m.doc)
      (subst (λ (s : Slot). In s (map own_slot m.doc)) o.own (In-map own_slot o.row m.doc o.there)) h

  at_best : (slot : Slot) → is_candidate m slot ≡ true
      → ((t : Slot) → is_candidate m t ≡ true → is_better m.doc t slot ≡ false) → (o : Option Counted)
      → IsBestOf m.doc candidates o → Some slot ≡ option_map (λ (b : Counted). b.slot) o
  at_best slot h best None is = absurd (subst (λ (z : List Slot). In slot z) is (among slot h))
  at_best slot h best (Some b) is =
      let c = In-filter (is_candidate m) b.slot (map own_slot m.doc) is.0 in
      ap Some (neither_better m.doc slot b.slot (is.2 slot (among slot h)) (best b.slot c.1))

  pub some_best : (slot : Slot) (rows : ℕ) → IsBest m slot rows → Some slot ≡ best_slot m
  some_best slot rows b = at_best slot b.candidate b.best left left_best

  none_at : ((t : Slot) → is_candidate m t ≡ false) → (o : Option Counted) → IsBestOf m.doc candidates o
      → None ≡ option_map (λ (b : Counted). b.slot) o
  none_at h None is = refl
  none_at h (Some b) is =
      let c = In-filter (is_candidate m) b.slot (map own_slot m.doc) is.0 in
      absurd (true≢false (sym c.1 ∙ h b.slot))

  pub none_best : ((t : Slot) → is_candidate m t ≡ false) → None ≡ best_slot m
  none_best h = none_at h left left_best
