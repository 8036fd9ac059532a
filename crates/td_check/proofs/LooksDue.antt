-- Looks come under their spots one after the other.
use Rattle.std.proofs.Common.{◌≡◌, ◌<◌, ◌+◌, ◌++◌, ◌∷◌, ℕ, List, [], Bool, true, false, Option, length, option_map}
use Rattle.std.proofs.Common.{unwrap_or, if◌then◌else◌, refl, sym, ap, ◌∙◌, subst, inl, inr, ⊎_elim, ◌⊎◌, arith}
use Rattle.std.proofs.lemmas.Bool.{cases_eq}
use Rattle.std.proofs.lemmas.Option.{slice_get_within}
use Rattle.std.specs.BTreeMap.{BTreeMap, is_at}
use Rattle.std.specs.Map.{lookup}
use Rattle.std.specs.Ordering.{is_eq}
use Rattle.std.specs.Prelude.{slice_get}
use Rattle.std.specs.declared.alloc.Global.{Global}
use Rattle.std.specs.declared.vec.Vec.{Vec}
use Rattle.td_base.proofs.Elements.{either}
use Rattle.td_base.proofs.Lists.{In-append, In-back, In-front}
use Rattle.td_base.specs.Lists.{In}
use Rattle.td_trace.specs.declared.log.Did.TheVariants.{Look}
use Rattle.td_trace.specs.declared.log.EditorLog.{EditorLog}
use Rattle.td_reader.specs.LineNumbers.{did_count}
use Rattle.td_reader.specs.Values.{TraceValue}
use Rattle.td_check.specs.Looks.{AreDue, AreDueBefore, IsLookAt, IsPlaceBefore, listed, noted_at, places_at, spot_cmp}
use Rattle.td_check.specs.declared.looks.Place.{Place}
use Rattle.td_check.specs.declared.looks.Spot.{Spot}
use Rattle.td_check.proofs.LooksNoted.{equal_spots, spot_itself}
use Rattle.td_check.proofs.LooksTold.{before_more, same_look}

-- ---- under the spots

in_noted : (spot other : Spot) (place q : Place) (places : List Place) → In q places
    → In q (noted_at spot place other places)
in_noted spot other place q places i =
    either (λ (l : List Place). In q l) (is_eq (spot_cmp spot other)) (places ++ place ∷ []) places
    (λ e. In-front q places (place ∷ []) i) (λ e. i)

noted_here : (spot : Spot) (place : Place) (places : List Place) → In place (noted_at spot place spot places)
noted_here spot place places =
    let e : is_eq (spot_cmp spot spot) ≡ true = spot_itself spot in
    subst (λ (b : Bool). In place (if b then places ++ place ∷ [] else places)) (sym e)
    (In-back place places (place ∷ []) (inl refl))

noted_or : (spot other : Spot) (place q : Place) (places : List Place) → In q (noted_at spot place other places)
    → In q places ⊎ ((q ≡ place) × (spot ≡ other))
noted_or spot other place q places i = at (is_eq (spot_cmp spot other)) refl i
  where
    at : (b : Bool) → is_eq (spot_cmp spot other) ≡ b → In q (if b then places ++ place ∷ [] else places)
        → In q places ⊎ ((q ≡ place) × (spot ≡ other))
    at true e j =
        ⊎_elim
        (λ (k : In q places). inl k)
        (λ (k : In q (place ∷ [])). inr (only k, equal_spots spot other e))
        (In-append q places (place ∷ []) j)
      where
        only : In q (place ∷ []) → q ≡ place
        only (inl same) = same
        only (inr none) = absurd none
    at false e j = inl j

-- ---- step by step

pub due_none : (t : TraceValue) (due : BTreeMap Spot (Vec Place Global)) → due.entries ≡ [] → AreDueBefore t 0 0 due
due_none t due e = record {
  each = λ place spot text l b. absurd (nothing place b);
  only = λ place spot i. absurd (subst (λ (es : List (Spot × Vec Place Global)).
      In place (listed (lookup (is_at (spot_cmp spot)) es))) e i);
}
  where
    nothing : (place : Place) → IsPlaceBefore place 0 0 → ⊥
    nothing place (inl less) = omega arith
    nothing place (inr own) = omega (arith, own.1)

pub due_noted : (t : TraceValue) (place : Place) (due new : BTreeMap Spot (Vec Place Global)) (spot : Spot)
    → (text : List ℕ) × IsLookAt t place spot text
    → ((other : Spot) → places_at new other ≡ noted_at spot place other (places_at due other))
    → AreDueBefore t place.editor place.index due → AreDueBefore t place.editor (place.index + 1) new
due_noted t place due new spot here noted b = record {
  each = λ q other text l before.
      subst (In q) (sym (noted other))
      (⊎_elim
      (λ (less : IsPlaceBefore q place.editor place.index).
      in_noted spot other place q (places_at due other) (b.each q other text l less))
      (λ (same : q ≡ place).
      now q other text l same)
      (before_more q place.editor place.index before));
  only = λ q other i.
      ⊎_elim
      (λ (old : In q (places_at due other)). b.only q other old)
      (λ (own : (q ≡ place) × (spot ≡ other)). (
        here.0,
        subst (λ (p : Place). IsLookAt t p other here.0) (sym own.0)
            (subst (λ (s : Spot). IsLookAt t place s here.0) own.1 here.1),
      ))
      (noted_or spot other place q (places_at due other) (subst (In q) (noted other) i));
}
  where
    now : (q : Place) (other : Spot) (text : List ℕ) → IsLookAt t q other text → q ≡ place
        → In q (noted_at spot place other (places_at due other))
    now q other text l same =
        let l' : IsLookAt t place other text = subst (λ (p : Place). IsLookAt t p other text) same l in
        let spots : spot ≡ other = (same_look t place spot other here.0 text here.1 l').0 in
        subst (λ (p : Place). In p (noted_at spot place other (places_at due other))) (sym same)
        (subst (λ (s : Spot). In place (noted_at spot place s (places_at due s))) spots
        (noted_here spot place (places_at due spot)))

pub due_passed : (t : TraceValue) (place : Place) (due : BTreeMap Spot (Vec Place Global))
    → ((spot : Spot) (text : List ℕ) → ¬ IsLookAt t place spot text)
    → AreDueBefore t place.editor place.index due → AreDueBefore t place.editor (place.index + 1) due
due_passed t place due none b = record {
  each = λ q other text l before.
      ⊎_elim
      (λ (less : IsPlaceBefore q place.editor place.index). b.each q other text l less)
      (λ (same : q ≡ place). absurd (none other text (subst (λ (p : Place). IsLookAt t p other text) same l)))
      (before_more q place.editor place.index before);
  only = b.only;
}

index_within : (t : TraceValue) (place : Place) (spot : Spot) (text : List ℕ) → IsLookAt t place spot text → (n : ℕ)
    → unwrap_or (option_map did_count (slice_get t.logs place.editor)) 0 ≡ n → place.index < n
index_within t place spot text l n e =
    let below : place.index < length l.log.did =
    slice_get_within l.log.did place.index (Look l.calls spot.upto text) l.told in
    let is : length l.log.did ≡ n =
    sym (ap (λ (o : Option EditorLog). unwrap_or (option_map did_count o) 0) l.is) ∙ e in
    omega arith

pub due_ended : (t : TraceValue) (editor n : ℕ) (due : BTreeMap Spot (Vec Place Global))
    → unwrap_or (option_map did_count (slice_get t.logs editor)) 0 ≡ n
    → AreDueBefore t editor n due → AreDueBefore t (editor + 1) 0 due
due_ended t editor n due e b = record {
  each = λ q other text l before. b.each q other text l (sooner q other text l before);
  only = b.only;
}
  where
    sooner : (q : Place) (other : Spot) (text : List ℕ) → IsLookAt t q other text → IsPlaceBefore q (editor + 1) 0
        → IsPlaceBefore q editor n
    sooner q other text l (inl less) =
        ⊎_elim
        (λ (same : q.editor ≡ editor). inr (
          same,
          index_within t q other text l n
              (ap (λ (i : ℕ). unwrap_or (option_map did_count (slice_get t.logs i)) 0) same ∙ e),
        ))
        (λ (apart : ¬ (q.editor ≡ editor)).
        let sooner : q.editor < editor = omega arith in
        inl sooner)
        (cases_eq q.editor editor)
    sooner q other text l (inr own) = absurd (omega (arith, own.1))

pub due_all : (t : TraceValue) (due : BTreeMap Spot (Vec Place Global)) → AreDueBefore t (length t.logs) 0 due
    → AreDue t due
due_all t due b = record {
  each = λ q other text l. b.each q other text l (inl (slice_get_within t.logs q.editor l.log l.is));
  only = b.only;
}
