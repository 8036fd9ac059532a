-- One more text of a site is seen.
use Rattle.std.proofs.Common.{◌≡◌, ◌<◌, ◌≤◌, ◌++◌, ◌∷◌, ◌↔◌, ℕ, suc, List, [], Bool, true, false, cond, refl, sym, ap}
use Rattle.std.proofs.Common.{◌∙◌, subst, inl, inr, ⊎_elim, ◌⊎◌, arith, if◌then◌else◌}
use Rattle.std.proofs.lemmas.Bool.{eq-eqb, ne_eqb, cases_eq, both_ways}
use Rattle.std.specs.BTreeMap.{is_at}
use Rattle.std.specs.List.{list_any}
use Rattle.std.specs.Ordering.{is_eq}
use Rattle.std.specs.BTreeSet.{BTreeSet}
use Rattle.td_base.proofs.Elements.{both_tests}
use Rattle.td_base.proofs.Lists.{In-append, In-back, In-front}
use Rattle.td_base.specs.Lists.{In}
use Rattle.td_reader.specs.Values.{TraceValue}
use Rattle.td_check.specs.Looks.{AreDue, AreFound, AreLooks, IsLookAt, TellsText, is_found, one_more, places_at}
use Rattle.td_check.specs.Looks.{place_cmp}
use Rattle.td_check.specs.declared.looks.Looks.{Looks}
use Rattle.td_check.specs.declared.looks.Place.{Place}
use Rattle.td_check.specs.declared.looks.Spot.{Spot}
use Rattle.td_check.proofs.LooksNoted.{equal_places, place_itself}
use Rattle.td_check.proofs.LooksTold.{same_look}

-- ---- those that come to what was found

pub found_none : (t : TraceValue) (text : List ℕ) (places : List Place) (found : BTreeSet Place) → places ≡ []
    → AreFound t text places found found
found_none t text places found e = record {
  kept = λ place k. k;
  each = λ place i tells. absurd (subst (In place) e i);
  only = λ place k. inl k;
}

pub found_passed : (t : TraceValue) (text : List ℕ) (places : List Place) (place : Place) (old found : BTreeSet Place)
    → ¬ TellsText t place text → AreFound t text places old found → AreFound t text (places ++ place ∷ []) old found
found_passed t text places place old found none f = record {
  kept = f.kept;
  each = λ q i tells.
      ⊎_elim
      (λ (front : In q places). f.each q front tells)
      (λ (here : In q (place ∷ [])). absurd (none (own q tells here)))
      (In-append q places (place ∷ []) i);
  only = λ q k.
      ⊎_elim
      (λ (e : is_found old q ≡ true). inl e)
      (λ (new : In q places × TellsText t q text). inr (In-front q places (place ∷ []) new.0, new.1))
      (f.only q k);
}
  where
    own : (q : Place) → TellsText t q text → In q (place ∷ []) → TellsText t place text
    own q tells (inl e) = subst (λ (p : Place). TellsText t p text) e tells
    own q tells (inr none') = absurd none'

pub found_told : (t : TraceValue) (text : List ℕ) (places : List Place) (place : Place) (old found new : BTreeSet Place)
    → TellsText t place text
    → ((q : Place) → is_found new q ≡ cond (is_eq (place_cmp place q)) true (is_found found q))
    → AreFound t text places old found → AreFound t text (places ++ place ∷ []) old new
found_told t text places place old found new told put f = record {
  kept = λ q k. stays q (f.kept q k);
  each = λ q i tells.
      ⊎_elim
      (λ (front : In q places). stays q (f.each q front tells))
      (λ (here : In q (place ∷ [])). at q here)
      (In-append q places (place ∷ []) i);
  only = λ q k.
      ⊎_elim
      (λ (e : q ≡ place).
      inr (In-back q places (place ∷ []) (inl e), subst (λ (p : Place). TellsText t p text) (sym e) told))
      (λ (e : is_found found q ≡ true).
      ⊎_elim
      (λ (o : is_found old q ≡ true). inl o)
      (λ (n : In q places × TellsText t q text). inr (In-front q places (place ∷ []) n.0, n.1))
      (f.only q e))
      (back (is_eq (place_cmp place q)) q refl (sym (put q) ∙ k));
}
  where
    chosen : (b : Bool) (x : Bool) → x ≡ true → cond b true x ≡ true
    chosen true x e = refl
    chosen false x e = e

    stays : (q : Place) → is_found found q ≡ true → is_found new q ≡ true
    stays q e = put q ∙ chosen (is_eq (place_cmp place q)) (is_found found q) e

    at : (q : Place) → In q (place ∷ []) → is_found new q ≡ true
    at q (inl e) =
        put q ∙ ap (λ (b : Bool). cond b true (is_found found q))
        (ap (λ (p : Place). is_eq (place_cmp place p)) e ∙ place_itself place)
    at q (inr none) = absurd none

    back : (b : Bool) (q : Place) → is_eq (place_cmp place q) ≡ b → cond b true (is_found found q) ≡ true
        → (q ≡ place) ⊎ (is_found found q ≡ true)
    back true q e k = inl (sym (equal_places place q e))
    back false q e k = inr k

-- ---- one more text

-- the site and number of a look that is not at the text that is seen
pub apart : (t : TraceValue) (text : List ℕ) (old new : Looks) (here : Spot) → AreDue t old.due
    → AreFound t text (places_at old.due here) old.found new.found
    → (place : Place) (spot : Spot) (told : List ℕ) → IsLookAt t place spot told → ¬ (here ≡ spot)
    → is_found new.found place ≡ is_found old.found place
apart t text old new here due f place spot told l other =
    both_tests (is_found new.found place) (is_found old.found place)
    (λ e.
    ⊎_elim
    (λ (o : is_found old.found place ≡ true). o)
    (λ (n : In place (places_at old.due here) × TellsText t place text).
    let at = due.only place here n.0 in
    absurd (other (same_look t place here spot at.0 told at.1 l).0))
    (f.only place e))
    (f.kept place)

more_here : (site : ℕ) (seen : ℕ → ℕ) (other : ℕ) → other ≡ site → one_more site seen other ≡ suc (seen other)
more_here site seen other e = ap (λ (b : Bool). if b then suc (seen other) else seen other) (eq-eqb other site e)

more_there : (site : ℕ) (seen : ℕ → ℕ) (other : ℕ) → ¬ (other ≡ site) → one_more site seen other ≡ seen other
more_there site seen other e = ap (λ (b : Bool). if b then suc (seen other) else seen other) (ne_eqb other site e)

pub looks_seen : (t : TraceValue) (seen : ℕ → ℕ) (text_at : ℕ → ℕ → List ℕ) (old new : Looks) (here : Spot)
    (text : List ℕ) → AreLooks t seen text_at old → seen here.site ≡ here.upto → text ≡ text_at here.site here.upto
    → new.due ≡ old.due → AreFound t text (places_at old.due here) old.found new.found
    → AreLooks t (one_more here.site seen) text_at new
looks_seen t seen text_at old new here text a next is due f = record {
  due = subst (AreDue t) (sym due) a.due;
  true_ones = λ place spot told l less.
      ⊎_elim
      (λ (e : here ≡ spot). own place spot told l e)
      (λ (other : ¬ (here ≡ spot)).
      let same : is_found new.found place ≡ is_found old.found place =
      apart t text old new here a.due f place spot told l other in
      let k = a.true_ones place spot told l (earlier spot less other) in (
        (λ (e : is_found new.found place ≡ true). k.0 (sym same ∙ e)),
        (λ (e : told ≡ text_at spot.site spot.upto). same ∙ k.1 e),
      ))
      (same_or_other here spot);
  others = λ place spot told l least.
      apart t text old new here a.due f place spot told l (beyond spot least)
      ∙ a.others place spot told l (at_least spot least);
}
  where
    same_or_other : (s r : Spot) → (s ≡ r) ⊎ (¬ (s ≡ r))
    same_or_other s r =
        ⊎_elim
        (λ (site : s.site ≡ r.site).
        ⊎_elim
        (λ (upto : s.upto ≡ r.upto). inl (λ i. record { site = site i; upto = upto i }))
        (λ (no : ¬ (s.upto ≡ r.upto)). inr (λ (e : s ≡ r). no (ap (λ (x : Spot). x.upto) e)))
        (cases_eq s.upto r.upto))
        (λ (no : ¬ (s.site ≡ r.site)). inr (λ (e : s ≡ r). no (ap (λ (x : Spot). x.site) e)))
        (cases_eq s.site r.site)

    earlier : (spot : Spot) → spot.upto < one_more here.site seen spot.site → ¬ (here ≡ spot)
        → spot.upto < seen spot.site
    earlier spot less other =
        ⊎_elim
        (λ (e : spot.site ≡ here.site).
        let more : spot.upto < suc (seen spot.site) =
        subst (λ (n : ℕ). spot.upto < n) (more_here here.site seen spot.site e) less in
        let at : seen spot.site ≡ here.upto = ap seen e ∙ next in
        ⊎_elim
        (λ (k : here.upto ≡ spot.upto).
        absurd (other (λ i. record { site = sym e i; upto = k i })))
        (λ (k : ¬ (here.upto ≡ spot.upto)).
        let less : spot.upto < seen spot.site = omega arith in
        less)
        (cases_eq here.upto spot.upto))
        (λ (no : ¬ (spot.site ≡ here.site)).
        subst (λ (n : ℕ). spot.upto < n) (more_there here.site seen spot.site no) less)
        (cases_eq spot.site here.site)

    at_least : (spot : Spot) → one_more here.site seen spot.site ≤ spot.upto → seen spot.site ≤ spot.upto
    at_least spot least =
        ⊎_elim
        (λ (e : spot.site ≡ here.site).
        let more : suc (seen spot.site) ≤ spot.upto =
        subst (λ (n : ℕ). n ≤ spot.upto) (more_here here.site seen spot.site e) least in
        omega arith)
        (λ (no : ¬ (spot.site ≡ here.site)).
        subst (λ (n : ℕ). n ≤ spot.upto) (more_there here.site seen spot.site no) least)
        (cases_eq spot.site here.site)

    beyond : (spot : Spot) → one_more here.site seen spot.site ≤ spot.upto → ¬ (here ≡ spot)
    beyond spot least e =
        let site : spot.site ≡ here.site = sym (ap (λ (x : Spot). x.site) e) in
        let upto : here.upto ≡ spot.upto = ap (λ (x : Spot). x.upto) e in
        let more : suc (seen spot.site) ≤ spot.upto =
        subst (λ (n : ℕ). n ≤ spot.upto) (more_here here.site seen spot.site site) least in
        let at : seen spot.site ≡ here.upto = ap seen site ∙ next in
        absurd (omega arith)

    own : (place : Place) (spot : Spot) (told : List ℕ) → IsLookAt t place spot told → here ≡ spot
        → (is_found new.found place ≡ true) ↔ (told ≡ text_at spot.site spot.upto)
    own place spot told l e =
        let it : text ≡ text_at spot.site spot.upto = is ∙ ap (λ (s : Spot). text_at s.site s.upto) e in
        let under : In place (places_at old.due here) =
        a.due.each place here told (subst (λ (s : Spot). IsLookAt t place s told) (sym e) l) in (
          (λ (k : is_found new.found place ≡ true).
              ⊎_elim
              (λ (o : is_found old.found place ≡ true).
              absurd (both_ways (is_found old.found place) (a.others place spot told l (not_yet spot e)) o))
              (λ (n : In place (places_at old.due here) × TellsText t place text).
              let tells = n.1 in
              (same_look t place spot tells.0 told text l tells.1).1 ∙ it)
              (f.only place k)),
          (λ (k : told ≡ text_at spot.site spot.upto).
              f.each place under (spot, subst (IsLookAt t place spot) (k ∙ sym it) l)),
        )
      where
        not_yet : (s : Spot) → here ≡ s → seen s.site ≤ s.upto
        not_yet s same =
            let at : seen s.site ≡ s.upto = subst (λ (x : Spot). seen x.site ≡ x.upto) same next in
            omega arith

-- no look is at the text
pub looks_passed : (t : TraceValue) (seen : ℕ → ℕ) (text_at : ℕ → ℕ → List ℕ) (looks : Looks) (here : Spot)
    → places_at looks.due here ≡ [] → AreLooks t seen text_at looks → seen here.site ≡ here.upto
    → AreLooks t (one_more here.site seen) text_at looks
looks_passed t seen text_at looks here none a next =
    let text : List ℕ = text_at here.site here.upto in
    looks_seen t seen text_at looks looks here text a next refl refl
    (found_none t text (places_at looks.due here) looks.found none)

-- none is found at first
pub looks_first : (t : TraceValue) (text_at : ℕ → ℕ → List ℕ) (looks : Looks) → AreDue t looks.due
    → looks.found.keys ≡ [] → AreLooks t (λ site. 0) text_at looks
looks_first t text_at looks due none = record {
  due = due;
  true_ones = λ place spot told l less. absurd (omega (arith, less));
  others = λ place spot told l least. ap (list_any (is_at (place_cmp place))) none;
}
