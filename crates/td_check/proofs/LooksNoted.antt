-- Spots and places in their orders, and what stands under a spot.
use Rattle.std.specs.Prelude.{Option, Some, None, unwrap_or}
use Rattle.std.specs.declared.vec.Vec.{Vec}
use Rattle.std.specs.declared.alloc.Global.{Global}
use Rattle.std.specs.Cmp.{IsTotalOrder}
use Rattle.std.specs.BTreeMap.{BTreeMap, get, is_at}
use Rattle.std.specs.Map.{lookup}
use Rattle.std.specs.Ordering.{is_eq, nat_cmp}
use Rattle.std.proofs.Common.{◌≡◌, ◌∷◌, ◌++◌, [], Bool, true, false, cond, List, ◌∙◌, ap, refl, if◌then◌else◌}
use Rattle.std.proofs.lemmas.Cmp.{nat_cmp_total, on_total, then_total, tied_itself}
use Rattle.std.proofs.lemmas.Map.Lookups.{exact_unsigned}
use Rattle.td_base.proofs.Orders.{then_equal, is_eq_true}
use Rattle.td_check.specs.Looks.{place_cmp, spot_cmp, listed, places_at, noted_at}
use Rattle.td_check.specs.declared.looks.Spot.{Spot}
use Rattle.td_check.specs.declared.looks.Place.{Place}

-- ---- spots in their order

pub spot_total : IsTotalOrder spot_cmp
spot_total = then_total (on_total (λ (s : Spot). s.site) nat_cmp_total) (on_total (λ (s : Spot). s.upto) nat_cmp_total)

pub equal_spots : (s r : Spot) → is_eq (spot_cmp s r) ≡ true → s ≡ r
equal_spots s r e =
    let k = then_equal (nat_cmp s.site r.site) (nat_cmp s.upto r.upto) (is_eq_true (spot_cmp s r) e) in
    let site : s.site ≡ r.site = exact_unsigned s.site r.site k.0 in
    let upto : s.upto ≡ r.upto = exact_unsigned s.upto r.upto k.1 in
    λ i. record { site = site i; upto = upto i }

pub spot_itself : (spot : Spot) → is_eq (spot_cmp spot spot) ≡ true
spot_itself spot = ap is_eq (tied_itself spot_total spot)

-- ---- places in their order

pub place_total : IsTotalOrder place_cmp
place_total =
    then_total (on_total (λ (p : Place). p.editor) nat_cmp_total) (on_total (λ (p : Place). p.index) nat_cmp_total)

pub equal_places : (p q : Place) → is_eq (place_cmp p q) ≡ true → p ≡ q
equal_places p q e =
    let k = then_equal (nat_cmp p.editor q.editor) (nat_cmp p.index q.index) (is_eq_true (place_cmp p q) e) in
    let editor : p.editor ≡ q.editor = exact_unsigned p.editor q.editor k.0 in
    let index : p.index ≡ q.index = exact_unsigned p.index q.index k.1 in
    λ i. record { editor = editor i; index = index i }

pub place_itself : (place : Place) → is_eq (place_cmp place place) ≡ true
place_itself place = ap is_eq (tied_itself place_total place)

-- ---- under a spot

-- what stands there, where nothing does at first
pub stood : (o : Option (Vec Place Global)) (here made : Vec Place Global) → here ≡ unwrap_or o made
    → made.items ≡ [] → here.items ≡ listed o
stood None here made is none = ap (λ (v : Vec Place Global). v.items) is ∙ none
stood (Some places) here made is none = ap (λ (v : Vec Place Global). v.items) is

noted_by : (b : Bool) (old : Option (Vec Place Global)) (w : Vec Place Global) (place : Place) (here : List Place)
    → (b ≡ true → here ≡ listed old) → w.items ≡ here ++ place ∷ []
    → listed (cond b (Some w) old) ≡ (if b then listed old ++ place ∷ [] else listed old)
noted_by true old w place here same is = is ∙ ap (λ (l : List Place). l ++ place ∷ []) (same refl)
noted_by false old w place here same is = refl

pub noted : (due : BTreeMap Spot (Vec Place Global)) (fs : List (Spot × Vec Place Global)) (spot q : Spot)
    (w : Vec Place Global) (place : Place)
    → lookup (is_at (spot_cmp q)) fs ≡ cond (is_at (spot_cmp spot) q) (Some w) (get spot_cmp due q)
    → w.items ≡ places_at due spot ++ place ∷ []
    → listed (lookup (is_at (spot_cmp q)) fs) ≡ noted_at spot place q (places_at due q)
noted due fs spot q w place got is =
    ap listed got
    ∙ noted_by (is_eq (spot_cmp spot q)) (get spot_cmp due q) w place (places_at due spot)
    (λ e. ap (places_at due) (equal_spots spot q e)) is
