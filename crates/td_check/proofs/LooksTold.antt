-- What a trace tells at a place.
use Rattle.std.proofs.Common.{◌≡◌, ◌<◌, ◌+◌, ℕ, List, Option, Some, None, option_and_then, refl, sym, ap, ◌∙◌, inl}
use Rattle.std.proofs.Common.{inr, ⊎_elim, ◌⊎◌, arith}
use Rattle.std.proofs.lemmas.Bool.{cases_eq}
use Rattle.std.specs.Prelude.{slice_get}
use Rattle.td_trace.specs.declared.log.Did.{Did}
use Rattle.td_trace.specs.declared.log.Did.TheVariants.{Look}
use Rattle.td_trace.specs.declared.log.EditorLog.{EditorLog}
use Rattle.td_reader.specs.Values.{TraceValue}
use Rattle.td_check.specs.Looks.{IsLookAt, TellsText, IsPlaceBefore, did_at}
use Rattle.td_check.specs.declared.looks.Place.{Place}
use Rattle.td_check.specs.declared.looks.Spot.{Spot}

pub record IsDidOf (t : TraceValue) (editor index : ℕ) (did : Did) : Type 0 where
  pub log : EditorLog
  pub is : slice_get t.logs editor ≡ Some log
  pub told : slice_get log.did index ≡ Some did

pub did_of_log : (t : TraceValue) (editor index : ℕ) (did : Did) → did_at t editor index ≡ Some did
    → IsDidOf t editor index did
did_of_log t editor index did e = at (slice_get t.logs editor) refl e
  where
    at : (o : Option EditorLog) → slice_get t.logs editor ≡ o
        → option_and_then (λ (log : EditorLog). slice_get log.did index) o ≡ Some did → IsDidOf t editor index did
    at None is f = absurd cc
    at (Some log) is f = record { log = log; is = is; told = f }

pub did_from_look : (t : TraceValue) (place : Place) (spot : Spot) (text : List ℕ) → (l : IsLookAt t place spot text)
    → did_at t place.editor place.index ≡ Some (Look l.calls spot.upto text)
did_from_look t place spot text l =
    ap (option_and_then (λ (log : EditorLog). slice_get log.did place.index)) l.is ∙ l.told

same_look_parts : (a b c d : ℕ) (x y : List ℕ) (o : Option Did) → o ≡ Some (Look a c x) → o ≡ Some (Look b d y)
    → (c ≡ d) × (x ≡ y)
same_look_parts a b c d x y o e f =
    let both : Some (Look a c x) ≡ Some (Look b d y) = sym e ∙ f in
    (cc, cc)

same_log : (o : Option EditorLog) (x y : EditorLog) → o ≡ Some x → o ≡ Some y → x ≡ y
same_log o x y e f = cc

-- at one place one look is told
pub same_look : (t : TraceValue) (place : Place) (spot other : Spot) (text told : List ℕ) → IsLookAt t place spot text
    → IsLookAt t place other told → (spot ≡ other) × (text ≡ told)
same_look t place spot other text told l m =
    let parts : (spot.upto ≡ other.upto) × (text ≡ told) =
    same_look_parts l.calls m.calls spot.upto other.upto text told (did_at t place.editor place.index)
    (did_from_look t place spot text l) (did_from_look t place other told m) in
    let site : spot.site ≡ other.site =
    sym l.home ∙ ap (λ (log : EditorLog). log.home) (same_log (slice_get t.logs place.editor) l.log m.log l.is m.is)
    ∙ m.home in
    ((λ i. record { site = site i; upto = parts.0 i }), parts.1)

-- a look with this text
pub told_text : (t : TraceValue) (place : Place) (calls upto : ℕ) (told text : List ℕ)
    → Some (Look calls upto told) ≡ did_at t place.editor place.index → told ≡ text → TellsText t place text
told_text t place calls upto told text e same =
    let d = did_of_log t place.editor place.index (Look calls upto told) (sym e) in
    let spot : Spot = record { site = d.log.home; upto = upto } in (
      spot,
      record {
        log = d.log;
        is = d.is;
        home = refl;
        calls = calls;
        told = d.told ∙ ap (λ (x : List ℕ). Some (Look calls upto x)) same;
      },
    )

pub text_told : (t : TraceValue) (place : Place) (calls upto : ℕ) (told text : List ℕ)
    → Some (Look calls upto told) ≡ did_at t place.editor place.index → TellsText t place text → told ≡ text
text_told t place calls upto told text e tells =
    let l : IsLookAt t place tells.0 text = tells.1 in
    let parts : (upto ≡ tells.0.upto) × (told ≡ text) =
    same_look_parts calls l.calls upto tells.0.upto told text (did_at t place.editor place.index)
    (sym e) (did_from_look t place tells.0 text l) in
    parts.1

-- the places before the next one
pub before_more : (place : Place) (editor index : ℕ) → IsPlaceBefore place editor (index + 1)
    → IsPlaceBefore place editor index ⊎ (place ≡ record { editor = editor; index = index })
before_more place editor index (inl less) = inl (inl less)
before_more place editor index (inr own) =
    ⊎_elim
    (λ (same : place.index ≡ index). inr (λ i. record { editor = own.0 i; index = same i }))
    (λ (other : ¬ (place.index ≡ index)).
    let less : place.index < index = omega (arith, own.1) in
    inl (inr (own.0, less)))
    (cases_eq place.index index)
