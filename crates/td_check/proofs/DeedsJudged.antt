-- What an editor did, deed by deed.
use Rattle.std.proofs.Common.{◌≡◌, ◌↔◌, ◌≤◌, ◌+◌, ◌++◌, ◌∷◌, ℕ, List, [], Bool, true, Option, Some, None, option_map}
use Rattle.std.proofs.Common.{option_and_then, length, take, refl, sym, ap, ◌∙◌, subst, inl, inr, ⊎_elim, arith}
use Rattle.std.proofs.lemmas.List.{take_all}
use Rattle.std.specs.List.{AllByRecursion}
use Rattle.std.specs.Prelude.{slice_get}
use Rattle.td_base.proofs.Elements.{In-slice_get}
use Rattle.td_base.proofs.Lists.{In-append, all_in, all_of}
use Rattle.td_base.specs.Lists.{In}
use Rattle.td_base.proofs.Places.{take_there}
use Rattle.td_trace.specs.Editors.{AreDid, IsDid, Sofar, further, nothing_yet}
use Rattle.td_trace.specs.declared.entry.TraceEntry.{TraceEntry}
use Rattle.td_trace.specs.declared.log.Did.{Did}
use Rattle.td_trace.specs.declared.log.Did.TheVariants.{Look}
use Rattle.td_trace.specs.declared.log.EditorLog.{EditorLog}
use Rattle.td_reader.specs.LineNumbers.{line_of_did}
use Rattle.td_reader.specs.Said.{did_of}
use Rattle.td_reader.specs.Values.{FitsLog, IsTraceValue, TraceValue}
use Rattle.td_reader.specs.declared.editors.ReadDid.{ReadDid}
use Rattle.td_reader.specs.declared.editors.ReadDid.TheVariants as deed
use Rattle.td_law_replay.specs.Accepted.{IsLogIn}
use Rattle.td_law_replay.specs.Traced.{site_entries}
use Rattle.td_check.proofs.LooksTold.{did_of_log}
use Rattle.td_check.specs.Findings.{IsFirstDeed, fault_of, so_far}
use Rattle.td_check.specs.Looks.{AreLooks, IsLookAt, all_seen, did_at, is_found}
use Rattle.td_check.specs.declared.looks.Looks.{Looks}
use Rattle.td_check.specs.declared.looks.Place.{Place}
use Rattle.td_check.specs.declared.looks.Spot.{Spot}
use Rattle.td_check.specs.declared.verdict.Fault.{Fault}

-- ---- whose it is

pub record IsHomeOf (t : TraceValue) (editor home : ℕ) : Type 0 where
  pub log : EditorLog
  pub is : slice_get t.logs editor ≡ Some log
  pub home_is : log.home ≡ home

pub home_of_log : (t : TraceValue) (editor home : ℕ)
    → option_map (λ (log : EditorLog). log.home) (slice_get t.logs editor) ≡ Some home → IsHomeOf t editor home
home_of_log t editor home e = at (slice_get t.logs editor) refl e
  where
    at : (o : Option EditorLog) → slice_get t.logs editor ≡ o
        → option_map (λ (log : EditorLog). log.home) o ≡ Some home → IsHomeOf t editor home
    at None is f = absurd cc
    at (Some log) is f = record { log = log; is = is; home_is = cc }

pub own_home : (o : Option EditorLog) (log : EditorLog) (home : ℕ) → o ≡ Some log
    → option_map (λ (log : EditorLog). log.home) o ≡ Some home → home ≡ log.home
own_home o log home e f =
    let g : Some log.home ≡ Some home = sym (ap (option_map (λ (log : EditorLog). log.home)) e) ∙ f in
    cc

pub own_deed : (o : Option EditorLog) (log : EditorLog) (index : ℕ) (did : Did) → o ≡ Some log
    → option_and_then (λ (log : EditorLog). slice_get log.did index) o ≡ Some did → slice_get log.did index ≡ Some did
own_deed o log index did e f = sym (ap (option_and_then (λ (log : EditorLog). slice_get log.did index)) e) ∙ f

-- ---- a look

-- the look at this place, at a text that the site has
found_where_true : (t : TraceValue) (text_at : ℕ → ℕ → List ℕ) (looks : Looks) (editor index home calls upto : ℕ)
    (text : List ℕ) → AreLooks t (all_seen t) text_at looks
    → option_map (λ (log : EditorLog). log.home) (slice_get t.logs editor) ≡ Some home
    → did_at t editor index ≡ Some (Look calls upto text) → upto ≤ length (site_entries t.histories home)
    → (is_found looks.found (record { editor = editor; index = index }) ≡ true) ↔ (text ≡ text_at home upto)
found_where_true t text_at looks editor index home calls upto text a at told within =
    let d = did_of_log t editor index (Look calls upto text) told in
    let place : Place = record { editor = editor; index = index } in
    let spot : Spot = record { site = home; upto = upto } in
    let here : d.log.home ≡ home = sym (own_home (slice_get t.logs editor) d.log home d.is at) in
    let look : IsLookAt t place spot text =
    record { log = d.log; is = d.is; home = here; calls = calls; told = d.told } in
    a.true_ones place spot text look (omega arith)

pub look_judged : (t : TraceValue) (text_at : ℕ → ℕ → List ℕ) (looks : Looks) (editor index home calls upto : ℕ)
    (text : List ℕ) (did : ReadDid) (s : Sofar) (is_true : Bool) → did ≡ deed.Look calls upto text
    → AreLooks t (all_seen t) text_at looks
    → option_map (λ (log : EditorLog). log.home) (slice_get t.logs editor) ≡ Some home
    → did_at t editor index ≡ Some (did_of did)
    → (calls ≡ s.calls) × (upto ≤ length (site_entries t.histories home)) × (s.entry ≤ upto) × (s.upto ≤ upto)
    → is_true ≡ is_found looks.found (record { editor = editor; index = index })
    → (is_true ≡ true) ↔ IsDid (site_entries t.histories home) (text_at home) s (did_of did)
look_judged t text_at looks editor index home calls upto text did s is_true is a at told so found =
    let told' : did_at t editor index ≡ Some (Look calls upto text) =
    told ∙ ap (λ (d : ReadDid). Some (did_of d)) is in
    let k = found_where_true t text_at looks editor index home calls upto text a at told' so.1 in
    let both : (is_true ≡ true) ↔ IsDid (site_entries t.histories home) (text_at home) s (Look calls upto text) = (
      (λ (e : is_true ≡ true). (so.0, so.1, so.2, so.3, k.0 (sym found ∙ e))),
      (λ (d : IsDid (site_entries t.histories home) (text_at home) s (Look calls upto text)). found ∙ k.1 d.4),
    ) in
    subst (λ (d : ReadDid). (is_true ≡ true) ↔ IsDid (site_entries t.histories home) (text_at home) s (did_of d))
    (sym is) both

-- ---- one more

so_far_more : (s : Sofar) (deeds : List Did) (did : Did) → so_far s (deeds ++ did ∷ []) ≡ further (so_far s deeds) did
so_far_more s [] did = refl
so_far_more s (first ∷ deeds) did = so_far_more (further s first) deeds did

are_did_more : (entries : List TraceEntry) (text_at : ℕ → List ℕ) (s : Sofar) (deeds : List Did) (did : Did)
    → AreDid entries text_at s deeds → IsDid entries text_at (so_far s deeds) did
    → AreDid entries text_at s (deeds ++ did ∷ [])
are_did_more entries text_at s [] did are is = (is, tt)
are_did_more entries text_at s (first ∷ deeds) did are is =
    (are.0, are_did_more entries text_at (further s first) deeds did are.1 is)

-- the first so many deeds of the editor are so, and come to this
pub record IsSoFar (t : TraceValue) (text_at : ℕ → ℕ → List ℕ) (log : EditorLog) (index : ℕ) (s : Sofar) : Type 0 where
  pub good : AreDid (site_entries t.histories log.home) (text_at log.home) nothing_yet (take index log.did)
  pub done : s ≡ so_far nothing_yet (take index log.did)

pub none_so_far : (t : TraceValue) (text_at : ℕ → ℕ → List ℕ) (log : EditorLog) → IsSoFar t text_at log 0 nothing_yet
none_so_far t text_at log = record { good = tt; done = refl }

pub more_so_far : (t : TraceValue) (text_at : ℕ → ℕ → List ℕ) (log : EditorLog) (index : ℕ) (s next : Sofar) (did : Did)
    → slice_get log.did index ≡ Some did
    → IsDid (site_entries t.histories log.home) (text_at log.home) s did → next ≡ further s did
    → IsSoFar t text_at log index s → IsSoFar t text_at log (index + 1) next
more_so_far t text_at log index s next did at is new b = record {
  good = subst (AreDid entries (text_at log.home) nothing_yet) (sym more)
      (are_did_more entries (text_at log.home) nothing_yet (take index log.did) did b.good
      (subst (λ (x : Sofar). IsDid entries (text_at log.home) x did) b.done is));
  done = new ∙ ap (λ (x : Sofar). further x did) b.done ∙ sym (so_far_more nothing_yet (take index log.did) did)
      ∙ ap (so_far nothing_yet) (sym more);
}
  where
    entries : List TraceEntry
    entries = site_entries t.histories log.home

    more : take (index + 1) log.did ≡ take index log.did ++ did ∷ []
    more = take_there log.did index did at

-- ---- one more editor

pub editor_more : {X : Type 0} (P : X → Type 0) (xs : List X) (i : ℕ) (x : X) → slice_get xs i ≡ Some x
    → AllByRecursion P (take i xs) → P x → AllByRecursion P (take (i + 1) xs)
editor_more {X = X} P xs i x e front here =
    subst (AllByRecursion P) (sym (take_there xs i x e))
    (all_of P (take i xs ++ x ∷ []) (λ y k.
    ⊎_elim
    (λ j. all_in P (take i xs) front y j)
    (λ j. only y j)
    (In-append y (take i xs) (x ∷ []) k)))
  where
    only : (y : X) → In y (x ∷ []) → P y
    only y (inl same) = subst P (sym same) here
    only y (inr none) = absurd none

-- all that the editor did is so
pub log_so : (t : TraceValue) (text_at : ℕ → ℕ → List ℕ) (log : EditorLog) (editor index : ℕ) (s : Sofar)
    → IsTraceValue t → slice_get t.logs editor ≡ Some log → length log.did ≤ index
    → IsSoFar t text_at log index s → IsLogIn t.histories text_at log
log_so t text_at log editor index s v at all b =
    let fits : FitsLog t.sites log = all_in (FitsLog t.sites) t.logs v.logs log (In-slice_get t.logs editor log at) in
    record {
      some = omega (arith, fits.some);
      within = omega (arith, fits.within, v.each_history);
      did = subst (AreDid (site_entries t.histories log.home) (text_at log.home) nothing_yet)
          (take_all index log.did all) b.good;
    }

-- the next deed is not
pub deed_not_so : (t : TraceValue) (text_at : ℕ → ℕ → List ℕ) (log : EditorLog) (editor index : ℕ) (s : Sofar)
    (did : Did) (line : ℕ) (fault : Fault)
    → AllByRecursion (IsLogIn t.histories text_at) (take editor t.logs) → slice_get t.logs editor ≡ Some log
    → slice_get log.did index ≡ Some did
    → ¬ IsDid (site_entries t.histories log.home) (text_at log.home) s did
    → line ≡ line_of_did t (editor + 1) (index + 1) → fault ≡ fault_of did
    → IsSoFar t text_at log index s → IsFirstDeed t text_at line fault
deed_not_so t text_at log editor index s did line fault before at told bad line_is fault_is b = record {
  editor = editor;
  log = log;
  is = at;
  before = before;
  deeds = index;
  did = did;
  did_is = told;
  good = b.good;
  bad = subst (λ (x : Sofar). ¬ IsDid (site_entries t.histories log.home) (text_at log.home) x did) b.done bad;
  line_is = line_is;
  fault_is = fault_is;
}
