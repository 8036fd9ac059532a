-- What a site made and used, when it makes or uses one more.
use Rattle.std.proofs.Common.{◌≡◌, ◌≢◌, ◌⊎◌, ◌<◌, ◌≤◌, ◌+◌, ◌-◌, ◌++◌, ◌==◌, ℕ, zero, suc, List, [], ◌∷◌, replicate}
use Rattle.std.proofs.Common.{add-one, Bool, true, false, if◌then◌else◌, length, Option, Some, None, refl, sym, ap}
use Rattle.std.proofs.Common.{◌∙◌, subst, inl, inr, true≢false, arith}
use Rattle.std.specs.Prelude.{slice_get}
use Rattle.std.proofs.lemmas.Bool.{eqb-true, eqb-false, cases_Bool, cases_order}
use Rattle.std.proofs.lemmas.Option.{slice_get_past}
use Rattle.std.proofs.lemmas.List.{length-set, length_push, get_or-set_same, get_or-set_other, set_past}
use Rattle.std.proofs.lemmas.List.{get_or-replicate, length-replicate}
use Rattle.td_base.specs.declared.dot.TheConstants.{MAX_SEQ}
use Rattle.td_base.specs.Value.{DotValue}
use Rattle.td_base.proofs.Elements.{get_front}
use Rattle.td_clock.specs.Vector.{vector_get, vector_bump}
use Rattle.td_law_replay.specs.Counting.{with_use, raised}
use Rattle.td_law_replay.proofs.Counts.{bump_up}
use Rattle.td_law_replay.specs.Counting.{in_vector}
use Rattle.td_seat.specs.OwnOps.{AreOwnParts, with_one, with_more}
use Rattle.td_seat.proofs.InVector.{fits, fits_set, past_up, past_over, vector_from, no_vector_from, vector_of}
use Rattle.td_seat.proofs.InVector.{no_vector_of}
use Rattle.td_seat.proofs.Slices.{get_pushed}

abbrev pub Told : Type 0
Told = ℕ → Option (List ℕ)

-- ---- what is had

had_past : (v have : List ℕ) (is_past : Bool) → in_vector v ≡ (if is_past then None else Some have) → is_past ≡ true
    → fits v ≡ false
had_past v have is_past h past =
    no_vector_of v (h ∙ ap (λ (b : Bool). if b then None else Some have) past)

had_whole : (v have : List ℕ) (is_past : Bool) → in_vector v ≡ (if is_past then None else Some have)
    → is_past ≡ false → (fits v ≡ true) × (v ≡ have)
had_whole v have is_past h whole =
    vector_of v have (h ∙ ap (λ (b : Bool). if b then None else Some have) whole)

past_had : (v have : List ℕ) (is_past : Bool) → fits v ≡ false → is_past ≡ true
    → in_vector v ≡ (if is_past then None else Some have)
past_had v have is_past h past =
    no_vector_from v h ∙ sym (ap (λ (b : Bool). if b then None else Some have) past)

whole_had : (v have : List ℕ) (is_past : Bool) → fits v ≡ true → v ≡ have → is_past ≡ false
    → in_vector v ≡ (if is_past then None else Some have)
whole_had v have is_past h same whole =
    vector_from v h ∙ ap (λ (w : List ℕ). Some w) same
    ∙ sym (ap (λ (b : Bool). if b then None else Some have) whole)

bump_past : (v : List ℕ) (s : ℕ) → fits v ≡ false → fits (vector_bump v s) ≡ false
bump_past v s h = past_up v (s - 1) (vector_get v s + 1) h (omega arith)

bump_over : (v : List ℕ) (s : ℕ) → s - 1 < length v → MAX_SEQ ≤ vector_get v s → fits (vector_bump v s) ≡ false
bump_over v s inside over = past_over v (s - 1) (vector_get v s + 1) inside (omega (arith, over))

bump_fits : (v : List ℕ) (s : ℕ) → fits v ≡ true → vector_get v s < MAX_SEQ → fits (vector_bump v s) ≡ true
bump_fits v s h below = fits_set v (s - 1) (vector_get v s + 1) h (omega (arith, below))

pub bump_same : (v : List ℕ) (s : ℕ) → s - 1 < length v → vector_get (vector_bump v s) s ≡ vector_get v s + 1
bump_same v s inside = get_or-set_same v (s - 1) (vector_get v s + 1) 0 inside

pub bump_other : (v : List ℕ) (s d : ℕ) → 1 ≤ s → 1 ≤ d → d ≢ s → vector_get (vector_bump v d) s ≡ vector_get v s
bump_other v s d some positive apart =
    get_or-set_other v (d - 1) (s - 1) (vector_get v d + 1) 0
    (λ (e : s - 1 ≡ d - 1). apart (omega (arith, e, some, positive)))

-- ---- one more that is made

-- each operation is told once one more is made, if the new one is, and the others are as before
each_one : (site : ℕ) (v : List ℕ) (told : Told) (deps : List (List ℕ)) (q : ℕ)
    → (q ≡ vector_get v site + 1 → slice_get deps (q - 1) ≡ in_vector v)
    → (q ≢ vector_get v site + 1 → slice_get deps (q - 1) ≡ told q)
    → slice_get deps (q - 1) ≡ with_one site v told q
each_one site v told deps q new old = at (q == vector_get v site + 1) refl
  where
    at : (b : Bool) → (q == vector_get v site + 1) ≡ b
        → slice_get deps (q - 1) ≡ (if b then in_vector v else told q)
    at true e = new (eqb-true q (vector_get v site + 1) e)
    at false e = old (eqb-false q (vector_get v site + 1) e)

module _ (site n : ℕ) (v : List ℕ) (told : Told) (own : ℕ) (have : List ℕ) (is_past : Bool) (deps : List (List ℕ))
    (p : AreOwnParts site n v told own have is_past deps) where
  grown : vector_get v site ≤ vector_get (vector_bump v site) site
  grown = bump_up v site site

  inside : v ≡ have → site - 1 < length v
  inside same = omega (arith, ap length same, p.size, p.within, p.some)

  pub make_past : is_past ≡ true
      → AreOwnParts site n (vector_bump v site) (with_one site v told) own have is_past deps
  make_past past =
      let none : fits v ≡ false = had_past v have is_past p.had past in
      record {
        of_site = p.of_site;
        some = p.some;
        within = p.within;
        size = p.size;
        had = past_had (vector_bump v site) have is_past (bump_past v site none) past;
        few = omega (arith, p.few, grown);
        all = λ e. absurd (true≢false (sym past ∙ e));
        each =
            λ q some last.
            each_one site v told deps q
            (λ e. slice_get_past deps (q - 1) (omega (arith, p.few, e)) ∙ sym (no_vector_from v none))
            (λ e. p.each q some last);
      }

  pub make_over : is_past ≡ false → MAX_SEQ ≤ vector_get have own
      → AreOwnParts site n (vector_bump v site) (with_one site v told) own have true deps
  make_over whole over =
      let w = had_whole v have is_past p.had whole in
      let high : MAX_SEQ ≤ vector_get v site =
      subst (λ (s : ℕ). MAX_SEQ ≤ vector_get v s) p.of_site
      (subst (λ (h : List ℕ). MAX_SEQ ≤ vector_get h own) (sym w.1) over) in
      record {
        of_site = p.of_site;
        some = p.some;
        within = p.within;
        size = p.size;
        had = past_had (vector_bump v site) have true (bump_over v site (inside w.1) high) refl;
        few = omega (arith, p.few, grown);
        all = λ e. absurd (true≢false e);
        each =
            λ q some last.
            each_one site v told deps q (λ e. absurd (omega (arith, e, last, high))) (λ e. p.each q some last);
      }

  pub make_whole : is_past ≡ false → vector_get have own < MAX_SEQ
      → AreOwnParts site n (vector_bump v site) (with_one site v told) own (vector_bump have own) is_past
      (deps ++ have ∷ [])
  make_whole whole below =
      let w = had_whole v have is_past p.had whole in
      let low : vector_get v site < MAX_SEQ =
      subst (λ (s : ℕ). vector_get v s < MAX_SEQ) p.of_site
      (subst (λ (h : List ℕ). vector_get h own < MAX_SEQ) (sym w.1) below) in
      let same : vector_bump v site ≡ vector_bump have own = λ i. vector_bump (w.1 i) (sym p.of_site i) in
      let count : length deps ≡ vector_get v site = p.all whole in
      let more : length (deps ++ have ∷ []) ≡ vector_get (vector_bump v site) site =
      length_push deps have ∙ ap (λ (k : ℕ). k + 1) count ∙ sym (bump_same v site (inside w.1)) in
      record {
        of_site = p.of_site;
        some = p.some;
        within = p.within;
        size = length-set have (own - 1) (vector_get have own + 1) ∙ p.size;
        had = whole_had (vector_bump v site) (vector_bump have own) is_past (bump_fits v site w.0 low) same whole;
        few = omega (arith, more);
        all = λ e. more;
        each =
            λ q some last.
            each_one site v told (deps ++ have ∷ []) q
            (λ e.
            let place : q - 1 ≡ length deps = omega (arith, e, count) in
            ap (λ (k : ℕ). slice_get (deps ++ have ∷ []) k) place ∙ get_pushed deps have
            ∙ ap (λ (x : List ℕ). Some x) (sym w.1) ∙ sym (vector_from v w.0))
            (λ e. before q some e (cases_order (q - 1) (length deps)) ∙ p.each q some last);
      }
    where
      before : (q : ℕ) → 1 ≤ q → q ≢ vector_get v site + 1
          → (q - 1 ≡ length deps) ⊎ ((q - 1 < length deps) ⊎ (length deps < q - 1))
          → slice_get (deps ++ have ∷ []) (q - 1) ≡ slice_get deps (q - 1)
      before q some e (inl k) =
          let count : length deps ≡ vector_get v site = p.all whole in
          absurd (e (omega (arith, k, count, some)))
      before q some e (inr (inl k)) = get_front deps (have ∷ []) (q - 1) k
      before q some e (inr (inr k)) =
          slice_get_past (deps ++ have ∷ []) (q - 1) (omega (arith, length_push deps have, k))
          ∙ sym (slice_get_past deps (q - 1) (omega (arith, k)))

  -- ---- one more that is used

  -- the number of another site grew
  use_apart : (d : ℕ) (new_have : List ℕ) (new_past : Bool) → 1 ≤ d → d ≢ site → length new_have ≡ n
      → in_vector (vector_bump v d) ≡ (if new_past then None else Some new_have)
      → (new_past ≡ false → is_past ≡ false)
      → AreOwnParts site n (vector_bump v d) told own new_have new_past deps
  use_apart d new_have new_past positive apart size had before =
      let same : vector_get (vector_bump v d) site ≡ vector_get v site =
      bump_other v site d p.some positive apart in
      record {
        of_site = p.of_site;
        some = p.some;
        within = p.within;
        size = size;
        had = had;
        few = omega (arith, p.few, same);
        all = λ e. p.all (before e) ∙ sym same;
        each = p.each;
      }

  -- an operation of the own site is not counted as used
  use_by : (d : DotValue) (new_have : List ℕ) (new_past : Bool)
      → (d.site ≡ site → AreOwnParts site n v told own new_have new_past deps)
      → (d.site ≢ site → AreOwnParts site n (vector_bump v d.site) told own new_have new_past deps)
      → AreOwnParts site n (with_use site (Some d) v) told own new_have new_past deps
  use_by d new_have new_past here there = at (d.site == site) refl
    where
      at : (b : Bool) → (d.site == site) ≡ b
          → AreOwnParts site n (if b then v else vector_bump v d.site) told own new_have new_past deps
      at true e = here (eqb-true d.site site e)
      at false e = there (eqb-false d.site site e)

  pub use_own : (d : DotValue) → d.site ≡ own
      → AreOwnParts site n (with_use site (Some d) v) told own have is_past deps
  use_own d e = use_by d have is_past (λ k. p) (λ k. absurd (k (e ∙ p.of_site)))

  pub use_outside : (d : DotValue) → 1 ≤ d.site → length have < d.site
      → AreOwnParts site n (with_use site (Some d) v) told own have is_past deps
  use_outside d positive out =
      use_by d have is_past (λ k. p)
      (λ k. use_apart d.site have is_past positive k p.size (at (cases_Bool is_past)) (λ e. e))
    where
      at : (is_past ≡ true) ⊎ (is_past ≡ false)
          → in_vector (vector_bump v d.site) ≡ (if is_past then None else Some have)
      at (inl e) =
          past_had (vector_bump v d.site) have is_past (bump_past v d.site (had_past v have is_past p.had e)) e
      at (inr e) =
          let w = had_whole v have is_past p.had e in
          ap in_vector
          (set_past v (d.site - 1) (vector_get v d.site + 1) (omega (arith, ap length w.1, out))) ∙ p.had

  pub use_over : (d : DotValue) → 1 ≤ d.site → d.site ≢ own → d.site ≤ length have → MAX_SEQ ≤ vector_get have d.site
      → AreOwnParts site n (with_use site (Some d) v) told own have true deps
  use_over d positive apart within over =
      use_by d have true (λ k. absurd (apart (k ∙ sym p.of_site)))
      (λ k.
      use_apart d.site have true positive k p.size
      (past_had (vector_bump v d.site) have true (at (cases_Bool is_past)) refl) (λ e. absurd (true≢false e)))
    where
      at : (is_past ≡ true) ⊎ (is_past ≡ false) → fits (vector_bump v d.site) ≡ false
      at (inl e) = bump_past v d.site (had_past v have is_past p.had e)
      at (inr e) =
          let w = had_whole v have is_past p.had e in
          bump_over v d.site (omega (arith, ap length w.1, within, positive))
          (subst (λ (h : List ℕ). MAX_SEQ ≤ vector_get h d.site) (sym w.1) over)

  pub use_whole : (d : DotValue) → 1 ≤ d.site → d.site ≢ own → vector_get have d.site < MAX_SEQ
      → AreOwnParts site n (with_use site (Some d) v) told own (vector_bump have d.site) is_past deps
  use_whole d positive apart below =
      use_by d (vector_bump have d.site) is_past (λ k. absurd (apart (k ∙ sym p.of_site)))
      (λ k.
      use_apart d.site (vector_bump have d.site) is_past positive k
      (length-set have (d.site - 1) (vector_get have d.site + 1) ∙ p.size) (at (cases_Bool is_past)) (λ e. e))
    where
      at : (is_past ≡ true) ⊎ (is_past ≡ false)
          → in_vector (vector_bump v d.site) ≡ (if is_past then None else Some (vector_bump have d.site))
      at (inl e) =
          past_had (vector_bump v d.site) (vector_bump have d.site) is_past
          (bump_past v d.site (had_past v have is_past p.had e)) e
      at (inr e) =
          let w = had_whole v have is_past p.had e in
          whole_had (vector_bump v d.site) (vector_bump have d.site) is_past
          (bump_fits v d.site w.0 (subst (λ (h : List ℕ). vector_get h d.site < MAX_SEQ) (sym w.1) below))
          (ap (λ (h : List ℕ). vector_bump h d.site) w.1) e

  -- ---- the same told in other words

  pub retold : (v' : List ℕ) (told' : Told) → v ≡ v' → ((q : ℕ) → 1 ≤ q → told q ≡ told' q)
      → AreOwnParts site n v' told' own have is_past deps
  retold v' told' same words =
      record {
        of_site = p.of_site;
        some = p.some;
        within = p.within;
        size = p.size;
        had = ap in_vector (sym same) ∙ p.had;
        few = subst (λ (u : List ℕ). length deps ≤ vector_get u site) same p.few;
        all = λ e. p.all e ∙ ap (λ (u : List ℕ). vector_get u site) same;
        each = λ q some last. p.each q some last ∙ words q some;
      }

-- ---- so many more that are made

pub raised_snoc : (site k : ℕ) (v : List ℕ) → vector_bump (raised site k v) site ≡ raised site (suc k) v
raised_snoc site zero v = refl
raised_snoc site (suc k) v = raised_snoc site k (vector_bump v site)

module _ (site n : ℕ) where
  pub start_parts : 1 ≤ site → site ≤ n
      → AreOwnParts site n (replicate n 0) (λ (q : ℕ). None) site (replicate n 0) false []
  start_parts some within =
      record {
        of_site = refl;
        some = some;
        within = within;
        size = length-replicate n 0;
        had = vector_from (replicate n 0) (fits_zeros n);
        few = omega arith;
        all = λ e. sym (get_or-replicate n (site - 1) 0 0 (omega (arith, some, within)));
        each = λ q some last. refl;
      }
    where
      fits_zeros : (k : ℕ) → fits (replicate k 0) ≡ true
      fits_zeros zero = refl
      fits_zeros (suc k) = fits_zeros k

  pub none_more : (v : List ℕ) (told : Told) (own : ℕ) (have : List ℕ) (is_past : Bool) (deps : List (List ℕ))
      → AreOwnParts site n v told own have is_past deps
      → AreOwnParts site n (raised site 0 v) (with_more site 0 v told) own have is_past deps
  none_more v told own have is_past deps p =
      retold site n v told own have is_past deps p v (with_more site 0 v told) refl (λ q some. refl)

  pub one_more : (k : ℕ) (v : List ℕ) (told : Told) (own : ℕ) (have : List ℕ) (is_past : Bool) (deps : List (List ℕ))
      → AreOwnParts site n (vector_bump (raised site k v) site) (with_one site (raised site k v)
      (with_more site k v told)) own have is_past deps
      → AreOwnParts site n (raised site (k + 1) v) (with_more site (k + 1) v told) own have is_past deps
  one_more k v told own have is_past deps p =
      let w : List ℕ = raised site k v in
      let now : Told = with_more site k v told in
      rw add-one
      (retold site n (vector_bump w site) (with_one site w now) own have is_past deps p (raised site (suc k) v)
      (with_more site (suc k) v told) (raised_snoc site k v) (λ q some. refl))
