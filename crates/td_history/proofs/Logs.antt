-- A log and its index: what is in the index of a dot is the operation of the log with it, and what each call leaves.
use Rattle.std.proofs.Common.{◌≡◌, ◌≢◌, ◌<◌, ◌≤◌, ◌+◌, ◌-◌, ◌⊎◌, ℕ, zero, suc, Bool, true, false, cond, ◌==◌}
use Rattle.std.proofs.Common.{◌&&◌, List, [], ◌∷◌, ◌++◌, length, replicate, reverse, set, Option, Some, None}
use Rattle.std.proofs.Common.{refl, sym, ap, ◌∙◌, subst, inl, inr, ⊎_elim, true≢false, arith}
use Rattle.std.specs.Prelude.{IfSome, IfNone}
use Rattle.std.specs.List.{AllZip, find, slice_get}
use Rattle.std.specs.Option.{is_some, option_and_then, option_map, option_or}
use Rattle.std.proofs.lemmas.Bool.{eqb-true, eqb-false, cases_lt}
use Rattle.std.proofs.lemmas.List.{reverse-append, reverse-reverse, length-reverse, length-set, get_or-set_same}
use Rattle.std.proofs.lemmas.List.{get_or-set_other, get_or_past, length-replicate, get_or-replicate}
use Rattle.std.proofs.lemmas.Option.{slice_get_past}
use Rattle.td_base.specs.Value.{DotValue}
use Rattle.td_base.specs.Equality.{same_dot}
use Rattle.td_base.proofs.Searches.{find_In}
use Rattle.td_base.proofs.Equals.{same_dot_true, same_dot_refl, same_dot_other}
use Rattle.td_op.specs.declared.body.Body.{Body}
use Rattle.td_op.specs.declared.body.Body.TheVariants.{Insert, Delete, Propose, Commit, Abort}
use Rattle.td_op.specs.Op.{OpValue}
use Rattle.td_machine.specs.Counts.{ops_of}
use Rattle.td_machine.specs.Log.{proposed, proposed_slot, decides, decision}
use Rattle.td_machine.specs.Ready.{is_dot_of}
use Rattle.td_history.specs.declared.index.Logged.{Logged}
use Rattle.td_history.specs.Past.{decided_by, IsUndecided, IsNextIn}
use Rattle.td_history.specs.Standing.{StandFor, IsGrown, Agree}
use Rattle.td_history.proofs.Standing.{stand_push, stand_on, stand_filter_map, grown_get}
use Rattle.td_history.specs.Index.{list_of, logged_at, with_logged, decided_in, with_decided}
use Rattle.td_history.specs.Index.{with_decision, last_of, IsLoggedAs, IsIndex, IsFromOne}
use Rattle.td_history.specs.Logs.{log_of, IsNextOf, IsOrderly, IsLog, IsFoundAs}

-- what is found in a log by a dot stands at its place among those of its site

-- a place of a list with one more at its end
get_before : (xs : List OpValue) (x : OpValue) (k : ℕ) → k ≢ length xs → slice_get (xs ++ x ∷ []) k ≡ slice_get xs k
get_before [] x zero other = absurd (other refl)
get_before [] x (suc k) other = refl
get_before (y ∷ xs) x zero other = refl
get_before (y ∷ xs) x (suc k) other = get_before xs x k (λ e. other (ap suc e))

get_last : (xs : List OpValue) (x : OpValue) (k : ℕ) → k ≡ length xs → slice_get (xs ++ x ∷ []) k ≡ Some x
get_last [] x k e = ap (slice_get (x ∷ [])) e
get_last (y ∷ xs) x zero e = absurd (omega arith)
get_last (y ∷ xs) x (suc k) e = get_last xs x k (omega arith)

-- those of a site, the oldest first
abbrev pub of_site : ℕ → List OpValue → List OpValue
of_site site log = reverse (ops_of site log)

of_site_more : (site : ℕ) (x : OpValue) (log : List OpValue) (b : Bool)
    → reverse (cond b (x ∷ ops_of site log) (ops_of site log)) ≡ cond b (of_site site log ++ x ∷ []) (of_site site log)
of_site_more site x log true = reverse-append (x ∷ []) (ops_of site log)
of_site_more site x log false = refl

abbrev FoundAt : DotValue → List OpValue → Type 0
FoundAt d log = find (is_dot_of d) log ≡ slice_get (of_site d.site log) (d.seq - 1)

place_other : (s k l : ℕ) → 1 ≤ k → l + 1 ≡ s → s ≢ k → k - 1 ≢ l
place_other s k l some e other same = other (omega arith)

-- the number of the next operation of a site
number_of : (n : ℕ) (site : ℕ) (x : OpValue) (log : List OpValue) → IsNextOf n log x → x.dot.site ≡ site
    → x.dot.seq ≡ length (of_site site log) + 1
number_of n site x log next same =
    let number : x.dot.seq ≡ length (ops_of site log) + 1 =
    subst (λ (s : ℕ). x.dot.seq ≡ length (ops_of s log) + 1) same next.next in
    omega (arith, number, length-reverse (ops_of site log))

found_more : (n : ℕ) (d : DotValue) (x : OpValue) (log : List OpValue) (a b : Bool) → (x.dot.site == d.site) ≡ a
    → (x.dot.seq == d.seq) ≡ b
    → 1 ≤ d.seq → IsNextOf n log x → FoundAt d log
    → cond (a && b) (Some x) (find (is_dot_of d) log)
    ≡ slice_get (cond a (of_site d.site log ++ x ∷ []) (of_site d.site log)) (d.seq - 1)
found_more n d x log false b site seq some next ih = ih
found_more n d x log true true site seq some next ih =
    let number = number_of n d.site x log next (eqb-true x.dot.site d.site site) in
    let same : x.dot.seq ≡ d.seq = eqb-true x.dot.seq d.seq seq in
    sym (get_last (of_site d.site log) x (d.seq - 1) (omega (arith, number, same)))
found_more n d x log true false site seq some next ih =
    let number = number_of n d.site x log next (eqb-true x.dot.site d.site site) in
    let other = place_other x.dot.seq d.seq (length (of_site d.site log)) some (sym number)
    (λ k. eqb-false x.dot.seq d.seq seq k) in
    ih ∙ sym (get_before (of_site d.site log) x (d.seq - 1) other)

pub found_at : (n : ℕ) (d : DotValue) (log : List OpValue) → 1 ≤ d.seq → IsOrderly n log → FoundAt d log
found_at n d [] some h = refl
found_at n d (x ∷ log) some h =
    found_more n d x log (x.dot.site == d.site) (x.dot.seq == d.seq) refl refl some h.0 (found_at n d log some h.1)
    ∙ sym (ap (λ q. slice_get q (d.seq - 1)) (of_site_more d.site x log (x.dot.site == d.site)))

behind : (s f : ℕ) → s ≡ suc f → s ≤ f → ⊥
behind s f e h = absurd (omega arith)

ahead : (s f i : ℕ) → s ≡ suc f → s ≡ suc (f + suc i) → ⊥
ahead s f i e h = absurd (omega arith)

-- the operations of a site have its numbers in their order

abbrev Numbered : ℕ → ℕ → List OpValue → Type 0
Numbered site from [] = Unit {0}
Numbered site from (x ∷ xs) = ((x.dot.site ≡ site) × (x.dot.seq ≡ suc from)) × Numbered site (suc from) xs

numbered_push : (site from : ℕ) (xs : List OpValue) (x : OpValue) → Numbered site from xs → x.dot.site ≡ site
    → x.dot.seq ≡ from + length xs + 1
    → Numbered site from (xs ++ x ∷ [])
numbered_push site from [] x h s q = ((s, omega (arith, q)), tt)
numbered_push site from (y ∷ xs) x h s q = (h.0, numbered_push site (suc from) xs x h.1 s (omega (arith, q)))

numbered_more : (n site : ℕ) (x : OpValue) (log : List OpValue) (b : Bool) → (x.dot.site == site) ≡ b → IsNextOf n log x
    → Numbered site 0 (of_site site log) → Numbered site 0 (cond b (of_site site log ++ x ∷ []) (of_site site log))
numbered_more n site x log false e next ih = ih
numbered_more n site x log true e next ih =
    let same : x.dot.site ≡ site = eqb-true x.dot.site site e in
    numbered_push site 0 (of_site site log) x ih same (omega (arith, number_of n site x log next same))

pub numbered : (n site : ℕ) (log : List OpValue) → IsOrderly n log → Numbered site 0 (of_site site log)
numbered n site [] h = tt
numbered n site (x ∷ log) h =
    subst (λ q. Numbered site 0 q) (sym (of_site_more site x log (x.dot.site == site)))
    (numbered_more n site x log (x.dot.site == site) refl h.0 (numbered n site log h.1))

-- what a log tells of a proposal, by the operation that is found

pub proposed_at : (d : DotValue) (log : List OpValue)
    → proposed_slot d log ≡ option_and_then (λ (x : OpValue). proposed x.body) (find (is_dot_of d) log)
proposed_at d [] = refl
proposed_at d (x ∷ log) = at (same_dot x.dot d) (proposed_at d log)
  where
    at : (b : Bool) → proposed_slot d log ≡ option_and_then (λ (y : OpValue). proposed y.body) (find (is_dot_of d) log)
        → cond b (proposed x.body) (proposed_slot d log)
        ≡ option_and_then (λ (y : OpValue). proposed y.body) (cond b (Some x) (find (is_dot_of d) log))
    at true ih = refl
    at false ih = ih

-- and by its body
pub proposed_by : (d : DotValue) (log : List OpValue)
    → proposed_slot d log ≡ option_and_then proposed (option_map (λ (x : OpValue). x.body) (find (is_dot_of d) log))
proposed_by d log = proposed_at d log ∙ by_body (find (is_dot_of d) log)
  where
    by_body : (o : Option OpValue) → option_and_then (λ (x : OpValue). proposed x.body) o
        ≡ option_and_then proposed (option_map (λ (x : OpValue). x.body) o)
    by_body None = refl
    by_body (Some x) = refl

none_found_at : (d : DotValue) (x : OpValue) (log : List OpValue) (b : Bool)
    → cond b (Some x) (find (is_dot_of d) log) ≡ None
    → find (is_dot_of d) log ≡ None
none_found_at d x log true e = absurd (cc)
none_found_at d x log false e = e

not_decided : (d p : DotValue) (log : List OpValue) (said b : Bool) → same_dot p d ≡ b → IsUndecided log p
    → find (is_dot_of d) log ≡ None → cond b (Some said) None ≡ None
not_decided d p log said false e may none = refl
not_decided d p log said true e may none =
    let no_slot : proposed_slot d log ≡ None = proposed_at d log
    ∙ ap (option_and_then (λ (x : OpValue). proposed x.body)) none in
    let slot : is_some (proposed_slot d log) ≡ true =
    subst (λ (q : DotValue). is_some (proposed_slot q log) ≡ true) (same_dot_true p d e) may.proposed in
    absurd (true≢false (sym slot ∙ ap is_some no_slot))

undecided_by : (d : DotValue) (log : List OpValue) (body : Body) → IfSome (decided_by body) (IsUndecided log)
    → find (is_dot_of d) log ≡ None → decides d body ≡ None
undecided_by d log (Insert slot run) may none = refl
undecided_by d log (Delete target) may none = refl
undecided_by d log (Propose slot) may none = refl
undecided_by d log (Commit p) may none = not_decided d p log true (same_dot p d) refl may none
undecided_by d log (Abort p) may none = not_decided d p log false (same_dot p d) refl may none

-- only what is in the log is decided
pub undecided : (n : ℕ) (d : DotValue) (log : List OpValue) → IsOrderly n log → find (is_dot_of d) log ≡ None
    → decision d log ≡ None
undecided n d [] h e = refl
undecided n d (x ∷ log) h e =
    let none : find (is_dot_of d) log ≡ None = none_found_at d x log (same_dot x.dot d) e in
    ap (λ o. option_or o (decision d log)) (undecided_by d log x.body h.0.decides none) ∙ undecided n d log h.1 none

-- no operation that comes is in the log already
pub is_new : (n : ℕ) (log : List OpValue) (x : OpValue) → IsOrderly n log → IsNextOf n log x
    → find (is_dot_of x.dot) log ≡ None
is_new n log x h next =
    found_at n x.dot log (omega (arith, next.next)) h
    ∙ slice_get_past (of_site x.dot.site log) (x.dot.seq - 1)
    (omega (arith, next.next, length-reverse (ops_of x.dot.site log)))

-- lists whose elements stand in a relation

pub zip_on : {X Y : Type 0} (R S : X → Y → Type 0) → ((x : X) (y : Y) → R x y → S x y) → (xs : List X) (ys : List Y)
    → AllZip R xs ys → AllZip S xs ys
zip_on R S f [] [] h = h
zip_on R S f [] (y ∷ ys) h = absurd h
zip_on R S f (x ∷ xs) [] h = absurd h
zip_on R S f (x ∷ xs) (y ∷ ys) h = (f x y h.0, zip_on R S f xs ys h.1)

zip_push : {X Y : Type 0} (R : X → Y → Type 0) (xs : List X) (ys : List Y) (x : X) (y : Y) → AllZip R xs ys → R x y
    → AllZip R (xs ++ x ∷ []) (ys ++ y ∷ [])
zip_push R [] [] x y h r = (r, tt)
zip_push R [] (b ∷ ys) x y h r = absurd h
zip_push R (a ∷ xs) [] x y h r = absurd h
zip_push R (a ∷ xs) (b ∷ ys) x y h r = (h.0, zip_push R xs ys x y h.1 r)

-- an index, after one more operation

place_apart : (a b : ℕ) → 1 ≤ a → 1 ≤ b → a ≢ b → a - 1 ≢ b - 1
place_apart a b some too other e = other (omega arith)

module _ (n : ℕ) (ops : List OpValue) where
  pub logged : (of : DotValue → Option Bool) (lists : List (List Logged)) (log : List OpValue) (x : OpValue) (k : ℕ)
      → IsIndex n ops of lists log → slice_get ops k ≡ Some x → IsNextOf n log x → of x.dot ≡ None
      → IsIndex n ops of (with_logged x.dot.site k lists) (x ∷ log)
  logged of lists log x k index kept next none =
      record {
        size = length-set lists (x.dot.site - 1) _ ∙ index.size;
        each = λ site some within.
            subst (λ q. AllZip (IsLoggedAs ops of) (list_of site (set lists (x.dot.site - 1) new)) q)
            (sym (of_site_more site x log (x.dot.site == site)))
            (at site some within (x.dot.site == site) refl (index.each site some within));
      }
    where
      l : Logged
      l = record { number = k; decided = None }

      here : IsLoggedAs ops of l x
      here = record { number = kept; decided = sym none }

      new : List Logged
      new = list_of x.dot.site lists ++ l ∷ []

      at : (site : ℕ) → 1 ≤ site → site ≤ n → (b : Bool) → (x.dot.site == site) ≡ b
          → AllZip (IsLoggedAs ops of) (list_of site lists) (of_site site log)
          → AllZip (IsLoggedAs ops of) (list_of site (set lists (x.dot.site - 1) new))
          (cond b (of_site site log ++ x ∷ []) (of_site site log))
      at site some within true e old =
          let same : x.dot.site ≡ site = eqb-true x.dot.site site e in
          let place : site - 1 < length lists = omega (arith, some, within, index.size) in
          let is : list_of site (set lists (x.dot.site - 1) new) ≡ list_of site lists ++ l ∷ [] =
          ap (λ (s : ℕ). list_of site (set lists (s - 1) (list_of s lists ++ l ∷ []))) same
          ∙ get_or-set_same lists (site - 1) (list_of site lists ++ l ∷ []) [] place in
          subst (λ (q : List Logged). AllZip (IsLoggedAs ops of) q (of_site site log ++ x ∷ [])) (sym is)
          (zip_push (IsLoggedAs ops of) (list_of site lists) (of_site site log) l x old here)
      at site some within false e old =
          let other : site - 1 ≢ x.dot.site - 1 =
          place_apart site x.dot.site some next.some (λ k. eqb-false x.dot.site site e (sym k)) in
          subst (λ (q : List Logged). AllZip (IsLoggedAs ops of) q (of_site site log))
          (sym (get_or-set_other lists (x.dot.site - 1) (site - 1) new [] other)) old

  -- and after a decision

  module _ (d : DotValue) (said : Bool) (of more : DotValue → Option Bool)
      (now : (e : DotValue) → more e ≡ cond (same_dot d e) (Some said) (of e)) where
    as_before : (l : Logged) (x : OpValue) → d ≢ x.dot → IsLoggedAs ops of l x → IsLoggedAs ops more l x
    as_before l x other h =
        record {
          number = h.number;
          decided = h.decided ∙ sym (now x.dot ∙ ap (λ b. cond b (Some said) (of x.dot))
              (same_dot_other d x.dot other));
        }

    decided_now : (l : Logged) (x : OpValue) → d ≡ x.dot → IsLoggedAs ops of l x
        → IsLoggedAs ops more (record l { decided = Some said }) x
    decided_now l x same h =
        record {
          number = h.number;
          decided = sym (now x.dot ∙ ap (λ b. cond b (Some said) (of x.dot))
              (subst (λ (e : DotValue). same_dot d e ≡ true) same (same_dot_refl d)));
        }

    -- those behind the place, or of another site
    zip_apart : (site from : ℕ) (ls : List Logged) (xs : List OpValue) → Numbered site from xs → (d.site ≢ site)
        ⊎ (d.seq ≤ from)
        → AllZip (IsLoggedAs ops of) ls xs → AllZip (IsLoggedAs ops more) ls xs
    zip_apart site from [] [] num apart h = h
    zip_apart site from [] (x ∷ xs) num apart h = absurd h
    zip_apart site from (l ∷ ls) [] num apart h = absurd h
    zip_apart site from (l ∷ ls) (x ∷ xs) num apart h =
        let other : d ≢ x.dot = λ (e : d ≡ x.dot). ⊎_elim
        (λ (q : d.site ≢ site). q (ap (λ (c : DotValue). c.site) e ∙ num.0.0))
        (λ (q : d.seq ≤ from). behind d.seq from (ap (λ (c : DotValue). c.seq) e ∙ num.0.1) q) apart in
        let later : (d.site ≢ site) ⊎ (d.seq ≤ suc from) =
        ⊎_elim (λ (q : d.site ≢ site). inl q) (λ (q : d.seq ≤ from). inr (omega (arith, q))) apart in
        (as_before l x other h.0, zip_apart site (suc from) ls xs num.1 later h.1)

    zip_decided : (from i : ℕ) (ls : List Logged) (xs : List OpValue) → Numbered d.site from xs → d.seq ≡ suc (from + i)
        → AllZip (IsLoggedAs ops of) ls xs → AllZip (IsLoggedAs ops more) (decided_in i said ls) xs
    zip_decided from i [] [] num at h = h
    zip_decided from i [] (x ∷ xs) num at h = absurd h
    zip_decided from i (l ∷ ls) [] num at h = absurd h
    zip_decided from zero (l ∷ ls) (x ∷ xs) num at h =
        let seq : d.seq ≡ x.dot.seq = omega (arith, at, num.0.1) in
        let same : d ≡ x.dot = λ j. record { site = sym num.0.0 j; seq = seq j } in
        (decided_now l x same h.0, zip_apart d.site (suc from) ls xs num.1 (inr (omega (arith, at))) h.1)
    zip_decided from (suc i) (l ∷ ls) (x ∷ xs) num at h =
        let other : d ≢ x.dot = λ (e : d ≡ x.dot). ahead d.seq from i (ap (λ (c : DotValue). c.seq) e ∙ num.0.1) at in
        (as_before l x other h.0, zip_decided (suc from) i ls xs num.1 (omega (arith, at)) h.1)

    pub decided_more : (lists : List (List Logged)) (log : List OpValue) → 1 ≤ d.site → 1 ≤ d.seq → IsOrderly n log
        → IsIndex n ops of lists log → IsIndex n ops more (with_decided d said lists) log
    decided_more lists log some first orderly index =
        record {
          size = length-set lists (d.site - 1) _ ∙ index.size;
          each = λ site least within. at site least within (d.site == site) refl (index.each site least within);
        }
      where
        new : List Logged
        new = decided_in (d.seq - 1) said (list_of d.site lists)

        at : (site : ℕ) → 1 ≤ site → site ≤ n → (b : Bool) → (d.site == site) ≡ b
            → AllZip (IsLoggedAs ops of) (list_of site lists) (of_site site log)
            → AllZip (IsLoggedAs ops more) (list_of site (set lists (d.site - 1) new)) (of_site site log)
        at site least within true e old =
            let same : d.site ≡ site = eqb-true d.site site e in
            let place : d.site - 1 < length lists = omega (arith, same, some, within, index.size) in
            let is : list_of d.site (set lists (d.site - 1) new)
            ≡ new = get_or-set_same lists (d.site - 1) new [] place in
            let here : AllZip (IsLoggedAs ops of) (list_of d.site lists) (of_site d.site log) =
            subst (λ (s : ℕ). AllZip (IsLoggedAs ops of) (list_of s lists) (of_site s log)) (sym same) old in
            subst (λ (s : ℕ). AllZip (IsLoggedAs ops more) (list_of s (set lists (d.site - 1) new)) (of_site s log))
            same
            (subst (λ (q : List Logged). AllZip (IsLoggedAs ops more) q (of_site d.site log)) (sym is)
            (zip_decided 0 (d.seq - 1) (list_of d.site lists) (of_site d.site log) (numbered n d.site log orderly)
            (omega (arith, first)) here))
        at site least within false e old =
            let other : site - 1 ≢ d.site - 1 = place_apart site d.site least some
            (λ k. eqb-false d.site site e (sym k)) in
            subst (λ (q : List Logged). AllZip (IsLoggedAs ops more) q (of_site site log))
            (sym (get_or-set_other lists (d.site - 1) (site - 1) new [] other))
            (zip_apart site 0 (list_of site lists) (of_site site log) (numbered n site log orderly)
            (inl (λ k. eqb-false d.site site e k)) old)

-- a log, after one more operation

or_if : (b said : Bool) (o : Option Bool) → option_or (cond b (Some said) None) o ≡ cond b (Some said) o
or_if true said o = refl
or_if false said o = refl

decision_noted : (n : ℕ) (ops : List OpValue) (lists : List (List Logged)) (older log : List OpValue) (body : Body)
    → IfSome (decided_by body) (IsUndecided older) → IfSome (decided_by body) IsFromOne → IsOrderly n log
    → IsIndex n ops (λ (d : DotValue). decision d older) lists log
    → IsIndex n ops (λ (d : DotValue). option_or (decides d body) (decision d older)) (with_decision body lists) log
decision_noted n ops lists older log (Insert slot run) may dot orderly index = index
decision_noted n ops lists older log (Delete target) may dot orderly index = index
decision_noted n ops lists older log (Propose slot) may dot orderly index = index
decision_noted n ops lists older log (Commit p) may dot orderly index =
    decided_more n ops p true _ _ (λ e. or_if (same_dot p e) true (decision e older)) lists log dot.site dot.seq
    orderly index
decision_noted n ops lists older log (Abort p) may dot orderly index =
    decided_more n ops p false _ _ (λ e. or_if (same_dot p e) false (decision e older)) lists log dot.site dot.seq
    orderly index

pub noted : (n : ℕ) (ops : List OpValue) (numbers : List ℕ) (lists : List (List Logged)) (log : List OpValue)
    (x : OpValue) (k : ℕ)
    → IsLog n ops numbers lists log → slice_get ops k ≡ Some x → IsNextOf n log x → IfSome (decided_by x.body) IsFromOne
    → IsLog n ops (numbers ++ k ∷ []) (with_decision x.body (with_logged x.dot.site k lists)) (x ∷ log)
noted n ops numbers lists log x k is kept next dot =
    let none : decision x.dot log ≡ None = undecided n x.dot log is.orderly (is_new n log x is.orderly next) in
    let of : DotValue → Option Bool = λ (d : DotValue). decision d log in
    let orderly : IsOrderly n (x ∷ log) = (next, is.orderly) in
    record {
      standing =
          subst (λ q. StandFor (slice_get ops) (numbers ++ k ∷ []) q) (sym (reverse-append (x ∷ []) log))
          (stand_push (slice_get ops) numbers (reverse log) k x is.standing kept);
      orderly = orderly;
      index = decision_noted n ops (with_logged x.dot.site k lists) log (x ∷ log) x.body next.decides dot orderly
          (logged n ops of lists log x k is.index kept next none);
    }

pub log_grown : (n : ℕ) (ops more : List OpValue) (numbers : List ℕ) (lists : List (List Logged)) (log : List OpValue)
    → IsGrown ops more → IsLog n ops numbers lists log → IsLog n more numbers lists log
log_grown n ops more numbers lists log grown is =
    let on : (k : ℕ) (x : OpValue) → slice_get ops k ≡ Some x → slice_get more k
    ≡ Some x = λ k x e. grown_get ops more k x grown e in
    let of : DotValue → Option Bool = λ (d : DotValue). decision d log in
    record {
      standing = stand_on (slice_get ops) (slice_get more) on numbers (reverse log) is.standing;
      orderly = is.orderly;
      index = record {
        size = is.index.size;
        each = λ site some within. zip_on (IsLoggedAs ops of) (IsLoggedAs more of)
            (λ (l : Logged) (x : OpValue) (h : IsLoggedAs ops of l x). record
            { number = on l.number x h.number; decided = h.decided })
            (list_of site lists) (of_site site log) (is.index.each site some within);
      };
    }

pub log_is : (n : ℕ) (ops : List OpValue) (numbers : List ℕ) (lists : List (List Logged)) (log : List OpValue)
    → IsLog n ops numbers lists log
    → log_of ops numbers ≡ log
log_is n ops numbers lists log is =
    ap reverse (stand_filter_map (slice_get ops) numbers (reverse log) is.standing) ∙ reverse-reverse log

-- what the index has of a dot, and what the log has

pub agree_none : {X Y : Type 0} (R : X → Y → Type 0) (o : Option X) (p : Option Y) → Agree R o p → o ≡ None → p ≡ None
agree_none R None None h e = refl
agree_none R None (Some y) h e = absurd h
agree_none R (Some x) p h e = absurd (cc)

pub agree_some : {X Y : Type 0} (R : X → Y → Type 0) (o : Option X) (p : Option Y) (x : X) → Agree R o p → o ≡ Some x
    → (y : Y) × (p ≡ Some y) × R x y
agree_some R None p x h e = absurd (cc)
agree_some R (Some z) None x h e = absurd h
agree_some R (Some z) (Some y) x h e = let same : z ≡ x = cc in (y, refl, subst (λ q. R q y) same h)

zip_get : {X Y : Type 0} (R : X → Y → Type 0) (xs : List X) (ys : List Y) (k : ℕ) → AllZip R xs ys
    → Agree R (slice_get xs k) (slice_get ys k)
zip_get R [] [] k h = tt
zip_get R [] (y ∷ ys) k h = absurd h
zip_get R (x ∷ xs) [] k h = absurd h
zip_get R (x ∷ xs) (y ∷ ys) zero h = h.0
zip_get R (x ∷ xs) (y ∷ ys) (suc k) h = zip_get R xs ys k h.1

zip_length : {X Y : Type 0} (R : X → Y → Type 0) (xs : List X) (ys : List Y) → AllZip R xs ys → length xs ≡ length ys
zip_length R [] [] h = refl
zip_length R [] (y ∷ ys) h = absurd h
zip_length R (x ∷ xs) [] h = absurd h
zip_length R (x ∷ xs) (y ∷ ys) h = ap suc (zip_length R xs ys h.1)

-- a site past the size has no operations
none_past_more : (n site : ℕ) (x : OpValue) (log : List OpValue) (b : Bool) → (x.dot.site == site) ≡ b → n < site
    → x.dot.site ≤ n
    → ops_of site log ≡ [] → cond b (x ∷ ops_of site log) (ops_of site log) ≡ []
none_past_more n site x log true e past within ih = absurd (omega (arith, eqb-true x.dot.site site e))
none_past_more n site x log false e past within ih = ih

none_past : (n site : ℕ) (log : List OpValue) → n < site → IsOrderly n log → ops_of site log ≡ []
none_past n site [] past h = refl
none_past n site (x ∷ log) past h =
    none_past_more n site x log (x.dot.site == site) refl past h.0.within (none_past n site log past h.1)

found_as : (ops log : List OpValue) (d : DotValue) (o : Option Logged) (p : Option OpValue)
    → ((x : OpValue) → p ≡ Some x → x.dot ≡ d)
    → Agree (IsLoggedAs ops (λ (e : DotValue). decision e log)) o p → Agree (IsFoundAs ops log d) o p
found_as ops log d None None is h = tt
found_as ops log d None (Some x) is h = absurd h
found_as ops log d (Some l) None is h = absurd h
found_as ops log d (Some l) (Some x) is h = record
    { number = h.number; decided = h.decided ∙ ap (λ (e : DotValue). decision e log) (is x refl) }

pub at_dot : (n : ℕ) (ops : List OpValue) (numbers : List ℕ) (lists : List (List Logged)) (log : List OpValue)
    (d : DotValue)
    → IsLog n ops numbers lists log → IsFromOne d → Agree (IsFoundAs ops log d) (logged_at d lists)
    (find (is_dot_of d) log)
at_dot n ops numbers lists log d is from_one =
    found_as ops log d (logged_at d lists) (find (is_dot_of d) log)
    (λ x e. same_dot_true x.dot d (find_In (is_dot_of d) log x e).1)
    (subst (λ q. Agree R (logged_at d lists) q) (sym (found_at n d log from_one.seq is.orderly))
    (⊎_elim past within (cases_lt n d.site)))
  where
    R : Logged → OpValue → Type 0
    R = IsLoggedAs ops (λ (e : DotValue). decision e log)

    past : n < d.site → Agree R (logged_at d lists) (slice_get (of_site d.site log) (d.seq - 1))
    past h =
        let no_list : list_of d.site lists ≡ [] = get_or_past lists (d.site - 1) [] (omega (arith, h, is.index.size)) in
        let no_op : of_site d.site log ≡ [] = ap reverse (none_past n d.site log h is.orderly) in
        subst (λ q. Agree R q (slice_get (of_site d.site log) (d.seq - 1)))
        (sym (ap (λ q. slice_get q (d.seq - 1)) no_list))
        (subst (λ q. Agree R None (slice_get q (d.seq - 1))) (sym no_op) tt)

    within : d.site ≤ n → Agree R (logged_at d lists) (slice_get (of_site d.site log) (d.seq - 1))
    within h = zip_get R (list_of d.site lists) (of_site d.site log) (d.seq - 1) (is.index.each d.site from_one.site h)

-- the last of a site

first_reversed : (xs : List OpValue) (k : ℕ) → k ≡ length xs → slice_get (reverse xs) (k - 1) ≡ slice_get xs 0
first_reversed [] k e = refl
first_reversed (x ∷ xs) k e =
    ap (λ q. slice_get q (k - 1)) (reverse-append (x ∷ []) xs)
    ∙ get_last (reverse xs) x (k - 1) (omega (arith, e, length-reverse xs))

pub at_last : (n : ℕ) (ops : List OpValue) (numbers : List ℕ) (lists : List (List Logged)) (log : List OpValue)
    (site : ℕ)
    → IsLog n ops numbers lists log → 1 ≤ site → site ≤ n
    → Agree (IsLoggedAs ops (λ (e : DotValue). decision e log)) (last_of (list_of site lists))
    (slice_get (ops_of site log) 0)
at_last n ops numbers lists log site is some within =
    let list : List Logged = list_of site lists in
    let zipped = is.index.each site some within in
    let R : Logged → OpValue → Type 0 = IsLoggedAs ops (λ (e : DotValue). decision e log) in
    let as_many : length list ≡ length (ops_of site log) = zip_length R list (of_site site log) zipped
    ∙ length-reverse (ops_of site log) in
    subst (λ q. Agree R (last_of list) q) (first_reversed (ops_of site log) (length list) as_many)
    (zip_get R list (of_site site log) (length list - 1) zipped)

pub if_none : {X : Type 0} (o : Option X) (P : Type 0) → (o ≡ None → P) → IfNone o P
if_none None P h = h refl
if_none (Some x) P h = tt

-- the log, after what was noted

pub log_after : (n : ℕ) (ops more : List OpValue) (numbers numbers_new : List ℕ)
    (lists lists_new : List (List Logged)) (log : List OpValue)
    (x : OpValue) (k site : ℕ)
    → IsLog n ops numbers lists log → IsGrown ops more → slice_get more k ≡ Some x → IsNextIn n site log x → 1 ≤ site
    → site ≤ n
    → IfSome (decided_by x.body) IsFromOne → numbers_new ≡ numbers ++ k ∷ []
    → lists_new ≡ with_decision x.body (with_logged site k lists) → IsLog n more numbers_new lists_new (x ∷ log)
log_after n ops more numbers numbers_new lists lists_new log x k site is grown kept next some within dot numbers_are
    lists_are =
    let of : IsNextOf n log x = record {
      some = subst (λ (s : ℕ). 1 ≤ s) (sym next.own) some;
      within = subst (λ (s : ℕ). s ≤ n) (sym next.own) within;
      next = next.next;
      decides = next.decides;
    } in
    let after = noted n more numbers lists log x k (log_grown n ops more numbers lists log grown is) kept of dot in
    let lists_as : with_decision x.body (with_logged x.dot.site k lists) ≡ lists_new =
    ap (λ (s : ℕ). with_decision x.body (with_logged s k lists)) next.own ∙ sym lists_are in
    subst (λ q. IsLog n more q lists_new (x ∷ log)) (sym numbers_are)
    (subst (λ q. IsLog n more (numbers ++ k ∷ []) q (x ∷ log)) lists_as after)

-- the log that the numbers tell
pub as_told : (n : ℕ) (ops : List OpValue) (numbers : List ℕ) (lists : List (List Logged)) (log : List OpValue)
    → IsLog n ops numbers lists log
    → IsLog n ops numbers lists (log_of ops numbers)
as_told n ops numbers lists log is = subst (λ q. IsLog n ops numbers lists q)
    (sym (log_is n ops numbers lists log is)) is

pub no_log : (n : ℕ) → IsLog n [] [] (replicate n []) []
no_log n =
    record {
      standing = tt;
      orderly = tt;
      index = record {
        size = length-replicate n [];
        each = λ site some within. no_ops site (get_or-replicate n (site - 1) [] [] (omega (arith, some, within)));
      };
    }
  where
    no_ops : (site : ℕ) → list_of site (replicate n []) ≡ []
        → AllZip (IsLoggedAs [] (λ (d : DotValue). decision d [])) (list_of site (replicate n [])) []
    no_ops site e = subst (λ q. AllZip (IsLoggedAs [] (λ (d : DotValue). decision d [])) q []) (sym e) tt
