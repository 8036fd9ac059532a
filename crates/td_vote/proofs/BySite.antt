-- The commits site by site: one list put in, and one more commit in the list of its site.
use Rattle.std.proofs.Common.{◌≡◌, ◌<◌, ◌≤◌, ◌+◌, ℕ, zero, suc, List, [], ◌∷◌, ◌++◌, Bool, true, false}
use Rattle.std.proofs.Common.{if◌then◌else◌, length, get_or, set, refl, sym, ap, subst, ◌∙◌, ◌≢◌, ⊎_elim, arith}
use Rattle.std.proofs.Common.{true≢false, All, Result, Ok, Err, OnOk, OnErr}
use Rattle.std.proofs.lemmas.Bool.{cases_lt}
use Rattle.std.proofs.lemmas.List.Elements.{All-from_recursion, recursion_from_All}
use Rattle.std.specs.declared.cmp.Ordering.{Ordering}
use Rattle.std.specs.declared.cmp.Ordering.TheVariants.{Less, Equal, Greater}
use Rattle.std.specs.Prelude.{insert}
use Rattle.std.specs.List.{AllByRecursion, AllWithin, HoldsAt, slice_index_or}
use Rattle.std.specs.List.Sorted.{IsPartitionedBy, IsPartitionPoint}
use Rattle.std.specs.Ordering.{is_lt, nat_cmp}
use Rattle.td_base.specs.Lists.{In, Successive}
use Rattle.td_base.proofs.Lists.{all_in, all_of, successive_imp, In-append}
use Rattle.td_base.proofs.Orders.{Compares, compares}
use Rattle.td_base.proofs.Searches.{passing_first}
use Rattle.td_machine.specs.Log.{Committed}
use Rattle.td_vote.specs.declared.site_commits.SiteCommits.{SiteCommits}
use Rattle.td_vote.specs.Commits.{put_commit, IsOfSite}
use Rattle.td_vote.specs.BySite.{all_commits, IsOfItsSite, IsBySite, IsPlaceOf}
use Rattle.td_vote.proofs.Placing.{smaller_site, not_greater, put_front, put_behind, put_of_site}

-- ---- one put in among others, and one in place of another

module _ (P : SiteCommits → Type 0) where
  all_insert : (sites : List SiteCommits) (i : ℕ) (s : SiteCommits) → P s → AllByRecursion P sites
      → AllByRecursion P (insert sites i s)
  all_insert [] zero s h all = (h, tt)
  all_insert [] (suc i) s h all = (h, tt)
  all_insert (r ∷ sites) zero s h all = (h, all)
  all_insert (r ∷ sites) (suc i) s h all = (all.0, all_insert sites i s h all.1)

  pub all_set : (sites : List SiteCommits) (i : ℕ) (s : SiteCommits) → P s → AllByRecursion P sites
      → AllByRecursion P (set sites i s)
  all_set [] i s h all = tt
  all_set (r ∷ sites) zero s h all = (h, all.1)
  all_set (r ∷ sites) (suc i) s h all = (all.0, all_set sites i s h all.1)

  pub within_set : (sites : List SiteCommits) (i : ℕ) (s : SiteCommits) → P s → AllWithin P sites 0 i
      → i < length sites → (k : ℕ) (d : SiteCommits) → 0 ≤ k → k < i + 1 → P (slice_index_or (set sites i s) k d)
  within_set [] i s h all lt k d l m = absurd (omega arith)
  within_set (r ∷ sites) zero s h all lt zero d l m = h
  within_set (r ∷ sites) zero s h all lt (suc k) d l m = absurd (omega arith)
  within_set (r ∷ sites) (suc i) s h all lt zero d l m = all 0 d (omega arith) (omega arith)
  within_set (r ∷ sites) (suc i) s h all lt (suc k) d l m =
      within_set sites i s h (λ j e a b. all (suc j) e (omega arith) (omega arith)) (omega arith) k d (omega arith)
      (omega arith)

  pub kept_set : (sites : List SiteCommits) (i : ℕ) (s : SiteCommits) → P s → All P sites → All P (set sites i s)
  kept_set sites i s h all =
      All-from_recursion P (set sites i s) (all_set sites i s h (recursion_from_All P sites all))

  -- what holds of each holds of the one at a place
  pub all_at : (sites : List SiteCommits) (i : ℕ) (e : SiteCommits) → AllByRecursion P sites → i < length sites
      → e ≡ get_or sites i e → P e
  all_at sites i e all lt is = subst P (sym is) (All-from_recursion P sites all i e lt)

-- ---- the sites rise

abbrev Rise : SiteCommits → SiteCommits → Type 0
Rise s t = s.site < t.site

rise_insert : (sites : List SiteCommits) (i : ℕ) (s : SiteCommits) → Successive Rise sites → i ≤ length sites
    → AllWithin (λ (t : SiteCommits). t.site < s.site) sites 0 i
    → (i < length sites → HoldsAt (λ (t : SiteCommits). s.site < t.site) sites i) → Successive Rise (insert sites i s)
rise_insert [] zero s rise le before next = (tt, tt)
rise_insert [] (suc i) s rise le before next = (tt, tt)
rise_insert (r ∷ sites) zero s rise le before next =
    let here : s.site < r.site = next (omega arith) s in
    let later : AllByRecursion (Rise s) sites = all_of (Rise s) sites (λ t i.
    let up : r.site < t.site = all_in (Rise r) sites rise.0 t i in
    omega arith) in
    ((here, later), rise)
rise_insert (r ∷ sites) (suc i) s rise le before next =
    let here : r.site < s.site = before 0 s (omega arith) (omega arith) in (
      all_insert (Rise r) sites i s here rise.0,
      rise_insert sites i s rise.1 (omega arith) (λ k d l m. before (suc k) d (omega arith) (omega arith))
          (λ l d. next (omega arith) d),
    )

rise_set : (sites : List SiteCommits) (i : ℕ) (e s : SiteCommits) → Successive Rise sites → i < length sites
    → e ≡ get_or sites i e → s.site ≡ e.site → Successive Rise (set sites i s)
rise_set [] i e s rise lt is same = tt
rise_set (r ∷ sites) zero e s rise lt is same =
    let site : r.site ≡ s.site = sym (same ∙ ap (λ (q : SiteCommits). q.site) is) in
    (subst (λ (n : ℕ). AllByRecursion (λ (t : SiteCommits). n < t.site) sites) site rise.0, rise.1)
rise_set (r ∷ sites) (suc i) e s rise lt is same =
    let up : r.site < e.site = all_at (Rise r) sites i e rise.0 (omega arith) is in
    (all_set (Rise r) sites i s (omega arith) rise.0, rise_set sites i e s rise.1 (omega arith) is same)

-- ---- the place of a site

lt_true_at : (x y : ℕ) (o : Ordering) → Compares x y o → is_lt o ≡ true → x < y
lt_true_at x y Less c h = c
lt_true_at x y Equal c h = absurd (true≢false (sym h))
lt_true_at x y Greater c h = absurd (true≢false (sym h))

lt_false_at : (x y : ℕ) (o : Ordering) → Compares x y o → is_lt o ≡ false → y ≤ x
lt_false_at x y Less c h = absurd (true≢false h)
lt_false_at x y Equal c h = omega arith
lt_false_at x y Greater c h = omega arith

true_lt_at : (x y : ℕ) (o : Ordering) → Compares x y o → x < y → is_lt o ≡ true
true_lt_at x y Less c h = refl
true_lt_at x y Equal c h = absurd (omega arith)
true_lt_at x y Greater c h = absurd (omega arith)

abbrev pub is_smaller : ℕ → SiteCommits → Bool
is_smaller site s = is_lt (nat_cmp s.site site)

smaller_before : (site : ℕ) (s t : SiteCommits) → s.site < t.site → is_smaller site t ≡ true
    → is_smaller site s ≡ true
smaller_before site s t lt h =
    let below : t.site < site = lt_true_at t.site site (nat_cmp t.site site) (compares t.site site) h in
    true_lt_at s.site site (nat_cmp s.site site) (compares s.site site) (omega arith)

pub smaller_sites_first : (site : ℕ) (sites : List SiteCommits) → IsBySite sites
    → IsPartitionedBy (is_smaller site) sites
smaller_sites_first site sites by =
    passing_first (is_smaller site) sites
    (successive_imp Rise (λ (s t : SiteCommits). is_smaller site t ≡ true → is_smaller site s ≡ true)
    (λ s t lt h. smaller_before site s t lt h) sites by.rising)

pub place_from_point : (site : ℕ) (sites : List SiteCommits) (i : ℕ) → i ≤ length sites
    → IsPartitionPoint (λ (s : SiteCommits). is_smaller site s ≡ true)
    (λ (s : SiteCommits). is_smaller site s ≡ false) sites i → IsPlaceOf site sites i
place_from_point site sites i le p = record {
  bound = le;
  before =
      λ k d l m.
      let at = (slice_index_or sites k d).site in
      lt_true_at at site (nat_cmp at site) (compares at site) (p.0 k d l m);
  behind =
      λ k d l m.
      let at = (slice_index_or sites k d).site in
      lt_false_at at site (nat_cmp at site) (compares at site) (p.1 k d l m);
}

-- ---- by site

no_less : (m n : ℕ) → m ≤ n → n ≢ m → m < n
no_less m n le other =
    ⊎_elim (λ (k : m < n). k) (λ (k : n ≤ m). let same : n ≡ m = omega arith in absurd (other same)) (cases_lt m n)

pub by_site_insert : (sites : List SiteCommits) (i : ℕ) (s : SiteCommits) → IsBySite sites
    → IsPlaceOf s.site sites i
    → (i < length sites → HoldsAt (λ (t : SiteCommits). t.site ≢ s.site) sites i)
    → IsOfItsSite s → IsBySite (insert sites i s)
by_site_insert sites i s by p other own = record {
  rising = rise_insert sites i s by.rising p.bound p.before (λ l d.
      no_less s.site (slice_index_or sites i d).site (p.behind i d (omega arith) l) (other l d));
  own = all_insert IsOfItsSite sites i s own by.own;
}

pub by_site_set : (sites : List SiteCommits) (i : ℕ) (e s : SiteCommits) → IsBySite sites → i < length sites
    → e ≡ get_or sites i e → s.site ≡ e.site → IsOfItsSite s → IsBySite (set sites i s)
by_site_set sites i e s by lt is same own = record {
  rising = rise_set sites i e s by.rising lt is same;
  own = all_set IsOfItsSite sites i s own by.own;
}

-- ---- all commits

-- an empty list more
pub no_more : (sites : List SiteCommits) (i : ℕ) (s : SiteCommits) → s.commits.items ≡ []
    → all_commits (insert sites i s) ≡ all_commits sites
no_more [] zero s none = ap (λ (q : List Committed). q ++ []) none
no_more [] (suc i) s none = ap (λ (q : List Committed). q ++ []) none
no_more (r ∷ sites) zero s none = ap (λ (q : List Committed). q ++ all_commits (r ∷ sites)) none
no_more (r ∷ sites) (suc i) s none = ap (λ (q : List Committed). r.commits.items ++ q) (no_more sites i s none)

-- the same commits at a place
pub same_there : (sites : List SiteCommits) (i : ℕ) (e s : SiteCommits) → e ≡ get_or sites i e
    → s.commits.items ≡ e.commits.items → all_commits (set sites i s) ≡ all_commits sites
same_there [] i e s is same = refl
same_there (r ∷ sites) zero e s is same =
    ap (λ (q : List Committed). q ++ all_commits sites)
    (same ∙ ap (λ (q : SiteCommits). q.commits.items) is)
same_there (r ∷ sites) (suc i) e s is same =
    ap (λ (q : List Committed). r.commits.items ++ q) (same_there sites i e s is same)

-- what holds of each site holds of the site of each commit
of_sites : (P : ℕ → Type 0) (sites : List SiteCommits) → AllByRecursion (λ (s : SiteCommits). P s.site) sites
    → AllByRecursion IsOfItsSite sites → (c : Committed) → In c (all_commits sites) → P c.dot.site
of_sites P [] all own c i = absurd i
of_sites P (s ∷ sites) all own c i =
    ⊎_elim
    (λ (j : In c s.commits.items).
    subst P (sym (all_in (λ (d : Committed). d.dot.site ≡ s.site) s.commits.items own.0.one c j)) all.0)
    (λ (j : In c (all_commits sites)). of_sites P sites all.1 own.1 c j)
    (In-append c s.commits.items (all_commits sites) i)

-- what is put in stays of its site
pub own_after : {T E : Type 0} (r : Result T E) (c : Committed) (old new : List Committed) (site : ℕ)
    → c.dot.site ≡ site → IsOfSite site old → OnOk r (new ≡ put_commit c old) → OnErr r (new ≡ old)
    → IsOfSite site new
own_after (Ok x) c old new site here of ok err = subst (IsOfSite site) (sym ok) (put_of_site c old site here of)
own_after (Err x) c old new site here of ok err = subst (IsOfSite site) (sym err) of

-- one commit more at the place of its site
pub put_there : (c : Committed) (sites : List SiteCommits) (i : ℕ) (e s : SiteCommits) → IsBySite sites
    → i < length sites → e ≡ get_or sites i e → c.dot.site ≡ e.site
    → s.commits.items ≡ put_commit c e.commits.items
    → all_commits (set sites i s) ≡ put_commit c (all_commits sites)
put_there c [] i e s by lt is here new = absurd (omega arith)
put_there c (r ∷ sites) zero e s by lt is here new =
    let site : c.dot.site ≡ r.site = here ∙ ap (λ (q : SiteCommits). q.site) is in
    let above : AllByRecursion (λ (t : SiteCommits). c.dot.site < t.site) sites =
    subst (λ (n : ℕ). AllByRecursion (λ (t : SiteCommits). n < t.site) sites) (sym site) by.rising.0 in
    ap (λ (q : List Committed). q ++ all_commits sites)
    (new ∙ ap (λ (q : SiteCommits). put_commit c q.commits.items) is)
    ∙ sym (put_front c r.commits.items (all_commits sites) (λ d j.
    not_greater c d (of_sites (λ (n : ℕ). c.dot.site < n) sites above by.own.1 d j)))
put_there c (r ∷ sites) (suc i) e s by lt is here new =
    let up : r.site < e.site = all_at (Rise r) sites i e by.rising.0 (omega arith) is in
    let rest : all_commits (set sites i s) ≡ put_commit c (all_commits sites) =
    put_there c sites i e s (record { rising = by.rising.1; own = by.own.1 }) (omega arith) is here new in
    ap (λ (q : List Committed). r.commits.items ++ q) rest
    ∙ sym (put_behind c r.commits.items (all_commits sites) (λ d j.
    let site : d.dot.site ≡ r.site =
    all_in (λ (x : Committed). x.dot.site ≡ r.site) r.commits.items by.own.0.one d j in
    smaller_site d c (omega arith)))

-- ---- places

pub no_place : (b : Bool) → (b ≡ true → ⊥) → ◌≡◌ {A = ℕ} (if b then 1 else 0) 0
no_place true h = absurd (h refl)
no_place false h = refl

pub used_up : (b : Bool) → 0 < (if b then 1 else 0) → ◌≡◌ {A = ℕ} (0 + 1) (if b then 1 else 0)
used_up true h = refl
used_up false h = absurd (omega arith)
