-- Where a commit is put among those in order, and that they stay in order.
use Rattle.std.proofs.Common.{◌≡◌, ◌<◌, ◌≤◌, ℕ, zero, suc, List, [], ◌∷◌, ◌++◌, Bool, true, false, inl, inr}
use Rattle.std.proofs.Common.{if◌then◌else◌, length, refl, sym, ap, ◌∙◌, arith, true≢false}
use Rattle.std.proofs.lemmas.List.Sorted.{ranks_by}
use Rattle.std.specs.Cmp.{IsStrictWeakOrder}
use Rattle.std.specs.Prelude.{insert}
use Rattle.std.specs.List.{AllByRecursion}
use Rattle.std.specs.List.Sorted.{IsPartitionedBy, IsPartitionPoint}
use Rattle.td_base.specs.Value.{DotValue}
use Rattle.td_base.specs.Order.{dot_lt}
use Rattle.td_base.specs.Lists.{In}
use Rattle.td_base.proofs.Lists.{all_in, all_of, successive_imp}
use Rattle.td_base.proofs.Orders.{dot_total, dot_lt_from}
use Rattle.td_base.proofs.Searches.{passing_first}
use Rattle.td_machine.specs.Log.{Committed}
use Rattle.td_vote.specs.Commits.{put_commit, AtMost, InOrder, IsOfSite}

dots_rank : IsStrictWeakOrder dot_lt
dots_rank = ranks_by dot_total (λ (d : DotValue). d)

-- ---- where it is put

smaller_before : (dot : DotValue) (c d : Committed) → AtMost c d → dot_lt d.dot dot ≡ true → (b : Bool)
    → dot_lt c.dot dot ≡ b → b ≡ true
smaller_before dot c d le lt true e = refl
smaller_before dot c d le lt false e = absurd (true≢false (sym lt ∙ dots_rank.chain d.dot c.dot dot le e))

-- those with a smaller dot stand first
pub smaller_first : (dot : DotValue) (commits : List Committed) → InOrder commits
    → IsPartitionedBy (λ (c : Committed). dot_lt c.dot dot) commits
smaller_first dot commits order =
    passing_first (λ (c : Committed). dot_lt c.dot dot) commits
    (successive_imp AtMost (λ (c d : Committed). dot_lt d.dot dot ≡ true → dot_lt c.dot dot ≡ true)
    (λ c d le lt. smaller_before dot c d le lt (dot_lt c.dot dot) refl) commits order)

-- between those with a smaller dot and the others
pub put_at_point : (c : Committed) (commits : List Committed) (i : ℕ) → i ≤ length commits
    → IsPartitionPoint (λ (d : Committed). dot_lt d.dot c.dot ≡ true) (AtMost c) commits i
    → insert commits i c ≡ put_commit c commits
put_at_point c [] zero le p = refl
put_at_point c [] (suc i) le p = absurd (omega arith)
put_at_point c (d ∷ commits) zero le p = rw (p.1 0 d (omega arith) (omega arith)) refl
put_at_point c (d ∷ commits) (suc i) le p =
    let rest = put_at_point c commits i (omega arith) (
      λ k e l m. p.0 (suc k) e (omega arith) (omega arith),
      λ k e l m. p.1 (suc k) e (omega arith) (omega arith),
    ) in
    rw (p.0 0 d (omega arith) (omega arith)) (λ k. d ∷ rest k)

-- ---- the order is kept

module _ (P : Committed → Type 0) where
  all_put_at : (c d : Committed) (commits : List Committed) (b : Bool) → P c → P d → AllByRecursion P commits
      → AllByRecursion P (put_commit c commits)
      → AllByRecursion P (if b then d ∷ put_commit c commits else c ∷ d ∷ commits)
  all_put_at c d commits true h k rest put = (k, put)
  all_put_at c d commits false h k rest put = (h, (k, rest))

  pub all_put : (c : Committed) (commits : List Committed) → P c → AllByRecursion P commits
      → AllByRecursion P (put_commit c commits)
  all_put c [] h rest = (h, tt)
  all_put c (d ∷ commits) h rest =
      all_put_at c d commits (dot_lt d.dot c.dot) h rest.0 rest.1 (all_put c commits h rest.1)

at_most_all : (c d : Committed) (commits : List Committed) → AtMost c d → AllByRecursion (AtMost d) commits
    → AllByRecursion (AtMost c) commits
at_most_all c d commits h rest =
    all_of (AtMost c) commits (λ e i. dots_rank.chain e.dot d.dot c.dot (all_in (AtMost d) commits rest e i) h)

put_in_order_at : (c d : Committed) (commits : List Committed) (b : Bool) → dot_lt d.dot c.dot ≡ b
    → InOrder (d ∷ commits) → InOrder (put_commit c commits)
    → InOrder (if b then d ∷ put_commit c commits else c ∷ d ∷ commits)
put_in_order_at c d commits true e order put =
    (all_put (AtMost d) c commits (dots_rank.one_way d.dot c.dot e) order.0, put)
put_in_order_at c d commits false e order put = ((e, at_most_all c d commits e order.0), order)

pub put_in_order : (c : Committed) (commits : List Committed) → InOrder commits → InOrder (put_commit c commits)
put_in_order c [] order = (tt, tt)
put_in_order c (d ∷ commits) order =
    put_in_order_at c d commits (dot_lt d.dot c.dot) refl order (put_in_order c commits order.1)

pub put_of_site : (c : Committed) (commits : List Committed) (site : ℕ) → c.dot.site ≡ site → IsOfSite site commits
    → IsOfSite site (put_commit c commits)
put_of_site c commits site here of = record {
  one = all_put (λ (d : Committed). d.dot.site ≡ site) c commits here of.one;
  order = put_in_order c commits of.order;
}

-- ---- where others stand before or behind

pub smaller_site : (c d : Committed) → c.dot.site < d.dot.site → dot_lt c.dot d.dot ≡ true
smaller_site c d lt = dot_lt_from c.dot d.dot (inl lt)

pub not_greater : (c d : Committed) → c.dot.site < d.dot.site → AtMost c d
not_greater c d lt = dots_rank.one_way c.dot d.dot (smaller_site c d lt)

-- behind it stand those that are no smaller
put_front_at : (c x : Committed) (xs ys : List Committed) (b : Bool)
    → put_commit c (xs ++ ys) ≡ put_commit c xs ++ ys
    → (if b then x ∷ put_commit c (xs ++ ys) else c ∷ x ∷ xs ++ ys)
    ≡ (if b then x ∷ put_commit c xs else c ∷ x ∷ xs) ++ ys
put_front_at c x xs ys true h = ap (λ (q : List Committed). x ∷ q) h
put_front_at c x xs ys false h = refl

put_first : (c : Committed) (ys : List Committed) → ((y : Committed) → In y ys → AtMost c y)
    → put_commit c ys ≡ c ∷ ys
put_first c [] h = refl
put_first c (y ∷ ys) h = rw (h y (inl refl)) refl

pub put_front : (c : Committed) (xs ys : List Committed) → ((y : Committed) → In y ys → AtMost c y)
    → put_commit c (xs ++ ys) ≡ put_commit c xs ++ ys
put_front c [] ys h = put_first c ys h
put_front c (x ∷ xs) ys h = put_front_at c x xs ys (dot_lt x.dot c.dot) (put_front c xs ys h)

-- before it stand those that are smaller
pub put_behind : (c : Committed) (xs ys : List Committed)
    → ((x : Committed) → In x xs → dot_lt x.dot c.dot ≡ true) → put_commit c (xs ++ ys) ≡ xs ++ put_commit c ys
put_behind c [] ys h = refl
put_behind c (x ∷ xs) ys h =
    let rest = put_behind c xs ys (λ y i. h y (inr i)) in
    rw (h x (inl refl)) (ap (λ (q : List Committed). x ∷ q) rest)
