-- The commits of a site that a vector does not have stand last among them.
use Rattle.std.proofs.Common.{◌≡◌, ◌≤◌, ◌&&◌, ◌||◌, ℕ, zero, suc, List, [], ◌∷◌, Bool, true, false, not, length}
use Rattle.std.proofs.Common.{cond, drop, filter, refl, sym, ap, ◌∙◌, arith}
use Rattle.std.proofs.lemmas.Bool.{leb-true, le-leb}
use Rattle.std.specs.List.{list_all}
use Rattle.std.specs.List.Sorted.{IsPartitionedBy, IsPartitionPoint}
use Rattle.td_base.proofs.Lists.{all_in}
use Rattle.td_base.proofs.Elements.{successive_among}
use Rattle.td_base.proofs.Orders.{dot_lt_false}
use Rattle.td_base.proofs.Searches.{passing_first}
use Rattle.td_clock.specs.Vector.{vector_get, vector_has}
use Rattle.td_machine.specs.Log.{Committed}
use Rattle.td_vote.specs.Commits.{AtMost, IsOfSite}

-- ---- those that it has stand first

module _ (v : List ℕ) where
  had_before : (c d : Committed) → c.dot.site ≡ d.dot.site → AtMost c d → vector_has v d.dot ≡ true
      → vector_has v c.dot ≡ true
  had_before c d one upto h =
      let low : c.dot.seq ≤ d.dot.seq = (dot_lt_false d.dot c.dot upto).1 one in
      let number : d.dot.seq ≤ vector_get v d.dot.site = leb-true d.dot.seq (vector_get v d.dot.site) h in
      let same : vector_get v c.dot.site ≡ vector_get v d.dot.site = ap (vector_get v) one in
      le-leb c.dot.seq (vector_get v c.dot.site) (omega arith)

  pub had_first : (site : ℕ) (commits : List Committed) → IsOfSite site commits
      → IsPartitionedBy (λ (c : Committed). vector_has v c.dot) commits
  had_first site commits of =
      let here = λ (c : Committed). c.dot.site ≡ site in
      passing_first (λ (c : Committed). vector_has v c.dot) commits
      (successive_among AtMost (λ (c d : Committed). vector_has v d.dot ≡ true → vector_has v c.dot ≡ true) commits
      (λ c d i j upto h.
      had_before c d (all_in here commits of.one c i ∙ sym (all_in here commits of.one d j)) upto h)
      of.order)

-- ---- the others

module _ (had : Committed → Bool) where
  pub unseen_last : (commits : List Committed) (n : ℕ) → n ≤ length commits
      → IsPartitionPoint (λ (c : Committed). had c ≡ true) (λ (c : Committed). had c ≡ false) commits n
      → drop n commits ≡ filter (λ (c : Committed). not (had c)) commits
  unseen_last [] zero le p = refl
  unseen_last [] (suc n) le p = refl
  unseen_last (c ∷ commits) zero le p =
      let rest : drop 0 commits ≡ filter (λ (d : Committed). not (had d)) commits =
      unseen_last commits zero (omega arith) (
        λ k e l m. absurd (omega arith),
        λ k e l m. p.1 (suc k) e (omega arith) (omega arith),
      ) in
      rw (p.1 0 c (omega arith) (omega arith)) (ap (λ (q : List Committed). c ∷ q) rest)
  unseen_last (c ∷ commits) (suc n) le p =
      rw (p.0 0 c (omega arith) (omega arith)) (unseen_last commits n (omega arith) (
        λ k e l m. p.0 (suc k) e (omega arith) (omega arith),
        λ k e l m. p.1 (suc k) e (omega arith) (omega arith),
      ))

  module _ (apart : Committed → Bool) where
    only_unseen_at : (c : Committed) (commits : List Committed) (b : Bool)
        → list_all (λ (d : Committed). had d || apart d) commits
        ≡ list_all apart (filter (λ (d : Committed). not (had d)) commits)
        → ((b || apart c) && list_all (λ (d : Committed). had d || apart d) commits)
        ≡ list_all apart (cond (not b) (c ∷ filter (λ (d : Committed). not (had d)) commits)
        (filter (λ (d : Committed). not (had d)) commits))
    only_unseen_at c commits true h = h
    only_unseen_at c commits false h = ap (λ (b : Bool). apart c && b) h

    -- those that the vector has need not be looked at
    pub only_unseen : (commits : List Committed) → list_all (λ (d : Committed). had d || apart d) commits
        ≡ list_all apart (filter (λ (d : Committed). not (had d)) commits)
    only_unseen [] = refl
    only_unseen (c ∷ commits) = only_unseen_at c commits (had c) (only_unseen commits)
