-- A base is no longer than a log that has what it was made on.
use Rattle.std.proofs.Common.{◌≡◌, ◌<◌, ◌≤◌, ◌+◌, ◌-◌, ℕ, zero, suc, List, [], ◌∷◌, length, replicate}
use Rattle.std.proofs.Common.{get_or, set, refl, sym, ap, ◌∙◌, subst, ⊎_elim, arith}
use Rattle.std.proofs.lemmas.List.Sums.{sum_by-cons}
use Rattle.std.specs.Prelude.{IsTrue, sum}
use Rattle.td_clock.specs.Vector.{vector_covers}
use Rattle.td_clock.proofs.VectorLemmas.{covered_sum, covers_along}
use Rattle.td_op.specs.Op.{OpValue}
use Rattle.td_machine.specs.Counts.{counts, IsInTurn}
use Rattle.td_machine.specs.History.{Family, IsConsistent, IsOpOf}
use Rattle.td_machine.proofs.Family.{place, past_covered, made_at}
use Rattle.td_law_logs.proofs.Moments.{log_causal}
use Rattle.td_law_logs.specs.Logs.{before, base_from, base}
use Rattle.td_law_logs.proofs.Bases.{tail, causal, anchor, home_log, log_at_is, before_is}

sum_zero : (k : ℕ) → sum (replicate k 0) ≡ 0
sum_zero zero = refl
sum_zero (suc k) = let h = sum_zero k in let s = sum_by-cons (λ (x : ℕ). x) 0 (replicate k 0) in omega (arith, h, s)

sum_raised : (v : List ℕ) (k : ℕ) → k < length v → sum (set v k (get_or v k 0 + 1)) ≡ sum v + 1
sum_raised [] k h = absurd (omega arith)
sum_raised (m ∷ v) zero h =
    let a = sum_by-cons (λ (x : ℕ). x) m v in
    let b = sum_by-cons (λ (x : ℕ). x) (m + 1) v in
    omega (arith, a, b)
sum_raised (m ∷ v) (suc k) h =
    let ih = sum_raised v k (omega (arith, h)) in
    let a = sum_by-cons (λ (x : ℕ). x) m v in
    let b = sum_by-cons (λ (x : ℕ). x) m (set v k (get_or v k 0 + 1)) in
    omega (arith, a, b, ih)

-- a vector counts as many as it was counted from
pub length_sum : (n : ℕ) (log : List OpValue) → IsInTurn n log → length log ≡ sum (counts n log)
length_sum n [] c = sym (sum_zero n)
length_sum n (x ∷ log) c =
    let ih = length_sum n log c.1 in
    let some : 0 < x.dot.site = c.0.some in
    let within : x.dot.site ≤ length (counts n log) = c.0.within in
    let r = sum_raised (counts n log) (x.dot.site - 1) (omega (arith, some, within)) in
    omega (arith, ih, r)

module _ (family : Family) (c : IsConsistent family) where
  abbrev n : ℕ
  n = length family

  -- an operation knows all of its base
  pub deps_are : (q : OpValue) → IsOpOf family q → q.deps ≡ counts n (base_from family q.dot)
  deps_are q o =
      let p = place family c q o in
      let m = made_at family c q o in
      let b : base_from family q.dot ≡ p.older = ap (before q.dot) (log_at_is family c q.dot.site m.0 ∙ p.is)
      ∙ (before_is n p.newer q p.older
      (subst (λ (z : List OpValue). IsInTurn n z) p.is (log_causal family c q.dot.site m.0 m.1))).0 in
      p.deps ∙ ap (counts n) (sym b)

  home_sum : (q : OpValue) → IsOpOf family q → length (base_from family q.dot) ≡ sum q.deps
  home_sum q o =
      let l = home_log family c q o in
      let k = causal family c (base_from family q.dot) (tail family c q (base_from family q.dot) l) in
      length_sum n (base_from family q.dot) k ∙ ap sum (sym (deps_are q o))

  pub base_few : (o : OpValue) (log : List OpValue) → IsOpOf family o → IsTrue (vector_covers (counts n log) o.deps)
      → IsInTurn n log → length (base family o) ≤ length log
  base_few o log k covers causal_log =
      let a = anchor family c o k in
      let s = home_sum a.op a.of in
      let covered : IsTrue (vector_covers (counts n log) a.op.deps) =
      ⊎_elim (λ (e : a.op ≡ o). subst (λ (z : OpValue). IsTrue (vector_covers (counts n log) z.deps)) (sym e) covers)
      (λ e. covers_along (counts n log) o.deps a.op.deps covers (past_covered family c a.op o a.of k e)) a.how in
      let less = covered_sum (counts n log) a.op.deps covered in
      let len = length_sum n log causal_log in
      subst (λ (z : List OpValue). length z ≤ length log) (ap (base_from family) a.dot) (omega (arith, s, less, len))
