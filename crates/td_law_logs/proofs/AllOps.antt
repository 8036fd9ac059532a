-- The list of all operations of a family.
use Rattle.std.proofs.Common.{◌≡◌, ◌≢◌, ◌<◌, ◌≤◌, ℕ, zero, suc, List, length, Bool, true}
use Rattle.std.proofs.Common.{false, nat_eq, refl, ap, subst, ⊎_elim, arith}
use Rattle.std.proofs.lemmas.Bool.{eqb-true, eqb-false}
use Rattle.td_base.specs.Value.{DotValue}
use Rattle.td_base.specs.Lists.{In, Successive}
use Rattle.td_base.proofs.Lists.{In-append, In-front, In-back, In-filter, filter_In}
use Rattle.td_base.proofs.Lists.{successive_append, successive_filter}
use Rattle.td_op.specs.Op.{OpValue}
use Rattle.td_machine.specs.Counts.{ops_of}
use Rattle.td_machine.specs.History.{Family, IsConsistent, IsOpOf, log_of}
use Rattle.td_machine.proofs.Family.{made_at}
use Rattle.td_law_logs.proofs.Moments.{log_causal}
use Rattle.td_law_logs.proofs.WellRooted.{dots_differ}
use Rattle.td_law_logs.specs.Part.{IsPartOf}
use Rattle.td_law_logs.specs.AllOps.{IsAllOf, ops_upto, all_ops}

abbrev Other : OpValue → OpValue → Type 0
Other x y = x.dot ≢ y.dot

module _ (family : Family) (c : IsConsistent family) where
  abbrev n : ℕ
  n = length family

  own_site : (s : ℕ) (log : List OpValue) (x : OpValue) → In x (ops_of s log) → In x log × (x.dot.site ≡ s)
  own_site s log x i = let f = In-filter (λ (y : OpValue). nat_eq y.dot.site s) x log i in
      (f.0, eqb-true x.dot.site s f.1)

  upto_sites : (k : ℕ) → k ≤ n → (x : OpValue) → In x (ops_upto family k)
      → (0 < x.dot.site) × (x.dot.site ≤ k) × IsOpOf family x
  upto_sites zero h x i = absurd i
  upto_sites (suc k) h x i =
      ⊎_elim
      (λ (j : In x (ops_of (suc k) (log_of family (suc k)))).
      let o = own_site (suc k) (log_of family (suc k)) x j in
      let e : x.dot.site ≡ suc k = o.1 in
      (omega (arith, e), omega (arith, e), record { site = suc k; some = omega arith; within = h; inside = o.0 }))
      (λ (j : In x (ops_upto family k)). let r = upto_sites k (omega (arith, h)) x j in let u = r.1 in
      (r.0, omega (arith, u), r.2))
      (In-append x (ops_of (suc k) (log_of family (suc k))) (ops_upto family k) i)

  upto_has : (k : ℕ) (x : OpValue) → IsOpOf family x → 0 < x.dot.site → x.dot.site ≤ k → In x (ops_upto family k)
  upto_has zero x o up low = absurd (omega (arith, up, low))
  upto_has (suc k) x o up low = from (nat_eq x.dot.site (suc k)) refl (λ h. upto_has k x o up h)
    where
      from : (b : Bool) → nat_eq x.dot.site (suc k) ≡ b → (x.dot.site ≤ k → In x (ops_upto family k))
          → In x (ops_upto family (suc k))
      from true e ih =
          let same = eqb-true x.dot.site (suc k) e in
          In-front x (ops_of (suc k) (log_of family (suc k))) (ops_upto family k)
          (filter_In (λ (y : OpValue). nat_eq y.dot.site (suc k)) x (log_of family (suc k))
          (subst (λ (s : ℕ). In x (log_of family s)) same (made_at family c x o).2) e)
      from false e ih =
          let other = eqb-false x.dot.site (suc k) e in
          In-back x (ops_of (suc k) (log_of family (suc k))) (ops_upto family k) (ih (omega (arith, low, other)))

  upto_differ : (k : ℕ) → k ≤ n → Successive Other (ops_upto family k)
  upto_differ zero h = tt
  upto_differ (suc k) h =
      successive_append Other (ops_of (suc k) (log_of family (suc k))) (ops_upto family k)
      (successive_filter Other (λ (y : OpValue). nat_eq y.dot.site (suc k)) (log_of family (suc k))
      (dots_differ n (log_of family (suc k)) (log_causal family c (suc k) (omega arith) h)))
      (upto_differ k (omega (arith, h)))
      (λ x y i j e.
      let a : x.dot.site ≡ suc k = (own_site (suc k) (log_of family (suc k)) x i).1 in
      let b : y.dot.site ≤ k = (upto_sites k (omega (arith, h)) y j).1 in
      let s : x.dot.site ≡ y.dot.site = ap (λ (d : DotValue). d.site) e in
      omega (arith, a, b, s))

  -- they are all, each once
  pub all_of_family : IsAllOf family (all_ops family)
  all_of_family =
      record {
        apart = upto_differ n (omega arith);
        is = λ x. (
          (λ i. (upto_sites n (omega arith) x i).2),
          (λ o. let m = made_at family c x o in
              upto_has n x o m.0 m.1),
        );
      }

  -- so they are a part of the family
  pub all_part : IsPartOf family (all_ops family)
  all_part =
      record {
        apart = all_of_family.apart;
        inside = λ x i. (all_of_family.is x).0 i;
        pasts = λ x y i o past. (all_of_family.is y).1 o;
      }
