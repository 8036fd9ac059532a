-- Replicas side by side: one of them changed, and their histories.
use Rattle.std.proofs.Common.{◌≡◌, ◌≢◌, ◌<◌, ◌≤◌, ◌+◌, ◌-◌, ◌++◌, ℕ, zero, suc, List, [], ◌∷◌}
use Rattle.std.proofs.Common.{length, map, set, get_or, refl, ap, ◌∙◌, arith}
use Rattle.std.specs.Prelude.{Some}
use Rattle.std.specs.List.{slice_get}
use Rattle.td_op.specs.declared.entry.Entry.{Entry}
use Rattle.td_machine.specs.History.{History, history_at, with_entry_at}
use Rattle.td_replica.specs.Replica.{ReplicaValue, new_replica}
use Rattle.td_world.specs.World.{replica_from, new_replicas}

pub set_same : (replicas : List ReplicaValue) (k : ℕ) (r : ReplicaValue) → k < length replicas
    → replica_from (set replicas k r) k ≡ r
set_same [] k r few = absurd (omega (arith, few))
set_same (q ∷ replicas) zero r few = refl
set_same (q ∷ replicas) (suc k) r few = set_same replicas k r (omega (arith, few))

pub set_other : (replicas : List ReplicaValue) (k j : ℕ) (r : ReplicaValue) → k ≢ j
    → replica_from (set replicas k r) j ≡ replica_from replicas j
set_other [] k j r other = refl
set_other (q ∷ replicas) zero zero r other = absurd (other refl)
set_other (q ∷ replicas) zero (suc j) r other = refl
set_other (q ∷ replicas) (suc k) zero r other = refl
set_other (q ∷ replicas) (suc k) (suc j) r other = set_other replicas k j r (λ e. other (ap suc e))

pub history_from : (replicas : List ReplicaValue) (k : ℕ)
    → history_at (map (λ (r : ReplicaValue). r.entries) replicas) k ≡ (replica_from replicas k).entries
history_from [] k = refl
history_from (r ∷ replicas) zero = refl
history_from (r ∷ replicas) (suc k) = history_from replicas k

pub found_from : (replicas : List ReplicaValue) (k : ℕ) (r : ReplicaValue) → slice_get replicas k ≡ Some r
    → replica_from replicas k ≡ r
found_from [] k r e = absurd cc
found_from (q ∷ replicas) zero r e = cc
found_from (q ∷ replicas) (suc k) r e = found_from replicas k r e

-- one of the histories with an entry more
pub with_entries : (replicas : List ReplicaValue) (k : ℕ) (r : ReplicaValue) (e : Entry)
    → r.entries ≡ (replica_from replicas k).entries ++ e ∷ []
    → map (λ (q : ReplicaValue). q.entries) (set replicas k r)
    ≡ with_entry_at k e (map (λ (q : ReplicaValue). q.entries) replicas)
with_entries [] k r e more = refl
with_entries (q ∷ replicas) zero r e more = ap (λ (h : History). h ∷ map (λ (p : ReplicaValue). p.entries) replicas)
    more
with_entries (q ∷ replicas) (suc k) r e more =
    ap (λ (t : List History). q.entries ∷ t) (with_entries replicas k r e more)

pub new_length : (n k site : ℕ) → length (new_replicas n k site) ≡ k
new_length n zero site = refl
new_length n (suc k) site = ap suc (new_length n k (suc site))

pub new_from : (n k site j : ℕ) → j < k → replica_from (new_replicas n k site) j ≡ new_replica (site + j) n
new_from n zero site j few = absurd (omega (arith, few))
new_from n (suc k) site zero few = ap (λ (s : ℕ). new_replica s n) (same site)
  where
    same : (s : ℕ) → s ≡ s + 0
    same s = omega arith
new_from n (suc k) site (suc j) few =
    let ih : replica_from (new_replicas n k (suc site)) j ≡ new_replica (suc site + j) n =
    new_from n k (suc site) j (omega (arith, few)) in
    let e : suc site + j ≡ site + suc j = omega arith in
    ih ∙ ap (λ (s : ℕ). new_replica s n) e

pub or_from : (replicas : List ReplicaValue) (k : ℕ) (d : ReplicaValue) → k < length replicas
    → get_or replicas k d ≡ replica_from replicas k
or_from [] k d few = absurd (omega (arith, few))
or_from (r ∷ replicas) zero d few = refl
or_from (r ∷ replicas) (suc k) d few = or_from replicas k d (omega (arith, few))

-- one of its sites stands at its place
pub at_site : (replicas : List ReplicaValue) (site place : ℕ) (r : ReplicaValue) → place ≡ site - 1 → 1 ≤ site
    → site ≤ length replicas → r ≡ get_or replicas place r → r ≡ replica_from replicas (site - 1)
at_site replicas site place r e some within is =
    is ∙ or_from replicas place r (omega (arith, e, some, within)) ∙ ap (λ (k : ℕ). replica_from replicas k) e

pub set_itself : (replicas : List ReplicaValue) (k : ℕ) (r : ReplicaValue) → r ≡ get_or replicas k r
    → set replicas k r ≡ replicas
set_itself [] k r e = refl
set_itself (q ∷ replicas) zero r e = ap (λ (p : ReplicaValue). p ∷ replicas) e
set_itself (q ∷ replicas) (suc k) r e = ap (λ (l : List ReplicaValue). q ∷ l) (set_itself replicas k r e)
