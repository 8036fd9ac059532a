-- What is stable is in the past of all that is still to come.
use Rattle.std.proofs.Common.{◌≡◌, ◌≢◌, ◌<◌, ◌≤◌, ◌+◌, ◌-◌, ◌++◌, ℕ, zero, suc, List, [], ◌∷◌, Bool, true}
use Rattle.std.proofs.Common.{false, if◌then◌else◌, nat_eq, nat_le, min, length, replicate, Option, Some}
use Rattle.std.proofs.Common.{None, refl, sym, ap, ◌∙◌, subst, inl, true≢false, arith}
use Rattle.std.proofs.lemmas.Bool.{and_parts, and_from, eq-eqb, eqb-true, leb-true, le-leb}
use Rattle.std.specs.Prelude.{IsTrue, slice_get, slice_set, slice_index}
use Rattle.td_base.specs.Lists.{In}
use Rattle.td_base.proofs.Lists.{In-back, In-filter}
use Rattle.td_clock.specs.Vector.{vector_get, vector_has, vector_bump, vector_covers}
use Rattle.td_clock.proofs.VectorLemmas.{covers_itself, covers_along, covered_dots}
use Rattle.td_op.specs.Op.{OpValue}
use Rattle.td_op.specs.Past.{in_past}
use Rattle.td_machine.specs.Counts.{counts, ops_of, IsInTurn}
use Rattle.td_machine.specs.Machine.{Machine}
use Rattle.td_machine.specs.History.{Family, Moment, IsConsistent, IsOpOf, machine_at, log_of}
use Rattle.td_machine.proofs.Vectors.{bump_covers}
use Rattle.td_machine.proofs.Turns.{placed, counted}
use Rattle.td_machine.proofs.Induction.{built_at, log_grows}
use Rattle.td_machine.proofs.Family.{counted_had, op_at, place, past_covered, made_at, size_of}
use Rattle.td_doc.specs.Document.{DocRow, row_id}
use Rattle.td_doc.specs.Slots.{rows_in_slot, is_known}
use Rattle.td_path.specs.declared.slot.Slot.{Slot}
use Rattle.td_idle.specs.Stable.{vector_meet, had_by, known_of, stable_upto, stable}
use Rattle.td_doc.specs.Slots.{is_known_row}
use Rattle.td_base.proofs.Searches.{each_passes, all_pass}
use Rattle.std.specs.List.{list_all}
use Rattle.td_idle.specs.Candidate.{is_candidate}
use Rattle.td_idle.proofs.Candidates.{free}

-- ---- meets

min_first : (m n : ℕ) → IsTrue (nat_le (min m n) m)
min_first m n = le-leb (min m n) m (omega arith)

min_second : (m n : ℕ) → IsTrue (nat_le (min m n) n)
min_second m n = le-leb (min m n) n (omega arith)

pub meet_first : (v w : List ℕ) → IsTrue (vector_covers v (vector_meet v w))
meet_first v [] = refl
meet_first [] (n ∷ w) = refl
meet_first (m ∷ v) (n ∷ w) = and_from (nat_le (min m n) m) (vector_covers v (vector_meet v w)) (min_first m n)
    (meet_first v w)

pub meet_second : (v w : List ℕ) → IsTrue (vector_covers w (vector_meet v w))
meet_second v [] = refl
meet_second [] (n ∷ w) = refl
meet_second (m ∷ v) (n ∷ w) = and_from (nat_le (min m n) n) (vector_covers w (vector_meet v w)) (min_second m n)
    (meet_second v w)

-- what each is known to have covers what all are known to have
pub known_covers : (m : Machine) (k site : ℕ) → 0 < site → site ≤ k
    → IsTrue (vector_covers (known_of m site) (stable_upto m k))
known_covers m zero site some within = absurd (omega arith)
known_covers m (suc k) site some within = at (nat_eq site (suc k)) refl (λ l. known_covers m k site some l)
  where
    at : (b : Bool) → nat_eq site (suc k) ≡ b → (site ≤ k → IsTrue (vector_covers (known_of m site) (stable_upto m k)))
        → IsTrue (vector_covers (known_of m site) (vector_meet (stable_upto m k) (known_of m (suc k))))
    at true e ih =
        subst (λ (s : ℕ). IsTrue (vector_covers (known_of m s) (vector_meet (stable_upto m k) (known_of m (suc k)))))
        (sym (eqb-true site (suc k) e))
        (meet_second (stable_upto m k) (known_of m (suc k)))
    at false e ih =
        let n : site ≢ suc k = λ q. true≢false (sym (eq-eqb site (suc k) q) ∙ e) in
        covers_along (known_of m site) (stable_upto m k) (vector_meet (stable_upto m k) (known_of m (suc k)))
        (ih (omega (arith, n))) (meet_first (stable_upto m k) (known_of m (suc k)))

-- ---- vectors

pub covers_zeros : (v : List ℕ) → IsTrue (vector_covers v (replicate (length v) 0))
covers_zeros [] = refl
covers_zeros (n ∷ v) = and_from (nat_le 0 n) (vector_covers v (replicate (length v) 0)) (le-leb 0 n (omega arith))
    (covers_zeros v)

pub covers_set : (v u : List ℕ) (k n : ℕ) → IsTrue (vector_covers v u) → n ≤ slice_index v k
    → IsTrue (vector_covers v (slice_set u k n))
covers_set v [] k n h l = h
covers_set [] (x ∷ u) k n h l = absurd (true≢false (sym h))
covers_set (y ∷ v) (x ∷ u) zero n h l =
    let p = and_parts (nat_le x y) (vector_covers v u) h in
    and_from (nat_le n y) (vector_covers v u) (le-leb n y l) p.1
covers_set (y ∷ v) (x ∷ u) (suc k) n h l =
    let p = and_parts (nat_le x y) (vector_covers v u) h in
    and_from (nat_le x y) (vector_covers v (slice_set u k n)) p.0 (covers_set v u k n p.1 l)

-- ---- lists

-- what stands behind an element that is not in the back
split_behind : {X : Type 0} (newer back front : List X) (e : X) (older : List X) → newer ++ back ≡ front ++ e ∷ older
    → ¬ In e back
    → (more : List X) × (older ≡ more ++ back)
split_behind {X} [] back front e older is out =
    absurd (out (subst (λ (l : List X). In e l) (sym is) (In-back e front (e ∷ older) (inl refl))))
split_behind (x ∷ newer) back [] e older is out = (newer, sym (tail_of x (newer ++ back) e older is))
  where
    tail_of : {X : Type 0} (x : X) (xs : List X) (y : X) (ys : List X) → x ∷ xs ≡ y ∷ ys → xs ≡ ys
    tail_of x xs y ys e = cc
split_behind (x ∷ newer) back (y ∷ front) e older is out =
    split_behind newer back front e older (tail_of x (newer ++ back) y (front ++ e ∷ older) is) out
  where
    tail_of : {X : Type 0} (x : X) (xs : List X) (y : X) (ys : List X) → x ∷ xs ≡ y ∷ ys → xs ≡ ys
    tail_of x xs y ys e = cc

counts_cover : (n : ℕ) (front log : List OpValue) → IsInTurn n (front ++ log)
    → IsTrue (vector_covers (counts n (front ++ log)) (counts n log))
counts_cover n [] log c = covers_itself (counts n log)
counts_cover n (x ∷ front) log c =
    covers_along (vector_bump (counts n (front ++ log)) x.dot.site) (counts n (front ++ log)) (counts n log)
    (bump_covers (counts n (front ++ log)) x.dot.site c.0.some c.0.within) (counts_cover n front log c.1)

pub first_in : {X : Type 0} (xs : List X) (x : X) → slice_get xs 0 ≡ Some x → In x xs
first_in [] x e = absurd cc
first_in (y ∷ xs) x e = inl (same x y e)
  where
    same : {X : Type 0} (x y : X) → Some y ≡ Some x → x ≡ y
    same x y e = cc

-- ---- one consistent family

module _ (family : Family) (c : IsConsistent family) (t : Moment family) where
  abbrev m : Machine
  m = machine_at family t

  have_counts : m.have ≡ counts m.size m.log
  have_counts = (counted m (built_at family c t)).0

  -- an operation that is not had is behind all that is, at its own site
  own_covers : (e : OpValue) → IsOpOf family e → vector_has m.have e.dot ≡ false → e.dot.site ≡ m.site
      → IsTrue (vector_covers e.deps m.have)
  own_covers e o missing own =
      let b = built_at family c t in
      let p = place family c e o in
      let g = log_grows family c t in
      let size : m.size ≡ length family = (placed m b).3 in
      let site : e.dot.site ≡ t.site = own ∙ (placed m b).2 in
      let same : g.0 ++ m.log ≡ p.newer ++ e ∷ p.older = sym g.1 ∙ ap (λ (s : ℕ). log_of family s) (sym site) ∙ p.is in
      let out : ¬ In e m.log = λ i. true≢false (sym (subst (λ (v : List ℕ). IsTrue (vector_has v e.dot))
      (sym have_counts) (counted_had m.size e m.log (counted m b).1 i)) ∙ missing) in
      let s = split_behind g.0 m.log p.newer e p.older same out in
      let turn : IsInTurn (length family) (s.0 ++ m.log) =
      subst (λ (l : List OpValue). IsInTurn (length family) l) s.1 p.turn in
      let covered : IsTrue (vector_covers (counts (length family) (s.0 ++ m.log)) (counts (length family) m.log)) =
      counts_cover (length family) s.0 m.log turn in
      let deps : e.deps ≡ counts (length family) (s.0 ++ m.log) = p.deps ∙ ap (counts (length family)) s.1 in
      let have : m.have ≡ counts (length family) m.log = have_counts ∙ ap (λ (k : ℕ). counts k m.log) size in
      subst (λ (v : List ℕ). IsTrue (vector_covers e.deps v)) (sym have)
      (subst (λ (v : List ℕ). IsTrue (vector_covers v (counts (length family) m.log))) (sym deps) covered)

  -- at another site it is behind the last that came from there
  had_covers : (e : OpValue) → IsOpOf family e → vector_has m.have e.dot ≡ false → (o : Option OpValue)
      → slice_get (ops_of e.dot.site m.log) 0 ≡ o → IsTrue (vector_covers e.deps (had_by m.size o))
  had_covers e o missing None q =
      let size : m.size ≡ length e.deps = (placed m (built_at family c t)).3 ∙ sym (size_of family c e o) in
      subst (λ (k : ℕ). IsTrue (vector_covers e.deps (replicate k 0))) (sym size) (covers_zeros e.deps)
  had_covers e o missing (Some x) q =
      let b = built_at family c t in
      let i = In-filter (λ (y : OpValue). nat_eq y.dot.site e.dot.site) x m.log
      (first_in (ops_of e.dot.site m.log) x q) in
      let site : x.dot.site ≡ e.dot.site = eqb-true x.dot.site e.dot.site i.1 in
      let had : IsTrue (vector_has m.have x.dot) = subst (λ (v : List ℕ). IsTrue (vector_has v x.dot))
      (sym have_counts) (counted_had m.size x m.log (counted m b).1 i.0) in
      let p = place family c e o in
      let below : x.dot.seq ≤ vector_get m.have x.dot.site = leb-true x.dot.seq (vector_get m.have x.dot.site) had in
      let here : vector_get m.have x.dot.site ≡ vector_get m.have e.dot.site = ap (vector_get m.have) site in
      let above : vector_get m.have e.dot.site < e.dot.seq = over e.dot.seq (vector_get m.have e.dot.site) missing in
      let number : vector_get e.deps e.dot.site + 1 ≡ e.dot.seq =
      ap (λ (v : List ℕ). vector_get v e.dot.site + 1) p.deps ∙ sym p.next.next in
      let known : x.dot.seq ≤ vector_get e.deps e.dot.site = omega (arith, below, here, above, number) in
      let known_too : x.dot.seq ≤ vector_get e.deps x.dot.site =
      subst (λ (s : ℕ). x.dot.seq ≤ vector_get e.deps s) (sym site) known in
      let past : IsTrue (in_past x e) = le-leb x.dot.seq (vector_get e.deps x.dot.site) known_too in
      covers_set e.deps x.deps (x.dot.site - 1) x.dot.seq (past_covered family c x e (op_at family c t x i.0) o past)
      known_too
    where
      over : (k n : ℕ) → nat_le k n ≡ false → n < k
      over k n h = let f : ¬ (k ≤ n) = λ l. true≢false (sym (le-leb k n l) ∙ h) in omega (arith, f)

  -- all that is still to come was made by sites that had all that is stable
  pub still_to_come : (e : OpValue) → IsOpOf family e → vector_has m.have e.dot ≡ false
      → IsTrue (vector_covers e.deps (stable m))
  still_to_come e o missing =
      let b = built_at family c t in
      let a = made_at family c e o in
      let size : m.size ≡ length family = (placed m b).3 in
      let within : e.dot.site ≤ m.size = omega (arith, size, a.1) in
      covers_along e.deps (known_of m e.dot.site) (stable m) (at (nat_eq e.dot.site m.site) refl)
      (known_covers m m.size e.dot.site a.0 within)
    where
      at : (b : Bool) → nat_eq e.dot.site m.site ≡ b
          → IsTrue (vector_covers e.deps (if b then m.have else had_by m.size (slice_get (ops_of e.dot.site m.log) 0)))
      at true q = own_covers e o missing (eqb-true e.dot.site m.site q)
      at false q = had_covers e o missing (slice_get (ops_of e.dot.site m.log) 0) refl

  -- so it was made by a site that knew all that was done in a candidate
  pub knows_candidates : (slot : Slot) → is_candidate m slot ≡ true → (e : OpValue) → IsOpOf family e
      → vector_has m.have e.dot ≡ false → is_known m.doc slot e.deps ≡ true
  knows_candidates slot h e o missing =
      all_pass (is_known_row e.deps) (rows_in_slot m.doc slot)
      (λ r i. more r (each_passes (is_known_row (stable m)) (rows_in_slot m.doc slot) (free m slot h).known r i))
    where
      more : (r : DocRow) → is_known_row (stable m) r ≡ true → is_known_row e.deps r ≡ true
      more r k =
          let p = and_parts (vector_has (stable m) (row_id r).dot) (list_all (vector_has (stable m)) r.deletes) k in
          and_from (vector_has e.deps (row_id r).dot) (list_all (vector_has e.deps) r.deletes)
          (covered_dots e.deps (stable m) (still_to_come e o missing) (row_id r).dot p.0)
          (all_pass (vector_has e.deps) r.deletes
          (λ d j. covered_dots e.deps (stable m) (still_to_come e o missing) d
          (each_passes (vector_has (stable m)) r.deletes p.1 d j)))
