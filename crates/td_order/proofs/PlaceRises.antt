-- One insert placed among the atoms of those before it.
use Rattle.std.proofs.Common.{◌≡◌, ◌⊎◌, ◌<◌, ◌≤◌, ℕ, List, [], ◌∷◌, ◌++◌, Bool, true, false, cond, refl, sym, ap}
use Rattle.std.proofs.Common.{◌∙◌, subst, inl, inr, ⊎_elim, true≢false, arith, append_assoc}
use Rattle.std.proofs.lemmas.Bool.{cases_Bool}
use Rattle.td_order.proofs.Lex.{Tri, below, same, above, lex_append, lex_cancel, lex_between, Below, nat_strict}
use Rattle.td_order.proofs.ListLemmas.{none_of, some_of, rises_after_last, rises_before_first}
use Rattle.td_order.proofs.Keys.{Key, StepLt, KeyLt, key_strict, step_strict, step}
use Rattle.td_order.proofs.Keys.{id_of, first_step, rank_first, dot_first}
use Rattle.td_base.proofs.Equals.{same_id_true, same_id_refl}
use Rattle.td_base.proofs.Orders.{dot_lt_from, dot_apart}
use Rattle.td_order.proofs.Fits.{slot_key, OlderRank, Names, IsRooted, Fits, AllFit, first_id, fits_at, full_at}
use Rattle.td_order.proofs.Fits.{same_insert, key_end, Found, find, under_key, under_self, Mate, mate}
use Rattle.td_order.proofs.Placing.{Sibling, sibling_of, of_sibling, smaller_of, of_smaller, older_apart}
use Rattle.td_order.proofs.Placing.{In-placed, placed-In, IdLt, id_trans, atom_key, ids_rise_from}
use Rattle.td_base.specs.Value.{DotValue, AtomIdValue}
use Rattle.td_base.specs.declared.bit.Bit.TheVariants.{Left, Right}
use Rattle.td_base.specs.Lists.{In, Successive}
use Rattle.td_base.proofs.Lists.{any_found, any_from, successive_append}
use Rattle.td_path.specs.declared.slot.Slot.{Slot}
use Rattle.td_path.specs.declared.slot.Slot.TheVariants.{Root, At}
use Rattle.td_op.specs.declared.insertion.Insertion.{Insertion}
use Rattle.td_base.specs.Order.{dot_lt}
use Rattle.td_base.specs.Equality.{same_id}
use Rattle.td_op.specs.Insertion.{ids_of}
use Rattle.td_order.specs.Under.{under, is_under_any}
use Rattle.td_order.specs.Place.{precedes, siblings, smaller_siblings, place, put_beside}
use Rattle.td_order.specs.Place.{has_some, put_after_last, put_before_first}
use Rattle.td_order.specs.Order.{placed}

dot_other_at : (d e : DotValue) → (d ≡ e → ⊥) → Tri Below d.site e.site → Tri Below d.seq e.seq → (dot_lt d e ≡ true)
    ⊎ (dot_lt e d ≡ true)
dot_other_at d e n (below h) t = inl (dot_lt_from d e (inl h))
dot_other_at d e n (above h) t = inr (dot_lt_from e d (inl h))
dot_other_at d e n (same p) (below h) = inl (dot_lt_from d e (inr (p, h)))
dot_other_at d e n (same p) (above h) = inr (dot_lt_from e d (inr (sym p, h)))
dot_other_at d e n (same p) (same q) = absurd (n (λ i. record { site = p i; seq = q i }))

pub dot_other : (d e : DotValue) → (d ≡ e → ⊥) → (dot_lt d e ≡ true) ⊎ (dot_lt e d ≡ true)
dot_other d e n = dot_other_at d e n (nat_strict.tri d.site e.site) (nat_strict.tri d.seq e.seq)

pub step_dot : (r q : ℕ) (d e : DotValue) (i j s t : ℕ) → step r d i s ≡ step q e j t → d ≡ e
step_dot r q d e i j s t h = let a : d.site ≡ e.site = cc in let b : d.seq ≡ e.seq = cc in
    λ i. record { site = a i; seq = b i }

pub one_or_two : (n : ℕ) → 1 ≤ n → n ≤ 2 → (n ≡ 1) ⊎ (n ≡ 2)
one_or_two n h k = grind arith

pub zero_or_one : (n : ℕ) → 0 ≤ n → n ≤ 1 → (n ≡ 0) ⊎ (n ≡ 1)
zero_or_one n h k = grind arith

pub one_two : ◌≡◌ {A = ℕ} 1 2 → ⊥
one_two h = omega arith

pub zero_one : ◌≡◌ {A = ℕ} 0 1 → ⊥
zero_one h = omega arith

pub cons_nil : (x : List ℕ) (xs : Key) → x ∷ xs ≡ [] → ⊥
cons_nil x xs h = cc

pub step_same : (r q : ℕ) (d e : DotValue) (i j s t : ℕ) → r ≡ q → d ≡ e → i ≡ j → s ≡ t → step r d i s ≡ step q e j t
step_same r q d e i j s t a b c h = λ k. step (a k) (b k) (c k) (h k)

-- an atom between the atom p and what is on its right, or on its left, is below p on that side
pub pinned : (r q : ℕ) (d e : DotValue) (i j s t v : ℕ) (u w x : Key) → KeyLt (step r d i s ∷ u) (step q e j t ∷ w)
    → KeyLt (step q e j t ∷ w) (step r d i v ∷ x) → (e ≡ d) × (j ≡ i) × (s ≤ t) × (t ≤ v) × (q ≡ r)
pinned r q d e i j s t v u w x h k =
    let a1 = first_step r q d e i j s t u w h in
    let a2 = first_step q r e d j i t v w x k in
    ⊎_elim (λ (l : r < q). absurd (⊎_elim (λ (m : q < r). omega arith)
    (λ (m : (q ≡ r) × ((dot_lt e d ≡ true) ⊎ ((e ≡ d) × KeyLt ((j ∷ t ∷ []) ∷ w) ((i ∷ v ∷ []) ∷ x)))). omega
    (arith, m.0)) a2))
    (λ (l : (r ≡ q) × ((dot_lt d e ≡ true) ⊎ ((d ≡ e) × KeyLt ((i ∷ s ∷ []) ∷ u) ((j ∷ t ∷ []) ∷ w)))).
    ⊎_elim (λ (m : q < r). absurd (omega (arith, l.0)))
    (λ (m : (q ≡ r) × ((dot_lt e d ≡ true) ⊎ ((e ≡ d) × KeyLt ((j ∷ t ∷ []) ∷ w) ((i ∷ v ∷ []) ∷ x)))).
    ⊎_elim
    (λ (b : dot_lt d e ≡ true). absurd (⊎_elim (λ c. dot_apart d e b c)
    (λ (c : (e ≡ d) × KeyLt ((j ∷ t ∷ []) ∷ w) ((i ∷ v ∷ []) ∷ x)). let u1 =
    subst (λ y. dot_lt d y ≡ true) c.0 b in dot_apart d d u1 u1) m.1))
    (λ (b : (d ≡ e) × KeyLt ((i ∷ s ∷ []) ∷ u) ((j ∷ t ∷ []) ∷ w)).
    ⊎_elim (λ c. let u1 = subst (λ y. dot_lt e y ≡ true) b.0 c in absurd (dot_apart e e u1 u1))
    (λ (c : (e ≡ d) × KeyLt ((j ∷ t ∷ []) ∷ w) ((i ∷ v ∷ []) ∷ x)).
    let n1 = pair i j s t u w b.1 in
    let n2 = pair j i t v w x c.1 in
    let p1 : j ≡ i = omega (arith, n1.0, n2.0) in
    (c.0, p1, n1.1 (sym p1), n2.1 p1, m.0))
    m.1)
    l.1)
    a2)
    a1
  where
    pair : (i j s t : ℕ) (u w : Key) → KeyLt ((i ∷ s ∷ []) ∷ u) ((j ∷ t ∷ []) ∷ w) → (i ≤ j) × (i ≡ j → s ≤ t)
    pair i j s t u w h =
        ⊎_elim
        (λ (b : StepLt (i ∷ s ∷ []) (j ∷ t ∷ [])).
        ⊎_elim (λ (c : i < j). (le_from c, λ e. absurd (lt_same c e)))
        (λ (c : (i ≡ j) × StepLt (s ∷ []) (t ∷ [])). (
          eq_from c.0,
          λ e. ⊎_elim (λ (d : s < t). le_from d)
              (λ (d : (s ≡ t) × StepLt [] []). absurd d.1) c.1,
        )) b)
        (λ (b : (i ∷ s ∷ [] ≡ j ∷ t ∷ []) × KeyLt u w). let e1 : i ≡ j = cc in let e2 : s ≡ t = cc in
        (eq_from e1, λ e. eq_from e2))
        h
      where
        le_from : {n m : ℕ} → n < m → n ≤ m
        le_from h = omega arith

        eq_from : {n m : ℕ} → n ≡ m → n ≤ m
        eq_from h = omega arith

        lt_same : {n m : ℕ} → n < m → n ≡ m → ⊥
        lt_same h e = omega arith

module _ (K : AtomIdValue → ℕ → Key) (rank : Insertion → ℕ) (os : List Insertion) (a : Insertion)
    (f : Fits K rank a os) (g : AllFit K rank os) where
  abbrev Lt : AtomIdValue → AtomIdValue → Type 0
  Lt = IdLt K rank

  record MateKey (b : Insertion) (x : AtomIdValue) : Type 0 where
    offset : ℕ
    side : ℕ
    rest : Key
    key : K x 1 ≡ slot_key K a.slot ++ (step (rank b) b.dot offset side ∷ rest)

  mate_key : (b : Insertion) → In b os → b.slot ≡ a.slot → (x : AtomIdValue) → Names os x → under os b.dot x.dot
      ≡ true → MateKey b x
  mate_key b i s x n u =
      let r = under_key K rank os g b.dot x n u 1 in
      let e : r.ins ≡ b = same_insert K rank os g r.ins b r.inside i r.dot in
      record {
        offset = r.offset;
        side = r.side;
        rest = r.rest;
        key = r.key ∙ (ap (λ (c : Insertion). slot_key K c.slot ++ (step (rank c) c.dot r.offset r.side ∷ r.rest)) e
            ∙ ap (λ t. slot_key K t ++ (step (rank b) b.dot r.offset r.side ∷ r.rest)) s);
      }

  apart_from : (x z : AtomIdValue) → Names os x → In z (ids_of a) → K x 1 ≡ K z 1 → ⊥
  apart_from x z n i e =
      let k = atom_key K rank os a f z i in
      let m = mate K rank os g a.slot f.rooted x n _ _ (e ∙ k.1) in
      f.fresh m.ins m.inside (sym (step_dot _ _ _ _ _ _ _ _ m.is))

  either_at : (x z : AtomIdValue) → Names os x → In z (ids_of a) → Tri KeyLt (K x 1) (K z 1) → Lt x z ⊎ Lt z x
  either_at x z n i (below h) = inl h
  either_at x z n i (above h) = inr h
  either_at x z n i (same e) = absurd (apart_from x z n i e)

  either : (x z : AtomIdValue) → Names os x → In z (ids_of a) → Lt x z ⊎ Lt z x
  either x z n i = either_at x z n i (key_strict.tri (K x 1) (K z 1))

  both_keys : (x z : AtomIdValue) (u v : Key) → K x 1 ≡ u → K z 1 ≡ v → KeyLt u v → Lt x z
  both_keys x z u v p q h = subst (λ (w : Key). KeyLt w (K z 1)) (sym p) (subst (λ (w : Key). KeyLt u w) (sym q) h)

  both_back : (x z : AtomIdValue) (u v : Key) → K x 1 ≡ u → K z 1 ≡ v → Lt x z → KeyLt u v
  both_back x z u v p q h = subst (λ (w : Key). KeyLt w v) p (subst (λ (w : Key). KeyLt (K x 1) w) q h)

  below_mate : (b : Insertion) → Sibling os a b → dot_lt b.dot a.dot ≡ true → (x z : AtomIdValue) → Names os x
      → In z (ids_of a) → under os b.dot x.dot ≡ true → Lt x z
  below_mate b s d x z n i u =
      let k = atom_key K rank os a f z i in
      let m = mate_key b s.inside s.slot x n u in
      both_keys x z _ _ m.key k.1 (lex_append StepLt step_strict (slot_key K a.slot) _ _
      (dot_first _ _ b.dot a.dot _ _ _ _ _ _ (f.equal b s.inside s.slot s.apart) d))

  above_mate : (b : Insertion) → Sibling os a b → dot_lt a.dot b.dot ≡ true → (x z : AtomIdValue) → Names os x
      → In z (ids_of a) → under os b.dot x.dot ≡ true → Lt z x
  above_mate b s d x z n i u =
      let k = atom_key K rank os a f z i in
      let m = mate_key b s.inside s.slot x n u in
      both_keys z x _ _ k.1 m.key (lex_append StepLt step_strict (slot_key K a.slot) _ _
      (dot_first _ _ a.dot b.dot _ _ _ _ [] m.rest (sym (f.equal b s.inside s.slot s.apart)) d))

  -- the first atom of an insert with a's slot
  first_atom : (b : Insertion) → In b os → AtomIdValue
  first_atom b i = id_of b.dot 0

  first_in : (b : Insertion) → In b os → In (id_of b.dot 0) (placed os)
  first_in b i = placed-In os (id_of b.dot 0) (b, i, first_id b.dot b.run (full_at K rank os g b i))

  first_key : (b : Insertion) → In b os → b.slot ≡ a.slot → K (id_of b.dot 0) 1 ≡ slot_key K a.slot
      ++ (step (rank b) b.dot 0 1 ∷ [])
  first_key b i s = fits_at K rank os g b i 0 1 ∙ ap (λ t. slot_key K t ++ (step (rank b) b.dot 0 1 ∷ [])) s

  rank_le : (r q : ℕ) (d e : DotValue) (i j s t : ℕ) (u v : Key) → KeyLt (step r d i s ∷ u) (step q e j t ∷ v) → r ≤ q
  rank_le r q d e i j s t u v h = ⊎_elim (λ (k : r < q). omega arith)
      (λ (k : (r ≡ q) × ((dot_lt d e ≡ true) ⊎ ((d ≡ e) × KeyLt ((i ∷ s ∷ []) ∷ u) ((j ∷ t ∷ []) ∷ v)))). omega
      (arith, k.0)) (first_step r q d e i j s t u v h)

  sibling_by_rank : (x : AtomIdValue) (w0 : List ℕ) (m : Mate rank os a.slot x w0) → rank m.ins ≡ rank a
      → Sibling os a m.ins
  sibling_by_rank x w0 m e = record {
    inside = m.inside;
    slot = m.slot;
    apart = ⊎_elim (λ t. absurd (older_apart a.slot (rank m.ins) (rank a) (f.older m.ins m.inside m.slot t) e))
        (λ n. n) (cases_Bool (precedes m.ins a));
  }

  -- an atom between a smaller sibling's first atom and a's atoms is under a smaller sibling
  between_low : (b : Insertion) → Sibling os a b → (x z : AtomIdValue) → Names os x → In z (ids_of a)
      → Lt (id_of b.dot 0) x → Lt x z → (c : Insertion) × Sibling os a c × (dot_lt c.dot a.dot ≡ true)
      × (under os c.dot x.dot ≡ true)
  between_low b s x z n i h k =
      let lk = first_key b s.inside s.slot in
      let zk = atom_key K rank os a f z i in
      let r = lex_between StepLt step_strict (slot_key K a.slot) (step (rank b) b.dot 0 1 ∷ [])
      (step (rank a) a.dot zk.0 1 ∷ []) (K x 1)
      (subst (λ (w : Key). KeyLt w (K x 1)) lk h) (subst (λ (w : Key). KeyLt (K x 1) w) zk.1 k) in
      go r.0 r.1
    where
      go : (w : Key) → K x 1 ≡ slot_key K a.slot ++ w → (c : Insertion) × Sibling os a c × (dot_lt c.dot a.dot ≡ true)
          × (under os c.dot x.dot ≡ true)
      go [] e = absurd (lex_cancel StepLt step_strict (slot_key K a.slot) _ _
          (both_back (id_of b.dot 0) x _ _ (first_key b s.inside s.slot) e h))
      go (w0 ∷ w) e =
          let zk = atom_key K rank os a f z i in
          let m = mate K rank os g a.slot f.rooted x n w0 w e in
          let e' : K x 1 ≡ slot_key K a.slot ++ (step (rank m.ins) m.ins.dot m.offset m.side ∷ w) = e
          ∙ ap (λ v. slot_key K a.slot ++ (v ∷ w)) m.is in
          let low = lex_cancel StepLt step_strict (slot_key K a.slot) _ _
          (both_back (id_of b.dot 0) x _ _ (first_key b s.inside s.slot) e' h) in
          let high = lex_cancel StepLt step_strict (slot_key K a.slot) _ _ (both_back x z _ _ e' zk.1 k) in
          let r1 : rank b ≤ rank m.ins = rank_le (rank b) (rank m.ins) b.dot m.ins.dot 0 m.offset 1 m.side [] w low in
          let eq : rank b ≡ rank a = f.equal b s.inside s.slot s.apart in
          ⊎_elim
          (λ (q : rank m.ins < rank a). absurd (omega arith))
          (λ (q : (rank m.ins ≡ rank a) × ((dot_lt m.ins.dot a.dot ≡ true)
          ⊎ ((m.ins.dot ≡ a.dot) × KeyLt ((m.offset ∷ m.side ∷ []) ∷ w) ((zk.0 ∷ 1 ∷ []) ∷ [])))).
          (m.ins, sibling_by_rank x w0 m q.0, ⊎_elim (λ d. d) (λ d. absurd (f.fresh m.ins m.inside d.0)) q.1, m.above))
          (first_step (rank m.ins) (rank a) m.ins.dot a.dot m.offset zk.0 m.side 1 w [] high)

  between_high : (b : Insertion) → Sibling os a b → (x z : AtomIdValue) → Names os x → In z (ids_of a) → Lt z x
      → Lt x (id_of b.dot 0) → (c : Insertion) × Sibling os a c × (under os c.dot x.dot ≡ true)
  between_high b s x z n i h k =
      let lk = first_key b s.inside s.slot in
      let zk = atom_key K rank os a f z i in
      let r = lex_between StepLt step_strict (slot_key K a.slot) (step (rank a) a.dot zk.0 1 ∷ [])
      (step (rank b) b.dot 0 1 ∷ []) (K x 1)
      (subst (λ (w : Key). KeyLt w (K x 1)) zk.1 h) (subst (λ (w : Key). KeyLt (K x 1) w) lk k) in
      go r.0 r.1
    where
      go : (w : Key) → K x 1 ≡ slot_key K a.slot ++ w → (c : Insertion) × Sibling os a c × (under os c.dot x.dot ≡ true)
      go [] e = let zk = atom_key K rank os a f z i in
          absurd (lex_cancel StepLt step_strict (slot_key K a.slot) _ _ (both_back z x _ _ zk.1 e h))
      go (w0 ∷ w) e =
          let zk = atom_key K rank os a f z i in
          let m = mate K rank os g a.slot f.rooted x n w0 w e in
          let e' : K x 1 ≡ slot_key K a.slot ++ (step (rank m.ins) m.ins.dot m.offset m.side ∷ w) = e
          ∙ ap (λ v. slot_key K a.slot ++ (v ∷ w)) m.is in
          let low = lex_cancel StepLt step_strict (slot_key K a.slot) _ _ (both_back z x _ _ zk.1 e' h) in
          let high = lex_cancel StepLt step_strict (slot_key K a.slot) _ _
          (both_back x (id_of b.dot 0) _ _ e' (first_key b s.inside s.slot) k) in
          let r1 : rank a ≤ rank m.ins = rank_le (rank a) (rank m.ins) a.dot m.ins.dot zk.0 m.offset 1 m.side [] w low
          in
          let r2 : rank m.ins ≤ rank b = rank_le (rank m.ins) (rank b) m.ins.dot b.dot m.offset 0 m.side 1 w [] high in
          let eq : rank b ≡ rank a = f.equal b s.inside s.slot s.apart in
          let r3 : rank m.ins ≡ rank a = omega arith in
          (m.ins, sibling_by_rank x w0 m r3, m.above)

  abbrev Goal : List AtomIdValue → Type 0
  Goal list = Successive Lt list

  by_smaller : has_some (smaller_siblings os a) ≡ true → Goal (placed os)
      → Goal (put_after_last (is_under_any os (smaller_siblings os a)) (ids_of a) (placed os))
  by_smaller e up =
      rises_after_last Lt (id_trans K rank) (is_under_any os (smaller_siblings os a)) (ids_of a)
      (ids_rise_from K rank a f.key 0 a.run) (placed os) up
      (λ x z i j t.
      let r = any_found (λ (b : Insertion). under os b.dot x.dot) (smaller_siblings os a) t in
      let s = smaller_of os a r.0 r.1 in
      below_mate r.0 s.0 s.1 x z (In-placed os x i) j r.2)
      (λ x z i j t all.
      let b = some_of (smaller_siblings os a) e in
      let s = smaller_of os a b.0 b.1 in
      let l = all (id_of b.0.dot 0) (first_in b.0 s.0.inside)
      (any_from (λ (c : Insertion). under os c.dot b.0.dot) (smaller_siblings os a) b.0 b.1
      (under_self K rank os g b.0 s.0.inside)) in
      ⊎_elim
      (λ (h : Lt x z).
      let r = between_low b.0 s.0 x z (In-placed os x i) j l h in
      absurd (true≢false (sym (any_from (λ (c : Insertion). under os c.dot x.dot) (smaller_siblings os a) r.0
      (of_smaller os a r.0 r.1 r.2) r.3) ∙ t)))
      (λ h. h)
      (either x z (In-placed os x i) j))

  by_siblings : has_some (smaller_siblings os a) ≡ false → has_some (siblings os a) ≡ true → Goal (placed os)
      → Goal (put_before_first (is_under_any os (siblings os a)) (ids_of a) (placed os))
  by_siblings none e up =
      rises_before_first Lt (id_trans K rank) (is_under_any os (siblings os a)) (ids_of a)
      (ids_rise_from K rank a f.key 0 a.run) (placed os) up
      (λ x z i j t.
      let r = any_found (λ (b : Insertion). under os b.dot x.dot) (siblings os a) t in
      let s = sibling_of os a r.0 r.1 in
      ⊎_elim (λ (d : dot_lt r.0.dot a.dot ≡ true). absurd
      (none_of (smaller_siblings os a) none r.0 (of_smaller os a r.0 s d)))
      (λ d. above_mate r.0 s d x z (In-placed os x i) j r.2)
      (dot_other r.0.dot a.dot (λ q. f.fresh r.0 s.inside q)))
      (λ x z i j t all.
      let b = some_of (siblings os a) e in
      let s = sibling_of os a b.0 b.1 in
      let l = all (id_of b.0.dot 0) (first_in b.0 s.inside)
      (any_from (λ (c : Insertion). under os c.dot b.0.dot) (siblings os a) b.0 b.1
      (under_self K rank os g b.0 s.inside)) in
      ⊎_elim
      (λ h. h)
      (λ (h : Lt z x).
      let r = between_high b.0 s x z (In-placed os x i) j h l in
      absurd (true≢false (sym (any_from (λ (c : Insertion). under os c.dot x.dot) (siblings os a) r.0
      (of_sibling os a r.0 r.1) r.2) ∙ t)))
      (either x z (In-placed os x i) j))

  -- where there is no sibling, every insert of the slot is in a's past
  module _ (alone : has_some (siblings os a) ≡ false) where
    older : (x : AtomIdValue) (w0 : List ℕ) (m : Mate rank os a.slot x w0) → OlderRank a.slot (rank m.ins) (rank a)
    older x w0 m =
        ⊎_elim (λ t. f.older m.ins m.inside m.slot t)
        (λ n. absurd (none_of (siblings os a) alone m.ins
        (of_sibling os a m.ins (record { inside = m.inside; slot = m.slot; apart = n }))))
        (cases_Bool (precedes m.ins a))

    mate_above : (x z : AtomIdValue) (w0 : List ℕ) (w : Key) → In z (ids_of a) → K x 1 ≡ slot_key K a.slot ++ (w0 ∷ w)
        → (m : Mate rank os a.slot x w0) → rank a < rank m.ins → Lt z x
    mate_above x z w0 w i e m lt =
        let zk = atom_key K rank os a f z i in
        both_keys z x _ _ zk.1 (e ∙ ap (λ v. slot_key K a.slot ++ (v ∷ w)) m.is)
        (lex_append StepLt step_strict (slot_key K a.slot) _ _
        (rank_first (rank a) (rank m.ins) a.dot m.ins.dot zk.0 m.offset 1 m.side [] w lt))

    mate_below : (x z : AtomIdValue) (w0 : List ℕ) (w : Key) → In z (ids_of a) → K x 1 ≡ slot_key K a.slot ++ (w0 ∷ w)
        → (m : Mate rank os a.slot x w0) → rank m.ins < rank a → Lt x z
    mate_below x z w0 w i e m lt =
        let zk = atom_key K rank os a f z i in
        both_keys x z _ _ (e ∙ ap (λ v. slot_key K a.slot ++ (v ∷ w)) m.is) zk.1
        (lex_append StepLt step_strict (slot_key K a.slot) _ _
        (rank_first (rank m.ins) (rank a) m.ins.dot a.dot m.offset zk.0 m.side 1 w [] lt))

    -- right of the atom p: the new atoms go right after it
    module _ (p : AtomIdValue) (at : a.slot ≡ At p Right) (named : Names os p) where
      right_end : (e : Key) × (r : ℕ) × ((t : ℕ) → K p t ≡ e ++ (step r p.dot p.offset t ∷ []))
      right_end = key_end K rank os g p named

      right_key : (z : AtomIdValue) → In z (ids_of a) → (o : ℕ)
          × (K z 1 ≡ right_end.0 ++ (step right_end.1 p.dot p.offset 2 ∷ step (rank a) a.dot o 1 ∷ []))
      right_key z i =
          let zk = atom_key K rank os a f z i in (
            zk.0,
            zk.1 ∙ (ap (λ v. v ++ (step (rank a) a.dot zk.0 1 ∷ [])) (ap (slot_key K) at ∙ right_end.2 2)
                ∙ append_assoc right_end.0 (step right_end.1 p.dot p.offset 2 ∷ []) (step (rank a) a.dot zk.0 1 ∷ [])),
          )

      right_of : (z : AtomIdValue) → In z (ids_of a) → Lt p z
      right_of z i =
          let zk = right_key z i in
          both_keys p z _ _ (right_end.2 1) zk.1 (lex_append StepLt step_strict right_end.0 _ _
          (inl (inr (refl, inr (refl, inr (refl, inr (refl, inl (omega arith))))))))

      -- an atom between them would be below p on the same side
      right_go : (x z : AtomIdValue) → Names os x → In z (ids_of a) → (x ≡ p → ⊥) → Lt p x → Lt x z → (w : Key)
          → K x 1 ≡ right_end.0 ++ w → Lt z x
      right_go x z n i ne h k [] e = absurd (lex_cancel StepLt step_strict right_end.0 _ _
          (both_back p x _ _ (right_end.2 1) e h))
      right_go x z n i ne h k (w0 ∷ w) e =
          let zk = right_key z i in
          let m = find K rank os g x n 1 right_end.0 w0 w e in
          let e' : K x 1 ≡ right_end.0 ++ (step (rank m.ins) m.ins.dot m.offset m.side ∷ w) = e
          ∙ ap (λ v. right_end.0 ++ (v ∷ w)) m.is in
          let low = lex_cancel StepLt step_strict right_end.0 _ _ (both_back p x _ _ (right_end.2 1) e' h) in
          let high = lex_cancel StepLt step_strict right_end.0 _ _ (both_back x z _ _ e' zk.1 k) in
          let pin = pinned right_end.1 (rank m.ins) p.dot m.ins.dot p.offset m.offset 1 m.side 2 [] w
          (step (rank a) a.dot zk.0 1 ∷ []) low high in
          below_it w m e' pin
        where
          below_it : (w : Key) → (m : Found K rank os x 1 right_end.0 w0 w) → K x 1 ≡ right_end.0
              ++ (step (rank m.ins) m.ins.dot m.offset m.side ∷ w)
              → (m.ins.dot ≡ p.dot) × (m.offset ≡ p.offset) × (1 ≤ m.side) × (m.side ≤ 2) × (rank m.ins ≡ right_end.1)
              → Lt z x
          below_it [] m e' pin =
              ⊎_elim
              (λ (q : m.side ≡ 1). absurd (ne ((m.last q).1 ∙ (λ j. record { dot = pin.0 j; offset = pin.1 j }))))
              (λ (q : m.side ≡ 2). absurd (m.more refl (λ q1. absurd (one_two (sym q1 ∙ q))) refl))
              (one_or_two m.side pin.2 pin.3)
          below_it (w1 ∷ w2) m e' pin =
              ⊎_elim
              (λ (q : m.side ≡ 1). absurd (cons_nil w1 w2 (m.last q).0))
              (λ (q : m.side ≡ 2). deep q)
              (one_or_two m.side pin.2 pin.3)
            where
              deep : m.side ≡ 2 → Lt z x
              deep q =
                  let e2 : K x 1 ≡ right_end.0 ++ (step right_end.1 p.dot p.offset 2 ∷ w1 ∷ w2) = e'
                  ∙ ap (λ v. right_end.0 ++ (v ∷ w1 ∷ w2)) (step_same _ _ _ _ _ _ _ _ pin.4 pin.0 pin.1 q) in
                  let e3 : K x 1 ≡ slot_key K a.slot ++ (w1 ∷ w2) = e2
                  ∙ (sym (append_assoc right_end.0 (step right_end.1 p.dot p.offset 2 ∷ []) (w1 ∷ w2))
                  ∙ ap (λ v. v ++ (w1 ∷ w2)) (sym (ap (slot_key K) at ∙ right_end.2 2))) in
                  let c = mate K rank os g a.slot f.rooted x n w1 w2 e3 in
                  mate_above x z w1 w2 i e3 c (subst (λ s. OlderRank s (rank c.ins) (rank a)) at (older x w1 c))

    -- left of the atom p: the new atoms go right before it
    module _ (p : AtomIdValue) (at : a.slot ≡ At p Left) (named : Names os p) where
      left_end : (e : Key) × (r : ℕ) × ((t : ℕ) → K p t ≡ e ++ (step r p.dot p.offset t ∷ []))
      left_end = key_end K rank os g p named

      left_key : (z : AtomIdValue) → In z (ids_of a) → (o : ℕ)
          × (K z 1 ≡ left_end.0 ++ (step left_end.1 p.dot p.offset 0 ∷ step (rank a) a.dot o 1 ∷ []))
      left_key z i =
          let zk = atom_key K rank os a f z i in (
            zk.0,
            zk.1 ∙ (ap (λ v. v ++ (step (rank a) a.dot zk.0 1 ∷ [])) (ap (slot_key K) at ∙ left_end.2 0)
                ∙ append_assoc left_end.0 (step left_end.1 p.dot p.offset 0 ∷ []) (step (rank a) a.dot zk.0 1 ∷ [])),
          )

      left_of : (z : AtomIdValue) → In z (ids_of a) → Lt z p
      left_of z i =
          let zk = left_key z i in
          both_keys z p _ _ zk.1 (left_end.2 1) (lex_append StepLt step_strict left_end.0 _ _
          (inl (inr (refl, inr (refl, inr (refl, inr (refl, inl (omega arith))))))))

      -- an atom between them would be below p on the same side
      left_go : (x z : AtomIdValue) → Names os x → In z (ids_of a) → (x ≡ p → ⊥) → Lt z x → Lt x p → (w : Key) → K x 1
          ≡ left_end.0 ++ w → Lt x z
      left_go x z n i ne h k [] e = absurd (lex_cancel StepLt step_strict left_end.0 _ _
          (both_back z x _ _ (left_key z i).1 e h))
      left_go x z n i ne h k (w0 ∷ w) e =
          let zk = left_key z i in
          let m = find K rank os g x n 1 left_end.0 w0 w e in
          let e' : K x 1 ≡ left_end.0 ++ (step (rank m.ins) m.ins.dot m.offset m.side ∷ w) = e
          ∙ ap (λ v. left_end.0 ++ (v ∷ w)) m.is in
          let low = lex_cancel StepLt step_strict left_end.0 _ _ (both_back z x _ _ zk.1 e' h) in
          let high = lex_cancel StepLt step_strict left_end.0 _ _ (both_back x p _ _ e' (left_end.2 1) k) in
          let pin = pinned left_end.1 (rank m.ins) p.dot m.ins.dot p.offset m.offset 0 m.side 1
          (step (rank a) a.dot zk.0 1 ∷ []) w [] low high in
          below_it w m e' pin
        where
          below_it : (w : Key) → (m : Found K rank os x 1 left_end.0 w0 w) → K x 1 ≡ left_end.0
              ++ (step (rank m.ins) m.ins.dot m.offset m.side ∷ w)
              → (m.ins.dot ≡ p.dot) × (m.offset ≡ p.offset) × (0 ≤ m.side) × (m.side ≤ 1) × (rank m.ins ≡ left_end.1)
              → Lt x z
          below_it [] m e' pin =
              ⊎_elim
              (λ (q : m.side ≡ 0). absurd (m.more refl (λ q1. absurd (zero_one (sym q ∙ q1))) refl))
              (λ (q : m.side ≡ 1). absurd (ne ((m.last q).1 ∙ (λ j. record { dot = pin.0 j; offset = pin.1 j }))))
              (zero_or_one m.side pin.2 pin.3)
          below_it (w1 ∷ w2) m e' pin =
              ⊎_elim
              (λ (q : m.side ≡ 0). deep q)
              (λ (q : m.side ≡ 1). absurd (cons_nil w1 w2 (m.last q).0))
              (zero_or_one m.side pin.2 pin.3)
            where
              deep : m.side ≡ 0 → Lt x z
              deep q =
                  let e2 : K x 1 ≡ left_end.0 ++ (step left_end.1 p.dot p.offset 0 ∷ w1 ∷ w2) = e'
                  ∙ ap (λ v. left_end.0 ++ (v ∷ w1 ∷ w2)) (step_same _ _ _ _ _ _ _ _ pin.4 pin.0 pin.1 q) in
                  let e3 : K x 1 ≡ slot_key K a.slot ++ (w1 ∷ w2) = e2
                  ∙ (sym (append_assoc left_end.0 (step left_end.1 p.dot p.offset 0 ∷ []) (w1 ∷ w2))
                  ∙ ap (λ v. v ++ (w1 ∷ w2)) (sym (ap (slot_key K) at ∙ left_end.2 0))) in
                  let c = mate K rank os g a.slot f.rooted x n w1 w2 e3 in
                  mate_below x z w1 w2 i e3 c (subst (λ s. OlderRank s (rank c.ins) (rank a)) at (older x w1 c))

    by_right : (p : AtomIdValue) → a.slot ≡ At p Right → Names os p → Goal (placed os)
        → Goal (put_after_last (same_id p) (ids_of a) (placed os))
    by_right p at named up =
        rises_after_last Lt (id_trans K rank) (same_id p) (ids_of a) (ids_rise_from K rank a f.key 0 a.run)
        (placed os) up
        (λ x z i j t. subst (λ y. Lt y z) (same_id_true p x t) (right_of p at named z j))
        (λ x z i j t all.
        let n = In-placed os x i in
        let h : Lt p x = all p (placed-In os p named) (same_id_refl p) in
        let ne : x ≡ p → ⊥ = λ e. true≢false (sym (subst (λ y. same_id p y ≡ true) (sym e) (same_id_refl p)) ∙ t) in
        ⊎_elim
        (λ (k : Lt x z).
        let zk = right_key p at named z j in
        let e = right_end p at named in
        let r = lex_between StepLt step_strict e.0 _ _ (K x 1) (subst (λ (w : Key). KeyLt w (K x 1)) (e.2 1) h)
        (subst (λ (w : Key). KeyLt (K x 1) w) zk.1 k) in
        right_go p at named x z n j ne h k r.0 r.1)
        (λ k. k)
        (either x z n j))

    by_left : (p : AtomIdValue) → a.slot ≡ At p Left → Names os p → Goal (placed os)
        → Goal (put_before_first (same_id p) (ids_of a) (placed os))
    by_left p at named up =
        rises_before_first Lt (id_trans K rank) (same_id p) (ids_of a) (ids_rise_from K rank a f.key 0 a.run)
        (placed os) up
        (λ x z i j t. subst (λ y. Lt z y) (same_id_true p x t) (left_of p at named z j))
        (λ x z i j t all.
        let n = In-placed os x i in
        let h : Lt x p = all p (placed-In os p named) (same_id_refl p) in
        let ne : x ≡ p → ⊥ = λ e. true≢false (sym (subst (λ y. same_id p y ≡ true) (sym e) (same_id_refl p)) ∙ t) in
        ⊎_elim
        (λ k. k)
        (λ (k : Lt z x).
        let zk = left_key p at named z j in
        let e = left_end p at named in
        let r = lex_between StepLt step_strict e.0 _ _ (K x 1) (subst (λ (w : Key). KeyLt w (K x 1)) zk.1 k)
        (subst (λ (w : Key). KeyLt (K x 1) w) (e.2 1) h) in
        left_go p at named x z n j ne k h r.0 r.1)
        (either x z n j))

    root_at : (x z : AtomIdValue) → Names os x → In z (ids_of a) → a.slot ≡ Root → (w : Key) → K x 1 ≡ w → Lt z x
    root_at x z n i at [] e = absurd (not_end (key_end K rank os g x n).0 _ (sym e ∙ (key_end K rank os g x n).2 1))
      where
        not_end : (q : Key) (v : List ℕ) → [] ≡ q ++ (v ∷ []) → ⊥
        not_end [] v h = cc
        not_end (y ∷ q) v h = cc
    root_at x z n i at (w0 ∷ w) e =
        let e' : K x 1 ≡ slot_key K a.slot ++ (w0 ∷ w) = e ∙ ap (λ s. slot_key K s ++ (w0 ∷ w)) (sym at) in
        let c = mate K rank os g a.slot f.rooted x n w0 w e' in
        mate_above x z w0 w i e' c (subst (λ s. OlderRank s (rank c.ins) (rank a)) at (older x w0 c))

    by_root : a.slot ≡ Root → Goal (placed os) → Goal (ids_of a ++ placed os)
    by_root at up = successive_append Lt (ids_of a) (placed os) (ids_rise_from K rank a f.key 0 a.run) up
        (λ z x i j. root_at x z (In-placed os x j) i at (K x 1) refl)

    by_beside : (s : Slot) → a.slot ≡ s → IsRooted os s → Goal (placed os) → Goal (put_beside s (ids_of a) (placed os))
    by_beside Root at named up = by_root at up
    by_beside (At p Left) at named up = by_left p at named up
    by_beside (At p Right) at named up = by_right p at named up

  choose : (b c : Bool) → has_some (smaller_siblings os a) ≡ b → has_some (siblings os a) ≡ c → Goal (placed os) →
      Goal (cond b (put_after_last (is_under_any os (smaller_siblings os a)) (ids_of a) (placed os))
      (cond c (put_before_first (is_under_any os (siblings os a)) (ids_of a) (placed os))
      (put_beside a.slot (ids_of a) (placed os))))
  choose true c p q up = by_smaller p up
  choose false true p q up = by_siblings p q up
  choose false false p q up = by_beside q a.slot refl f.rooted up

  pub place_rises : Goal (placed os) → Goal (place os (placed os) a)
  place_rises up = choose (has_some (smaller_siblings os a)) (has_some (siblings os a)) refl refl up

pub placed_rises : (K : AtomIdValue → ℕ → Key) (rank : Insertion → ℕ) (os : List Insertion) → AllFit K rank os
    → Successive (IdLt K rank) (placed os)
placed_rises K rank [] f = tt
placed_rises K rank (a ∷ os) f = place_rises K rank os a f.0 f.1 (placed_rises K rank os f.1)
