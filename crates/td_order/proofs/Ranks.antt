-- The keys and ranks of one family, and that they fit each part of it.
use Rattle.std.proofs.Common.{◌≡◌, ◌<◌, ◌≤◌, ◌-◌, ℕ, suc, List, [], ◌∷◌, ◌++◌, Bool, true, false, cond, ◌&&◌, length}
use Rattle.std.proofs.Common.{refl, sym, ap, ◌∙◌, subst, inl, inr, ⊎_elim, true≢false, arith, le_antisymm}
use Rattle.std.proofs.lemmas.Bool.{cases_Bool, and_parts, and_from}
use Rattle.td_base.specs.Lists.{IsSublist, In}
use Rattle.td_order.proofs.Family.{IsRooted, Follows, AllFollow, HasPasts}
use Rattle.td_base.specs.Value.{AtomIdValue}
use Rattle.td_base.specs.declared.bit.Bit.TheVariants.{Left, Right}
use Rattle.td_path.specs.declared.slot.Slot.{Slot}
use Rattle.td_path.specs.declared.slot.Slot.TheVariants.{Root, At}
use Rattle.td_op.specs.declared.insertion.Insertion.{Insertion}
use Rattle.td_base.specs.Equality.{same_dot}
use Rattle.td_path.specs.Slot.{same_slot}
use Rattle.td_order.specs.Place.{precedes}
use Rattle.td_order.specs.Order.{placed}
use Rattle.td_order.proofs.Keys.{Key, key_strict, step, id_of}
use Rattle.td_base.proofs.Equals.{same_dot_true, same_dot_refl}
use Rattle.td_path.proofs.SlotEquals.{same_slot_true, same_slot_refl}
use Rattle.td_order.proofs.Fits.{slot_key, OlderRank, AllFit, ids_dot}
use Rattle.td_order.proofs.Placing.{IdLt, id_trans, In-placed, placed-In}
use Rattle.td_order.proofs.PlaceRises.{placed_rises}
use Rattle.td_order.proofs.Sublists.{sublist}

abbrev pub count : {X : Type 0} → (X → Bool) → List X → ℕ
count p [] = 0
count p (x ∷ xs) = cond (p x) (suc (count p xs)) (count p xs)

le_at : (a b : Bool) (n m : ℕ) → (a ≡ true → b ≡ true) → n ≤ m → cond a (suc n) n ≤ cond b (suc m) m
le_at true true n m h k = omega arith
le_at true false n m h k = absurd (true≢false (sym (h refl)))
le_at false true n m h k = omega arith
le_at false false n m h k = k

lt_at : (a b : Bool) (n m : ℕ) → (a ≡ true → b ≡ true) → n < m → cond a (suc n) n < cond b (suc m) m
lt_at true true n m h k = omega arith
lt_at true false n m h k = absurd (true≢false (sym (h refl)))
lt_at false true n m h k = omega arith
lt_at false false n m h k = k

lt_here : (a b : Bool) (n m : ℕ) → a ≡ false → b ≡ true → n ≤ m → cond a (suc n) n < cond b (suc m) m
lt_here true b n m p q k = absurd (true≢false p)
lt_here false true n m p q k = omega arith
lt_here false false n m p q k = absurd (true≢false (sym q))

count_le : {X : Type 0} (p q : X → Bool) (xs : List X) → ((x : X) → In x xs → p x ≡ true → q x ≡ true)
    → count p xs ≤ count q xs
count_le p q [] h = omega arith
count_le p q (x ∷ xs) h = le_at (p x) (q x) _ _ (λ e. h x (inl refl) e) (count_le p q xs (λ y i e. h y (inr i) e))

count_lt : {X : Type 0} (p q : X → Bool) (xs : List X) → ((x : X) → In x xs → p x ≡ true → q x ≡ true) → (c : X)
    → In c xs → p c ≡ false → q c ≡ true → count p xs < count q xs
count_lt p q [] h c i e g = absurd i
count_lt p q (x ∷ xs) h c i e g =
    ⊎_elim
    (λ (k : c ≡ x). lt_here (p x) (q x) _ _ (subst (λ y. p y ≡ false) k e) (subst (λ y. q y ≡ true) k g)
    (count_le p q xs (λ y j u. h y (inr j) u)))
    (λ k. lt_at (p x) (q x) _ _ (λ u. h x (inl refl) u) (count_lt p q xs (λ y j u. h y (inr j) u) c k e g))
    i

pub count_length : {X : Type 0} (p : X → Bool) (xs : List X) → count p xs ≤ length xs
count_length p [] = omega arith
count_length p (x ∷ xs) = bound (p x) _ _ (count_length p xs)
  where
    bound : (b : Bool) (n m : ℕ) → n ≤ m → cond b (suc n) n ≤ suc m
    bound true n m h = omega arith
    bound false n m h = omega arith

-- how many insertions of its slot are in its past
abbrev pub before : List Insertion → Insertion → ℕ
before os a = count (λ c. same_slot c.slot a.slot && precedes c a) os

abbrev pub rank_at : Slot → ℕ → ℕ → ℕ
rank_at Root total n = total - n
rank_at (At x Left) total n = n
rank_at (At x Right) total n = total - n

abbrev pub rank_of : List Insertion → Insertion → ℕ
rank_of os a = rank_at a.slot (length os) (before os a)

abbrev pub key_in : (Insertion → ℕ) → List Insertion → AtomIdValue → ℕ → Key
key_in rank [] x t = []
key_in rank (o ∷ os) x t = cond (same_dot o.dot x.dot)
    (slot_key (key_in rank os) o.slot ++ (step (rank o) o.dot x.offset t ∷ [])) (key_in rank os x t)

module _ (rank : Insertion → ℕ) where
  key_head : (o : Insertion) (os : List Insertion) (offset t : ℕ) → key_in rank (o ∷ os) (id_of o.dot offset) t
      ≡ slot_key (key_in rank os) o.slot ++ (step (rank o) o.dot offset t ∷ [])
  key_head o os offset t = ap (λ b. cond b (slot_key (key_in rank os) o.slot ++ (step (rank o) o.dot offset t ∷ []))
      (key_in rank os (id_of o.dot offset) t)) (same_dot_refl o.dot)

  key_tail : (o : Insertion) (os : List Insertion) (x : AtomIdValue) (t : ℕ) → (o.dot ≡ x.dot → ⊥)
      → key_in rank (o ∷ os) x t ≡ key_in rank os x t
  key_tail o os x t n =
      ap (λ b. cond b (slot_key (key_in rank os) o.slot ++ (step (rank o) o.dot x.offset t ∷ [])) (key_in rank os x t))
      (⊎_elim (λ e. absurd (n (same_dot_true o.dot x.dot e))) (λ e. e) (cases_Bool (same_dot o.dot x.dot)))

  slot_tail : (o : Insertion) (os : List Insertion) → Follows o os → (s : Slot) → IsRooted os s
      → slot_key (key_in rank (o ∷ os)) s ≡ slot_key (key_in rank os) s
  slot_tail o os f Root h = refl
  slot_tail o os f (At x Left) h = key_tail o os x 0
      (λ e. f.fresh h.0 h.1 (sym (e ∙ ap (λ (i : AtomIdValue). i.dot) (ids_dot h.0.dot 0 h.0.run x h.2).1)))
  slot_tail o os f (At x Right) h = key_tail o os x 2
      (λ e. f.fresh h.0 h.1 (sym (e ∙ ap (λ (i : AtomIdValue). i.dot) (ids_dot h.0.dot 0 h.0.run x h.2).1)))

  rooted_in : (os : List Insertion) → AllFollow os → (c : Insertion) → In c os → IsRooted os c.slot
  rooted_in [] f c i = absurd i
  rooted_in (a ∷ os) f c i = more c.slot (⊎_elim
      (λ (e : c ≡ a). subst (λ (b : Insertion). IsRooted os b.slot) (sym e) f.0.rooted) (λ k. rooted_in os f.1 c k) i)
    where
      more : (s : Slot) → IsRooted os s → IsRooted (a ∷ os) s
      more Root h = tt
      more (At x s) h = (h.0, inr h.1, h.2)

  pub key_fits : (os : List Insertion) → AllFollow os → (c : Insertion) → In c os → (offset t : ℕ)
      → key_in rank os (id_of c.dot offset) t ≡ slot_key (key_in rank os) c.slot ++ (step (rank c) c.dot offset t ∷ [])
  key_fits [] f c i offset t = absurd i
  key_fits (a ∷ os) f c i offset t =
      ⊎_elim
      (λ (e : c ≡ a). subst (λ (b : Insertion). key_in rank (a ∷ os) (id_of b.dot offset) t
      ≡ slot_key (key_in rank (a ∷ os)) b.slot ++ (step (rank b) b.dot offset t ∷ [])) (sym e)
      (key_head a os offset t ∙ ap (λ k. k ++ (step (rank a) a.dot offset t ∷ []))
      (sym (slot_tail a os f.0 a.slot f.0.rooted))))
      (λ k. key_tail a os (id_of c.dot offset) t (λ e. f.0.fresh c k (sym e))
      ∙ (key_fits os f.1 c k offset t ∙ ap (λ u. u ++ (step (rank c) c.dot offset t ∷ []))
      (sym (slot_tail a os f.0 c.slot (rooted_in os f.1 c k)))))
      i

-- ranks by the whole fit every part
module _ (all : List Insertion) (h : HasPasts all) where
  in_both : (d c : Insertion) → (same_slot d.slot c.slot && precedes d c) ≡ true → (d.slot ≡ c.slot)
      × (precedes d c ≡ true)
  in_both d c e = let p = and_parts _ _ e in (same_slot_true d.slot c.slot p.0, p.1)

  to_both : (d c : Insertion) → d.slot ≡ c.slot → precedes d c ≡ true → (same_slot d.slot c.slot && precedes d c) ≡ true
  to_both d c e p = and_from _ _ (same_slot_refl d.slot c.slot e) p

  not_itself : (c : Insertion) → In c all → (same_slot c.slot c.slot && precedes c c) ≡ false
  not_itself c i = ⊎_elim (λ e. absurd (true≢false (sym (in_both c c e).1 ∙ h.apart c i))) (λ e. e)
      (cases_Bool (same_slot c.slot c.slot && precedes c c))

  pub fewer : (c a : Insertion) → In c all → In a all → c.slot ≡ a.slot → precedes c a ≡ true
      → before all c < before all a
  fewer c a i j s p =
      count_lt (λ d. same_slot d.slot c.slot && precedes d c) (λ d. same_slot d.slot a.slot && precedes d a) all
      (λ d k e. let q = in_both d c e in to_both d a (q.0 ∙ s) (h.onward d c a k i j q.1 p))
      c i (not_itself c i) (to_both c a s p)

  pub equally : (c a : Insertion) → In c all → In a all → c.slot ≡ a.slot → precedes c a ≡ false → precedes a c
      ≡ false → before all c ≡ before all a
  equally c a i j s p q =
      le_antisymm
      (count_le (λ d. same_slot d.slot c.slot && precedes d c) (λ d. same_slot d.slot a.slot && precedes d a) all
      (λ d k e. let r = in_both d c e in
      to_both d a (r.0 ∙ s) (⊎_elim (λ u. u) (λ u. absurd (true≢false (sym u ∙ q)))
      (h.epochs d c a k i j r.0 (sym s) r.1))))
      (count_le (λ d. same_slot d.slot a.slot && precedes d a) (λ d. same_slot d.slot c.slot && precedes d c) all
      (λ d k e. let r = in_both d a e in
      to_both d c (r.0 ∙ sym s) (⊎_elim (λ u. u) (λ u. absurd (true≢false (sym u ∙ p)))
      (h.epochs d a c k j i r.0 s r.1))))

  pub older_by : (s : Slot) (total m n : ℕ) → m < n → n ≤ total → OlderRank s (rank_at s total m) (rank_at s total n)
  older_by Root total m n lt le = omega arith
  older_by (At x Left) total m n lt le = lt
  older_by (At x Right) total m n lt le = omega arith

  pub fits_part : AllFollow all → (part : List Insertion) → AllFollow part → ((c : Insertion) → In c part → In c all)
      → AllFit (key_in (rank_of all) all) (rank_of all) part
  fits_part w [] f in' = tt
  fits_part w (a ∷ os) f in' = (
    record {
      key = λ o t. key_fits (rank_of all) all w a (in' a (inl refl)) o t;
      rooted = f.0.rooted;
      fresh = f.0.fresh;
      older = λ c i s p.
          subst (λ t. OlderRank a.slot (rank_at t (length all) (before all c)) (rank_of all a)) (sym s)
          (older_by a.slot (length all) (before all c) (before all a)
          (fewer c a (in' c (inr i)) (in' a (inl refl)) s p) (count_length _ all));
      equal = λ c i s p.
          ap (λ t. rank_at t (length all) (before all c)) s
          ∙ ap (λ n. rank_at a.slot (length all) n) (equally c a (in' c (inr i)) (in' a (inl refl)) s p
          (f.0.later c i));
      full = f.0.full;
    },
    fits_part w os f.1 (λ c i. in' c (inr i)),
  )

pub placed_part : (all part : List Insertion) → AllFollow all → HasPasts all → AllFollow part
    → ((c : Insertion) → In c part → In c all) → IsSublist (placed part) (placed all)
placed_part all part w h f in' =
    let K = key_in (rank_of all) all in
    let rank = rank_of all in
    sublist (IdLt K rank) (λ x. key_strict.irrefl (K x 1)) (id_trans K rank) (placed all) (placed part)
    (placed_rises K rank part (fits_part all h w part f in'))
    (placed_rises K rank all (fits_part all h w all w (λ c i. i)))
    (λ x i. let n = In-placed part x i in placed-In all x (n.0, in' n.0 n.1, n.2))
