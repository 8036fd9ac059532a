-- Lists in a strict order, into which others are put.
use Rattle.std.proofs.Common.{◌≡◌, ◌⊎◌, List, [], ◌∷◌, ◌++◌, Bool, true, false, cond, refl, sym}
use Rattle.std.proofs.Common.{ap, ◌∙◌, subst, inl, inr, ⊎_elim, true≢false}
use Rattle.std.specs.List.{list_any}
use Rattle.td_base.specs.Lists.{In, Successive}
use Rattle.td_base.proofs.Lists.{In-front, In-back, In-append, all_in, all_of, any_found, any_none, successive_append}
use Rattle.td_order.specs.Place.{put_after_last, put_before_first, has_some}

pub none_of : {X : Type 0} (xs : List X) → has_some xs ≡ false → (x : X) → In x xs → ⊥
none_of [] h x k = k
none_of (y ∷ ys) h x k = true≢false h

pub some_of : {X : Type 0} (xs : List X) → has_some xs ≡ true → (x : X) × In x xs
some_of [] h = absurd (true≢false (sym h))
some_of (y ∷ ys) h = (y, inl refl)

In-put_after_last_at : {X : Type 0} (test : X → Bool) (ids : List X) (x y : X) (ys : List X) (b : Bool)
    → (In x (put_after_last test ids ys) → In x ids ⊎ In x ys)
    → In x (cond b (y ∷ put_after_last test ids ys) (ids ++ (y ∷ ys))) → In x ids ⊎ In x (y ∷ ys)
In-put_after_last_at test ids x y ys true rest h =
    ⊎_elim (λ e. inr (inl e)) (λ k. ⊎_elim (λ i. inl i) (λ j. inr (inr j)) (rest k)) h
In-put_after_last_at test ids x y ys false rest h = In-append x ids (y ∷ ys) h

pub In-put_after_last : {X : Type 0} (test : X → Bool) (ids : List X) (x : X) (xs : List X)
    → In x (put_after_last test ids xs) → In x ids ⊎ In x xs
In-put_after_last test ids x [] h = inl h
In-put_after_last test ids x (y ∷ ys) h = In-put_after_last_at test ids x y ys (list_any test (y ∷ ys))
    (λ k. In-put_after_last test ids x ys k) h

In-put_before_first_at : {X : Type 0} (test : X → Bool) (ids : List X) (x y : X) (ys : List X) (b : Bool)
    → (In x (put_before_first test ids ys) → In x ids ⊎ In x ys)
    → In x (cond b (ids ++ (y ∷ ys)) (y ∷ put_before_first test ids ys)) → In x ids ⊎ In x (y ∷ ys)
In-put_before_first_at test ids x y ys false rest h =
    ⊎_elim (λ e. inr (inl e)) (λ k. ⊎_elim (λ i. inl i) (λ j. inr (inr j)) (rest k)) h
In-put_before_first_at test ids x y ys true rest h = In-append x ids (y ∷ ys) h

pub In-put_before_first : {X : Type 0} (test : X → Bool) (ids : List X) (x : X) (xs : List X)
    → In x (put_before_first test ids xs) → In x ids ⊎ In x xs
In-put_before_first test ids x [] h = inl h
In-put_before_first test ids x (y ∷ ys) h = In-put_before_first_at test ids x y ys (test y)
    (λ k. In-put_before_first test ids x ys k) h

put_after_last-In_at : {X : Type 0} (test : X → Bool) (ids : List X) (x y : X) (ys : List X) (b : Bool)
    → (In x ids ⊎ In x ys → In x (put_after_last test ids ys)) → In x ids ⊎ In x (y ∷ ys)
    → In x (cond b (y ∷ put_after_last test ids ys) (ids ++ (y ∷ ys)))
put_after_last-In_at test ids x y ys true rest h =
    ⊎_elim (λ i. inr (rest (inl i))) (λ j. ⊎_elim (λ e. inl e) (λ k. inr (rest (inr k))) j) h
put_after_last-In_at test ids x y ys false rest h =
    ⊎_elim (λ i. In-front x ids (y ∷ ys) i) (λ j. In-back x ids (y ∷ ys) j) h

pub put_after_last-In : {X : Type 0} (test : X → Bool) (ids : List X) (x : X) (xs : List X) → In x ids ⊎ In x xs
    → In x (put_after_last test ids xs)
put_after_last-In test ids x [] h = ⊎_elim (λ i. i) (λ j. absurd j) h
put_after_last-In test ids x (y ∷ ys) h = put_after_last-In_at test ids x y ys (list_any test (y ∷ ys))
    (λ k. put_after_last-In test ids x ys k) h

put_before_first-In_at : {X : Type 0} (test : X → Bool) (ids : List X) (x y : X) (ys : List X) (b : Bool)
    → (In x ids ⊎ In x ys → In x (put_before_first test ids ys)) → In x ids ⊎ In x (y ∷ ys)
    → In x (cond b (ids ++ (y ∷ ys)) (y ∷ put_before_first test ids ys))
put_before_first-In_at test ids x y ys false rest h =
    ⊎_elim (λ i. inr (rest (inl i))) (λ j. ⊎_elim (λ e. inl e) (λ k. inr (rest (inr k))) j) h
put_before_first-In_at test ids x y ys true rest h =
    ⊎_elim (λ i. In-front x ids (y ∷ ys) i) (λ j. In-back x ids (y ∷ ys) j) h

pub put_before_first-In : {X : Type 0} (test : X → Bool) (ids : List X) (x : X) (xs : List X) → In x ids ⊎ In x xs
    → In x (put_before_first test ids xs)
put_before_first-In test ids x [] h = ⊎_elim (λ i. i) (λ j. absurd j) h
put_before_first-In test ids x (y ∷ ys) h = put_before_first-In_at test ids x y ys (test y)
    (λ k. put_before_first-In test ids x ys k) h

module _ {X : Type 0} (lt : X → X → Type 0) (trans : (x y z : X) → lt x y → lt y z → lt x z) (test : X → Bool)
    (ids : List X) (up : Successive lt ids) where
  -- the ids go right after the last that passes: all that pass are below them, and what is above all that pass is
  -- above them
  rises_after_last_at : (y : X) (ys : List X) (b : Bool) → b ≡ list_any test (y ∷ ys) → Successive lt (y ∷ ys)
      → Successive lt (put_after_last test ids ys)
      → ((x a : X) → In x (y ∷ ys) → In a ids → test x ≡ true → lt x a)
      → ((x a : X) → In x (y ∷ ys) → In a ids → test x ≡ false → ((l : X) → In l (y ∷ ys) → test l ≡ true → lt l x)
      → lt a x)
      → Successive lt (cond b (y ∷ put_after_last test ids ys) (ids ++ (y ∷ ys)))
  rises_after_last_at y ys true e r rest low high =
      let found = any_found test (y ∷ ys) (sym e) in (
        all_of (lt y) (put_after_last test ids ys) (λ z k. ⊎_elim
            (λ (i : In z ids). ⊎_elim (λ (p : found.0 ≡ y). subst (λ w. lt w z) p (low found.0 z found.1 i found.2))
            (λ q. trans y found.0 z (all_in (lt y) ys r.0 found.0 q) (low found.0 z found.1 i found.2)) found.1)
            (λ j. all_in (lt y) ys r.0 z j) (In-put_after_last test ids z ys k)),
        rest,
      )
  rises_after_last_at y ys false e r rest low high =
      successive_append lt ids (y ∷ ys) up r (λ a x i j. high x a j i (any_none test (y ∷ ys) x (sym e) j)
      (λ l k t. absurd (true≢false (sym t ∙ any_none test (y ∷ ys) l (sym e) k))))

  pub rises_after_last : (xs : List X) → Successive lt xs
      → ((x a : X) → In x xs → In a ids → test x ≡ true → lt x a)
      → ((x a : X) → In x xs → In a ids → test x ≡ false → ((l : X) → In l xs → test l ≡ true → lt l x) → lt a x)
      → Successive lt (put_after_last test ids xs)
  rises_after_last [] r low high = up
  rises_after_last (y ∷ ys) r low high =
      rises_after_last_at y ys (list_any test (y ∷ ys)) refl r
      (rises_after_last ys r.1 (λ x a i j t. low x a (inr i) j t)
      (λ x a i j t all. high x a (inr i) j t (λ l k u. ⊎_elim
      (λ (p : l ≡ y). subst (λ w. lt w x) (sym p) (all_in (lt y) ys r.0 x i)) (λ q. all l q u) k)))
      low high

  rises_before_first_at : (y : X) (ys : List X) (b : Bool) → b ≡ test y → Successive lt (y ∷ ys)
      → (b ≡ false → Successive lt (put_before_first test ids ys))
      → ((x a : X) → In x (y ∷ ys) → In a ids → test x ≡ true → lt a x)
      → ((x a : X) → In x (y ∷ ys) → In a ids → test x ≡ false → ((l : X) → In l (y ∷ ys) → test l ≡ true → lt x l)
      → lt x a)
      → (b ≡ false → (a : X) → In a ids → lt y a)
      → Successive lt (cond b (ids ++ (y ∷ ys)) (y ∷ put_before_first test ids ys))
  rises_before_first_at y ys true e r rest high low front =
      successive_append lt ids (y ∷ ys) up r (λ a x i j.
      let first : lt a y = high y a (inl refl) i (sym e) in
      ⊎_elim (λ (p : x ≡ y). subst (λ w. lt a w) (sym p) first) (λ q. trans a y x first (all_in (lt y) ys r.0 x q)) j)
  rises_before_first_at y ys false e r rest high low front = (
    all_of (lt y) (put_before_first test ids ys) (λ z k. ⊎_elim (λ i. front refl z i)
        (λ j. all_in (lt y) ys r.0 z j) (In-put_before_first test ids z ys k)),
    rest refl,
  )

  pub rises_before_first : (xs : List X) → Successive lt xs
      → ((x a : X) → In x xs → In a ids → test x ≡ true → lt a x)
      → ((x a : X) → In x xs → In a ids → test x ≡ false → ((l : X) → In l xs → test l ≡ true → lt x l) → lt x a)
      → Successive lt (put_before_first test ids xs)
  rises_before_first [] r high low = up
  rises_before_first (y ∷ ys) r high low =
      rises_before_first_at y ys (test y) refl r
      (λ t. rises_before_first ys r.1 (λ x a i j u. high x a (inr i) j u)
      (λ x a i j u all. low x a (inr i) j u (λ l k v. ⊎_elim
      (λ (p : l ≡ y). absurd (true≢false (sym v ∙ (ap test p ∙ t)))) (λ q. all l q v) k)))
      high low
      (λ t a i. low y a (inl refl) i t (λ l k u. ⊎_elim (λ (p : l ≡ y). absurd (true≢false (sym u ∙ (ap test p ∙ t))))
      (λ q. all_in (lt y) ys r.0 l q) k))
