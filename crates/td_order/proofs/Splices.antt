-- What is put after the last element that passes, or before the first, is put at a place.
use Rattle.std.proofs.Common.{◌≡◌, ◌+◌, ◌<◌, ◌≤◌, ℕ, suc, List, [], ◌∷◌, ◌++◌, Bool, true, false, ◌||◌, cond, not}
use Rattle.std.proofs.Common.{length, take, drop, get_or, refl, sym, ap, ◌∙◌, arith, append_assoc}
use Rattle.std.proofs.lemmas.List.{take_more, append-nil, drop_all, length-take-le, drop-append-le}
use Rattle.std.specs.Prelude.{unwrap_or}
use Rattle.std.specs.List.{list_any, position, position_or_len}
use Rattle.td_order.specs.Place.{put_after_last, put_before_first}
use Rattle.td_base.proofs.Searches.{first_or_length, any_snoc, any_last, any_false}

after_more_at : {X : Type 0} (test : X → Bool) (ids : List X) (y : X) (ys : List X) (x : X) (b : Bool)
    → put_after_last test ids (ys ++ (x ∷ [])) ≡ put_after_last test ids ys ++ (x ∷ [])
    → cond b (y ∷ put_after_last test ids (ys ++ (x ∷ []))) (ids ++ (y ∷ (ys ++ (x ∷ []))))
    ≡ cond b (y ∷ put_after_last test ids ys) (ids ++ (y ∷ ys)) ++ (x ∷ [])
after_more_at test ids y ys x true h = ap (λ zs. y ∷ zs) h
after_more_at test ids y ys x false h = sym (append_assoc ids (y ∷ ys) (x ∷ []))

-- one more that does not pass
after_more : {X : Type 0} (test : X → Bool) (ids xs : List X) (x : X) → test x ≡ false
    → put_after_last test ids (xs ++ (x ∷ [])) ≡ put_after_last test ids xs ++ (x ∷ [])
after_more test ids [] x h = ap (λ b. cond b (x ∷ ids) (ids ++ (x ∷ []))) (any_false test x h)
after_more test ids (y ∷ ys) x h =
    ap (λ b. cond b (y ∷ put_after_last test ids (ys ++ (x ∷ []))) (ids ++ (y ∷ (ys ++ (x ∷ [])))))
    (ap (λ b. test y || b) (any_snoc test ys x h))
    ∙ after_more_at test ids y ys x (list_any test (y ∷ ys)) (after_more test ids ys x h)

-- one more that passes
after_last : {X : Type 0} (test : X → Bool) (ids xs : List X) (x : X) → test x ≡ true
    → put_after_last test ids (xs ++ (x ∷ [])) ≡ (xs ++ (x ∷ [])) ++ ids
after_last test ids [] x h = ap (λ b. cond b (x ∷ ids) (ids ++ (x ∷ []))) (any_last test [] x h)
after_last test ids (y ∷ ys) x h =
    ap (λ b. cond b (y ∷ put_after_last test ids (ys ++ (x ∷ []))) (ids ++ (y ∷ (ys ++ (x ∷ [])))))
    (any_last test (y ∷ ys) x h)
    ∙ ap (λ zs. y ∷ zs) (after_last test ids ys x h)

before_at : {X : Type 0} (test : X → Bool) (ids : List X) (y : X) (ys : List X) (b : Bool) (k : ℕ)
    → put_before_first test ids ys ≡ take k ys ++ (ids ++ drop k ys)
    → cond b (ids ++ (y ∷ ys)) (y ∷ put_before_first test ids ys) ≡ take (cond (not b) (1 + k) 0) (y ∷ ys)
    ++ (ids ++ drop (cond (not b) (1 + k) 0) (y ∷ ys))
before_at test ids y ys true k h = refl
before_at test ids y ys false k h = let place : 1 + k ≡ suc k = omega arith in rw place (ap (λ zs. y ∷ zs) h)

before : {X : Type 0} (test : X → Bool) (ids xs : List X) → put_before_first test ids xs
    ≡ take (position_or_len test xs) xs ++ (ids ++ drop (position_or_len test xs) xs)
before test ids [] = sym (append-nil ids)
before test ids (y ∷ ys) = before_at test ids y ys (test y) (position_or_len test ys) (before test ids ys)

pub placed_before : {X : Type 0} (test : X → Bool) (xs : List X) (k : ℕ) → k
    ≡ unwrap_or (position test xs) (length xs) → (ids : List X) → put_before_first test ids xs ≡ take k xs
    ++ (ids ++ drop k xs)
placed_before test xs k e ids = before test ids xs
    ∙ ap (λ n. take n xs ++ (ids ++ drop n xs)) (sym (e ∙ first_or_length test xs))

module _ {X : Type 0} (test : X → Bool) (xs : List X) (at n : ℕ) (x : X) (item : x ≡ get_or xs n x)
    (within : n < length xs) where
  one_more : take (n + 1) xs ≡ take n xs ++ (x ∷ [])
  one_more = take_more xs n x within ∙ ap (λ y. take n xs ++ (y ∷ [])) (sym item)

  -- the place after the last that passes, where the next passes
  pub last_here : test x ≡ true → (ids : List X) → put_after_last test ids (take (n + 1) xs) ≡ take (n + 1) xs
      ++ (ids ++ drop (n + 1) (take (n + 1) xs))
  last_here h ids =
      ap (λ zs. put_after_last test ids zs) one_more ∙ after_last test ids (take n xs) x h
      ∙ ap (λ zs. zs ++ ids) (sym one_more)
      ∙ ap (λ zs. take (n + 1) xs ++ zs) (sym (append-nil ids))
      ∙ ap (λ zs. take (n + 1) xs ++ (ids ++ zs)) (sym
      (drop_all (n + 1) (take (n + 1) xs) (omega (arith, length-take-le (n + 1) xs (omega arith)))))

  -- and where it does not
  pub last_there : at ≤ n → ((ids : List X) → put_after_last test ids (take n xs) ≡ take at xs
      ++ (ids ++ drop at (take n xs))) → test x ≡ false
      → (ids : List X) → put_after_last test ids (take (n + 1) xs) ≡ take at xs ++ (ids ++ drop at (take (n + 1) xs))
  last_there le so_far h ids =
      ap (λ zs. put_after_last test ids zs) one_more ∙ after_more test ids (take n xs) x h
      ∙ ap (λ zs. zs ++ (x ∷ [])) (so_far ids)
      ∙ append_assoc (take at xs) (ids ++ drop at (take n xs)) (x ∷ [])
      ∙ ap (λ zs. take at xs ++ zs) (append_assoc ids (drop at (take n xs)) (x ∷ []))
      ∙ ap (λ zs. take at xs ++ (ids ++ zs)) (sym (ap (λ zs. drop at zs) one_more
      ∙ drop-append-le at (take n xs) (x ∷ []) (omega (arith, length-take-le n xs (omega arith)))))
