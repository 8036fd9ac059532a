-- Rows of tokens: each stands once.
use Rattle.std.proofs.Common.{◌≡◌, ◌≢◌, ◌⊎◌, ℕ, List, [], ◌∷◌, ◌++◌, refl, ap, ◌∙◌, subst, ⊎_elim}
use Rattle.td_base.specs.Lists.{In, Successive}
use Rattle.td_base.proofs.Lists.{In-front, In-back, across, successive_back}
use Rattle.td_list.specs.Items.{Item}
use Rattle.td_brackets.specs.Brackets.{Token, Entry, numbers_at, numbers_of}
use Rattle.td_brackets.proofs.NodeRows.{numbers-append}
use Rattle.td_tree.specs.Parts.{Parts, token_of, tokens_of}

pub number_inside : (p : Parts) (items : List Item) (i : Item) (x : ℕ) → In i items → In x (numbers_at (token_of p i))
    → In x (numbers_of (tokens_of p items))
number_inside p [] i x m n = absurd m
number_inside p (j ∷ items) i x m n =
    ⊎_elim (λ (e : i ≡ j). In-front x (numbers_at (token_of p j)) (numbers_of (tokens_of p items))
    (subst (λ (k : Item). In x (numbers_at (token_of p k))) e n))
    (λ (k : In i items). In-back x (numbers_at (token_of p j)) (numbers_of (tokens_of p items))
    (number_inside p items i x k n)) m

module _ (table : ℕ → Entry) where
  -- a row of a stretch of tokens is none of the others
  pub stands_once : (front mid back : List Token) (x : ℕ)
      → Successive (λ (r s : ℕ). (table r).id ≢ (table s).id) (numbers_of (front ++ (mid ++ back)))
      → In x (numbers_of mid) → In x (numbers_of front) ⊎ In x (numbers_of back) → ⊥
  stands_once front mid back x apart i j =
      let parts : numbers_of (front ++ (mid ++ back)) ≡ numbers_of front
      ++ (numbers_of mid ++ numbers_of back) = numbers-append front (mid ++ back)
      ∙ ap (λ (q : List ℕ). numbers_of front ++ q) (numbers-append mid back) in
      let all : Successive (λ (r s : ℕ). (table r).id ≢ (table s).id)
      (numbers_of front ++ (numbers_of mid ++ numbers_of back)) =
      subst (Successive (λ (r s : ℕ). (table r).id ≢ (table s).id)) parts apart in
      ⊎_elim
      (λ (k : In x (numbers_of front)). across (λ (r s : ℕ). (table r).id ≢ (table s).id) (numbers_of front)
      (numbers_of mid ++ numbers_of back) all x x k (In-front x (numbers_of mid) (numbers_of back) i) refl)
      (λ (k : In x (numbers_of back)). across (λ (r s : ℕ). (table r).id ≢ (table s).id) (numbers_of mid)
      (numbers_of back) (successive_back (λ (r s : ℕ). (table r).id ≢ (table s).id) (numbers_of front)
      (numbers_of mid ++ numbers_of back) all) x x i k refl) j
