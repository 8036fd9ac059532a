-- Lists that rise in an order, and what stands before what in a list.
use Rattle.std.proofs.Common.{◌≡◌, ◌≢◌, ◌⊎◌, List, [], ◌∷◌, refl, sym, ◌∙◌, subst, inl, inr, ⊎_elim}
use Rattle.td_base.specs.Lists.{In, Successive, StandsBefore}
use Rattle.td_base.proofs.Lists.{all_in}

-- two elements of a list that rises: one, or in the one order or the other
pub rises_tri : {X : Type 0} (R : X → X → Type 0) (xs : List X) → Successive R xs → (x y : X) → In x xs → In y xs
    → (x ≡ y) ⊎ (R x y ⊎ R y x)
rises_tri R [] h x y i j = absurd i
rises_tri R (z ∷ xs) h x y i j =
    ⊎_elim
    (λ (p : x ≡ z). ⊎_elim (λ (q : y ≡ z). inl (p ∙ sym q))
    (λ q. inr (inl (subst (λ u. R u y) (sym p) (all_in (R z) xs h.0 y q)))) j)
    (λ (p : In x xs). ⊎_elim (λ (q : y ≡ z). inr (inr (subst (λ u. R u x) (sym q) (all_in (R z) xs h.0 x p))))
    (λ q. rises_tri R xs h.1 x y p q) j)
    i

-- a list that rises in two orders
pub both_rise : {X : Type 0} (R S : X → X → Type 0) → ((x : X) → R x x → ⊥) → ((x y z : X) → R x y → R y z → R x z)
    → (xs : List X) → Successive R xs → Successive S xs → (x y : X) → In x xs → In y xs → R x y → S x y
both_rise R S never onto [] a b x y i j h = absurd i
both_rise R S never onto (z ∷ xs) a b x y i j h =
    ⊎_elim
    (λ (p : x ≡ z). ⊎_elim (λ (q : y ≡ z). absurd (never z (subst (λ u. R u z) p (subst (λ u. R x u) q h))))
    (λ q. subst (λ u. S u y) (sym p) (all_in (S z) xs b.0 y q)) j)
    (λ (p : In x xs). ⊎_elim (λ (q : y ≡ z). absurd
    (never z (onto z x z (all_in (R z) xs a.0 x p) (subst (λ u. R x u) q h))))
    (λ q. both_rise R S never onto xs a.1 b.1 x y p q h) j)
    i

module _ {X : Type 0} (lt : X → X → Type 0) (irrefl : (x : X) → lt x x → ⊥)
    (trans : (x y z : X) → lt x y → lt y z → lt x z) where
  -- two lists that rise and have the same elements are one
  pub one_rising : (xs ys : List X) → Successive lt xs → Successive lt ys → ((x : X) → In x xs → In x ys)
      → ((x : X) → In x ys → In x xs) → xs ≡ ys
  one_rising [] [] r q h k = refl
  one_rising [] (y ∷ ys) r q h k = absurd (k y (inl refl))
  one_rising (x ∷ xs) [] r q h k = absurd (h x (inl refl))
  one_rising (x ∷ xs) (y ∷ ys) r q h k =
      let first : x ≡ y = ⊎_elim (λ e. e) (λ (i : In x ys). ⊎_elim (λ e. sym e)
      (λ (j : In y xs). absurd (irrefl x (trans x y x (all_in (lt x) xs r.0 y j) (all_in (lt y) ys q.0 x i))))
      (k y (inl refl))) (h x (inl refl)) in
      let rest : xs ≡ ys =
      one_rising xs ys r.1 q.1
      (λ z i. ⊎_elim (λ (e : z ≡ y). absurd (irrefl x
      (subst (λ w. lt x w) (e ∙ sym first) (all_in (lt x) xs r.0 z i)))) (λ j. j) (h z (inr i)))
      (λ z i. ⊎_elim (λ (e : z ≡ x). absurd (irrefl y (subst (λ w. lt y w) (e ∙ first) (all_in (lt y) ys q.0 z i))))
      (λ j. j) (k z (inr i))) in
      λ i. first i ∷ rest i

  -- in a list that rises the lesser of two elements stands first
  pub stands_from : (list : List X) → Successive lt list → (x y : X) → In x list → In y list → lt x y
      → StandsBefore x y list
  stands_from [] r x y i j h = absurd i
  stands_from (w ∷ list) r x y i j h =
      ⊎_elim
      (λ (e : x ≡ w). ⊎_elim (λ (g : y ≡ w). absurd (irrefl x (subst (λ z. lt x z) (g ∙ sym e) h))) (λ k. inl (e, k)) j)
      (λ (k : In x list). ⊎_elim
      (λ (g : y ≡ w). absurd (irrefl x (trans x y x h (subst (λ z. lt z x) (sym g) (all_in (lt w) list r.0 x k)))))
      (λ l. inr (stands_from list r.1 x y k l h)) j)
      i

-- what stands before something, or behind it, is in the list

pub stands_first : {X : Type 0} (x y : X) (list : List X) → StandsBefore x y list → In x list
stands_first x y [] h = absurd h
stands_first x y (z ∷ list) h =
    ⊎_elim (λ (a : (x ≡ z) × In y list). inl a.0) (λ (b : StandsBefore x y list). inr (stands_first x y list b)) h

pub stands_last : {X : Type 0} (x y : X) (list : List X) → StandsBefore x y list → In y list
stands_last x y [] h = absurd h
stands_last x y (z ∷ list) h =
    ⊎_elim (λ (a : (x ≡ z) × In y list). inr a.1) (λ (b : StandsBefore x y list). inr (stands_last x y list b)) h

-- where no element comes twice, standing before goes on
pub stands_trans : {X : Type 0} (list : List X) → Successive (λ (x y : X). x ≢ y) list → (x z y : X)
    → StandsBefore x z list
    → StandsBefore z y list → StandsBefore x y list
stands_trans [] d x z y h k = h
stands_trans {X} (w ∷ list) d x z y h k =
    ⊎_elim
    (λ (a : (x ≡ w) × In z list). inl (a.0, ⊎_elim (λ (b : (z ≡ w) × In y list). b.1) (λ b. stands_last z y list b) k))
    (λ (a : StandsBefore x z list). ⊎_elim
    (λ (b : (z ≡ w) × In y list). absurd (all_in (λ (v : X). w ≢ v) list d.0 z (stands_last x z list a) (sym b.0)))
    (λ b. inr (stands_trans list d.1 x z y a b)) k)
    h
