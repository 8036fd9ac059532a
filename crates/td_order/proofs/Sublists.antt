-- Two lists in one strict order: the elements of the one among those of the other, or the same.
use Rattle.std.proofs.Common.{◌≡◌, List, [], ◌∷◌, refl, sym, ◌∙◌, subst, inl, inr, ⊎_elim}
use Rattle.td_base.specs.Lists.{In, Successive, IsSublist, done, kept, left_out}
use Rattle.td_base.proofs.Lists.{all_in}

sublist_nil : {X : Type 0} (ys : List X) → IsSublist [] ys
sublist_nil [] = done
sublist_nil (y ∷ ys) = left_out y (sublist_nil ys)

module _ {X : Type 0} (lt : X → X → Type 0) (irrefl : (x : X) → lt x x → ⊥)
    (trans : (x y z : X) → lt x y → lt y z → lt x z) where
  pub sublist : (ys xs : List X) → Successive lt xs → Successive lt ys → ((x : X) → In x xs → In x ys) → IsSublist xs ys
  sublist ys [] r q h = sublist_nil ys
  sublist [] (x ∷ xs) r q h = absurd (h x (inl refl))
  sublist (y ∷ ys) (x ∷ xs) r q h =
      ⊎_elim
      (λ (e : x ≡ y).
      subst (λ z. IsSublist (x ∷ xs) (z ∷ ys)) e
      (kept x (sublist ys xs r.1 q.1 (λ z i. ⊎_elim (λ (p : z ≡ y). absurd
      (irrefl x (subst (λ w. lt x w) (p ∙ sym e) (all_in (lt x) xs r.0 z i)))) (λ k. k) (h z (inr i))))))
      (λ (k : In x ys).
      left_out y (sublist ys (x ∷ xs) r q.1 (λ z i.
      ⊎_elim
      (λ (p : z ≡ y). absurd (⊎_elim
      (λ (e : z ≡ x). irrefl y (subst (λ w. lt y w) (sym e ∙ p) (all_in (lt y) ys q.0 x k)))
      (λ j. irrefl y (subst (λ w. lt y w) p (trans y x z (all_in (lt y) ys q.0 x k) (all_in (lt x) xs r.0 z j)))) i))
      (λ l. l)
      (h z i))))
      (h x (inl refl))
