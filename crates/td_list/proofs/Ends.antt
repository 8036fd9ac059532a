-- The first and the last item of a list.
use Rattle.std.proofs.Common.{◌≡◌, ◌-◌, ◌<◌, ℕ, suc, List, [], ◌∷◌, ◌++◌, length, drop}
use Rattle.std.proofs.Common.{refl, ap, ◌∙◌, arith, zero, get_or, Some}
use Rattle.td_list.specs.Items.{Item, first_name, last_name}
use Rattle.td_list.specs.Places.{nothing}

pub last_at : (items : List Item) → first_name (drop (length items - 1) items) ≡ last_name items
last_at [] = refl
last_at (i ∷ []) = refl
last_at (i ∷ j ∷ items) =
    ap (λ (n : ℕ). first_name (drop n (i ∷ j ∷ items))) (less (length items)) ∙ last_at (j ∷ items)
  where
    less : (n : ℕ) → suc (suc n) - 1 ≡ suc (suc n - 1)
    less n = omega arith

pub last-append : (xs : List Item) (y : Item) (ys : List Item) → last_name (xs ++ y ∷ ys) ≡ last_name (y ∷ ys)
last-append [] y ys = refl
last-append (x ∷ []) y ys = refl
last-append (x ∷ z ∷ xs) y ys = last-append (z ∷ xs) y ys

pub first_drop : (items : List Item) (n : ℕ) → n < length items → first_name (drop n items)
    ≡ Some (get_or items n nothing).name
first_drop [] n h = absurd (omega arith)
first_drop (i ∷ items) zero h = refl
first_drop (i ∷ items) (suc n) h = first_drop items n (omega arith)
