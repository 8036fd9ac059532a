-- What stands at a place of a list, and which places it has.
use Rattle.std.proofs.Common.{◌≡◌, ◌<◌, ◌+◌, ◌-◌, ◌++◌, ◌∷◌, ◌∙◌, [], ℕ, zero, suc, List, Option, Some, None, length}
use Rattle.std.proofs.Common.{take, drop, get_or, remove, slice_get, refl, sym, ap, arith, eqb, inl, inr}
use Rattle.std.proofs.lemmas.Bool.{cond-false, ne_eqb}
use Rattle.std.proofs.lemmas.List.{take_more, drop_more}
use Rattle.std.proofs.lemmas.Option.{slice_get_within, get_or_from_slice_get}
use Rattle.td_base.specs.Lists.{In, kth}

-- what stands at a place stays there when more is put behind
pub get_more : {X : Type 0} (xs ys : List X) (k : ℕ) (x : X) → slice_get xs k ≡ Some x
    → slice_get (xs ++ ys) k ≡ Some x
get_more [] ys k x e = absurd cc
get_more (z ∷ xs) ys zero x e = e
get_more (z ∷ xs) ys (suc k) x e = get_more xs ys k x e

pub get_behind : {X : Type 0} (xs : List X) (y : X) (ys : List X) → slice_get (xs ++ y ∷ ys) (length xs) ≡ Some y
get_behind [] y ys = refl
get_behind (x ∷ xs) y ys = get_behind xs y ys

pub some_at : {X : Type 0} (xs : List X) (k : ℕ) → k < length xs → (x : X) × (slice_get xs k ≡ Some x)
some_at [] k h = absurd (omega (arith, h))
some_at (x ∷ xs) zero h = (x, refl)
some_at (x ∷ xs) (suc k) h = some_at xs k (omega (arith, h))

pub place_of : {X : Type 0} (xs : List X) (x : X) → In x xs → (k : ℕ) × (slice_get xs k ≡ Some x)
place_of [] x i = absurd i
place_of (y ∷ xs) x (inl e) = (0, ap Some (sym e))
place_of (y ∷ xs) x (inr i) = let p = place_of xs x i in (suc p.0, p.1)

-- the list up to a place, and from there on
pub take_there : {X : Type 0} (xs : List X) (k : ℕ) (x : X) → slice_get xs k ≡ Some x
    → take (k + 1) xs ≡ take k xs ++ x ∷ []
take_there xs k x e =
    take_more xs k x (slice_get_within xs k x e)
    ∙ ap (λ y. take k xs ++ y ∷ []) (get_or_from_slice_get xs k x x e)

pub drop_there : {X : Type 0} (xs : List X) (k : ℕ) (x : X) → slice_get xs k ≡ Some x
    → drop k xs ≡ x ∷ drop (k + 1) xs
drop_there xs k x e =
    drop_more xs k x (slice_get_within xs k x e)
    ∙ ap (λ y. y ∷ drop (k + 1) xs) (get_or_from_slice_get xs k x x e)

-- the first is taken out
pub first_out : {X : Type 0} (xs ys : List X) (x : X) → 0 < length xs → x ≡ get_or xs 0 x → ys ≡ remove xs 0
    → xs ≡ x ∷ ys
first_out [] ys x h e r = absurd (omega (arith, h))
first_out (z ∷ xs) ys x h e r = λ i. sym e i ∷ sym r i

pub kth_next : {X : Type 0} (xs : List X) (k : ℕ) → kth (k + 1) xs ≡ slice_get xs k
kth_next {X} xs k =
    let back : k + 1 - 1 ≡ k = omega arith in
    cond-false {A = Option X} (eqb (k + 1) 0) None (slice_get xs (k + 1 - 1)) (ne_eqb (k + 1) 0 (omega arith))
    ∙ ap (slice_get xs) back
