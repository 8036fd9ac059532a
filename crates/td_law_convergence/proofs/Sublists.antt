-- Lists with elements left out.
use Rattle.std.proofs.Common.{◌≡◌, List, [], ◌∷◌, map, filter, Bool, true, false, cond, refl, sym, inl, inr, ⊎_elim}
use Rattle.td_base.specs.Lists.{In, Successive, StandsBefore, IsSublist, done, kept, left_out}
use Rattle.td_base.proofs.Lists.{all_of, all_in}
use Rattle.td_base.proofs.Rising.{stands_first, stands_last}

pub sub_trans : {X : Type 0} (xs ys zs : List X) → IsSublist xs ys → IsSublist ys zs → IsSublist xs zs
sub_trans xs ys zs s (left_out {ys = rest} z t) = left_out z (sub_trans xs ys rest s t)
sub_trans xs ys zs done done = done
sub_trans xs ys zs (kept {xs = us} {ys = vs} x s) (kept {ys = ws} y t) = kept x (sub_trans us vs ws s t)
sub_trans xs ys zs (left_out {ys = vs} x s) (kept {ys = ws} y t) = left_out y (sub_trans xs vs ws s t)

pub sub_same : {X : Type 0} (xs : List X) → IsSublist xs xs
sub_same [] = done
sub_same (x ∷ xs) = kept x (sub_same xs)

pub filter_sub : {X Y : Type 0} (f : X → Y) (test : X → Bool) (xs : List X)
    → IsSublist (map f (filter test xs)) (map f xs)
filter_sub f test [] = done
filter_sub f test (x ∷ xs) = filter_at f x (test x) (filter test xs) xs (filter_sub f test xs)
  where
    filter_at : {X Y : Type 0} (f : X → Y) (x : X) (b : Bool) (ys xs : List X) → IsSublist (map f ys) (map f xs)
        → IsSublist (map f (cond b (x ∷ ys) ys)) (f x ∷ map f xs)
    filter_at f x true ys xs s = kept (f x) s
    filter_at f x false ys xs s = left_out (f x) s

pub sub_in : {X : Type 0} (xs ys : List X) → IsSublist xs ys → (x : X) → In x xs → In x ys
sub_in xs ys done x i = absurd i
sub_in xs ys (kept {xs = us} {ys = vs} y s) x i = ⊎_elim (λ (e : x ≡ y). inl e) (λ k. inr (sub_in us vs s x k)) i
sub_in xs ys (left_out {ys = vs} y s) x i = inr (sub_in xs vs s x i)

pub rising_sub : {X : Type 0} (R : X → X → Type 0) (xs ys : List X) → IsSublist xs ys → Successive R ys
    → Successive R xs
rising_sub R xs ys done h = tt
rising_sub R xs ys (kept {xs = us} {ys = vs} y s) h =
    (all_of (R y) us (λ z i. all_in (R y) vs h.0 z (sub_in us vs s z i)), rising_sub R us vs s h.1)
rising_sub R xs ys (left_out {ys = vs} y s) h = rising_sub R xs vs s h.1

-- what stands before what, there and in the whole
pub sub_stands : {X : Type 0} (xs ys : List X) → IsSublist xs ys → (x y : X) → StandsBefore x y xs
    → StandsBefore x y ys
sub_stands xs ys done x y h = h
sub_stands xs ys (kept {xs = us} {ys = vs} w s) x y h =
    ⊎_elim (λ (k : (x ≡ w) × In y us). inl (k.0, sub_in us vs s y k.1)) (λ k. inr (sub_stands us vs s x y k)) h
sub_stands xs ys (left_out {ys = vs} w s) x y h = inr (sub_stands xs vs s x y h)

pub stands_sub : {X : Type 0} (xs ys : List X) → IsSublist xs ys → Successive (λ (x y : X). x ≡ y → ⊥) ys → (x y : X)
    → StandsBefore x y ys
    → In x xs → In y xs → StandsBefore x y xs
stands_sub xs ys done d x y h i j = h
stands_sub {X} xs ys (kept {xs = us} {ys = vs} w s) d x y h i j =
    ⊎_elim
    (λ (k : (x ≡ w) × In y vs).
    ⊎_elim (λ (e : y ≡ w). absurd (all_in (λ (v : X). w ≡ v → ⊥) vs d.0 y k.1 (sym e))) (λ l. inl (k.0, l)) j)
    (λ (k : StandsBefore x y vs).
    ⊎_elim (λ (e : x ≡ w). absurd (all_in (λ (v : X). w ≡ v → ⊥) vs d.0 x (stands_first x y vs k) (sym e)))
    (λ l. ⊎_elim (λ (e : y ≡ w). absurd (all_in (λ (v : X). w ≡ v → ⊥) vs d.0 y (stands_last x y vs k) (sym e)))
    (λ m. inr (stands_sub us vs s d.1 x y k l m)) j) i)
    h
stands_sub {X} xs ys (left_out {ys = vs} w s) d x y h i j =
    ⊎_elim
    (λ (k : (x ≡ w) × In y vs). absurd (all_in (λ (v : X). w ≡ v → ⊥) vs d.0 x (sub_in xs vs s x i) (sym k.0)))
    (λ k. stands_sub xs vs s d.1 x y k i j)
    h

-- a part with all elements is the whole
pub whole_sub : {X : Type 0} (xs ys : List X) → IsSublist xs ys → Successive (λ (x y : X). x ≡ y → ⊥) ys
    → ((y : X) → In y ys → In y xs) → xs ≡ ys
whole_sub xs ys done d all = refl
whole_sub {X} xs ys (kept {xs = us} {ys = vs} w s) d all =
    let rest : us ≡ vs =
    whole_sub us vs s d.1
    (λ y i. ⊎_elim (λ (e : y ≡ w). absurd (all_in (λ (v : X). w ≡ v → ⊥) vs d.0 y i (sym e))) (λ j. j)
    (all y (inr i))) in
    λ k. w ∷ rest k
whole_sub {X} xs ys (left_out {ys = vs} w s) d all =
    absurd (all_in (λ (v : X). w ≡ v → ⊥) vs d.0 w (sub_in xs vs s w (all w (inl refl))) refl)
