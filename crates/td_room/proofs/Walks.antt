-- Lists that are gone through.
use Rattle.std.proofs.Common.{◌≡◌, ◌<◌, ◌≤◌, ◌+◌, ◌++◌, ℕ, zero, suc, List, [], ◌∷◌, length}
use Rattle.std.proofs.Common.{set, get_or, refl, ap, ◌∙◌, subst, arith}
use Rattle.std.specs.List.{AllByRecursion, AllZip}
use Rattle.td_room.specs.Walk.{SoFar}

pub so_far_length : {X : Type 0} (R : X → X → Type 0) (i : ℕ) (old new : List X) → SoFar R i old new
    → length new ≡ length old
so_far_length R zero old new h = ap length h
so_far_length R (suc i) [] [] h = refl
so_far_length R (suc i) [] (y ∷ new) h = absurd h
so_far_length R (suc i) (x ∷ old) [] h = absurd h
so_far_length R (suc i) (x ∷ old) (y ∷ new) h = ap suc (so_far_length R i old new h.1)

next : {X : Type 0} (R : X → X → Type 0) (i : ℕ) (old new : List X) (p q : X) → i < length new → p ≡ get_or new i p
    → R p q
    → SoFar R i old new → SoFar R (suc i) old (set new i q)
next R zero [] [] p q l e r h = absurd (omega (arith, l))
next R zero [] (y ∷ new) p q l e r h = absurd (cc h)
next R zero (x ∷ old) [] p q l e r h = absurd (cc h)
next {X} R zero (x ∷ old) (y ∷ new) p q l e r h =
    (subst (λ (z : X). R z q) (e ∙ heads y x new old h) r, tails y x new old h)
  where
    heads : (a b : X) (us vs : List X) → a ∷ us ≡ b ∷ vs → a ≡ b
    heads a b us vs f = cc

    tails : (a b : X) (us vs : List X) → a ∷ us ≡ b ∷ vs → us ≡ vs
    tails a b us vs f = cc
next R (suc i) [] [] p q l e r h = absurd (omega (arith, l))
next R (suc i) [] (y ∷ new) p q l e r h = absurd h
next R (suc i) (x ∷ old) [] p q l e r h = absurd h
next R (suc i) (x ∷ old) (y ∷ new) p q l e r h = (h.0, next R i old new p q (omega (arith, l)) e r h.1)

pub so_far_next : {X : Type 0} (R : X → X → Type 0) (i : ℕ) (old new : List X) (p q : X) → i < length new
    → p ≡ get_or new i p → R p q → SoFar R i old new → SoFar R (i + 1) old (set new i q)
so_far_next R i old new p q l e r h =
    let one : suc i ≡ i + 1 = omega arith in
    subst (λ (k : ℕ). SoFar R k old (set new i q)) one (next R i old new p q l e r h)

pub so_far_on : {X : Type 0} (R S : X → X → Type 0) (i : ℕ) (old new : List X) → ((x y : X) → R x y → S x y)
    → SoFar R i old new → SoFar S i old new
so_far_on R S zero old new f h = h
so_far_on R S (suc i) [] [] f h = h
so_far_on R S (suc i) [] (y ∷ new) f h = absurd h
so_far_on R S (suc i) (x ∷ old) [] f h = absurd h
so_far_on R S (suc i) (x ∷ old) (y ∷ new) f h = (f x y h.0, so_far_on R S i old new f h.1)

pub so_far_all : {X : Type 0} (R : X → X → Type 0) (i : ℕ) (old new : List X) → length old ≤ i → SoFar R i old new
    → AllZip R old new
so_far_all R zero [] [] l h = tt
so_far_all R zero [] (y ∷ new) l h = absurd (cc h)
so_far_all R zero (x ∷ old) new l h = absurd (omega (arith, l))
so_far_all R (suc i) [] [] l h = tt
so_far_all R (suc i) [] (y ∷ new) l h = absurd h
so_far_all R (suc i) (x ∷ old) [] l h = absurd h
so_far_all R (suc i) (x ∷ old) (y ∷ new) l h = (h.0, so_far_all R i old new (omega (arith, l)) h.1)

-- ---- two lists, one for one

pub zip_then : {X : Type 0} (R S T : X → X → Type 0) (xs ys zs : List X) → ((x y z : X) → R x y → S y z → T x z)
    → AllZip R xs ys → AllZip S ys zs → AllZip T xs zs
zip_then R S T [] [] [] f a b = tt
zip_then R S T [] [] (z ∷ zs) f a b = absurd b
zip_then R S T [] (y ∷ ys) zs f a b = absurd a
zip_then R S T (x ∷ xs) [] zs f a b = absurd a
zip_then R S T (x ∷ xs) (y ∷ ys) [] f a b = absurd b
zip_then R S T (x ∷ xs) (y ∷ ys) (z ∷ zs) f a b = (f x y z a.0 b.0, zip_then R S T xs ys zs f a.1 b.1)

pub zip_self : {X : Type 0} (R : X → X → Type 0) (xs : List X) → ((x : X) → R x x) → AllZip R xs xs
zip_self R [] f = tt
zip_self R (x ∷ xs) f = (f x, zip_self R xs f)

pub zip_set : {X : Type 0} (R : X → X → Type 0) (xs : List X) (i : ℕ) (p q : X) → ((x : X) → R x x) → p ≡ get_or xs i p
    → R p q → AllZip R xs (set xs i q)
zip_set R [] i p q f e r = tt
zip_set {X} R (x ∷ xs) zero p q f e r = (subst (λ (z : X). R z q) e r, zip_self R xs f)
zip_set R (x ∷ xs) (suc i) p q f e r = (f x, zip_set R xs i p q f e r)

-- ---- all elements

pub all_map : {X : Type 0} (P Q : X → Type 0) (xs : List X) → ((x : X) → P x → Q x) → AllByRecursion P xs
    → AllByRecursion Q xs
all_map P Q [] f h = h
all_map P Q (x ∷ xs) f h = (f x h.0, all_map P Q xs f h.1)

-- ---- one element is another

pub all_put : {X : Type 0} (P Q : X → Type 0) (xs : List X) (i : ℕ) (q : X) → ((x : X) → P x → Q x) → Q q
    → AllByRecursion P xs → AllByRecursion Q (set xs i q)
all_put P Q [] i q f g h = h
all_put P Q (x ∷ xs) zero q f g h = (g, all_map P Q xs f h.1)
all_put P Q (x ∷ xs) (suc i) q f g h = (f x h.0, all_put P Q xs i q f g h.1)
