-- A list that is cut at the first place of a byte.
use Rattle.std.proofs.Common.{◌≡◌, ◌≢◌, ℕ, true, List, [], ◌∷◌, ◌++◌, All, sym, refl, eqb, not}
use Rattle.std.specs.List.{list_all}
use Rattle.std.proofs.lemmas.Bool.{eqb-false, not-true}
use Rattle.std.proofs.lemmas.List.Sums.{AllPass-from_list_all}
use Rattle.std.proofs.lemmas.List.Elements.{All-head, All-tail, All-weaker}

-- the byte is not in the list
abbrev pub Lacks : ℕ → List ℕ → Type 0
Lacks at xs = All (λ byte. byte ≢ at) xs

-- for a literal: the test computes
pub lacks_by_test : (at : ℕ) (xs : List ℕ) → list_all (λ byte. not (eqb byte at)) xs ≡ true → Lacks at xs
lacks_by_test at xs h =
    All-weaker (λ byte. not (eqb byte at) ≡ true) (λ (byte : ℕ). byte ≢ at)
    (λ (byte : ℕ) (passes : not (eqb byte at) ≡ true). eqb-false byte at (not-true (eqb byte at) passes)) xs
    (AllPass-from_list_all (λ byte. not (eqb byte at)) xs h)

-- what stands before the byte and what stands behind it are the same
pub record IsSameCut (xs xs' ys ys' : List ℕ) : Type 0 where
  pub front : xs ≡ xs'
  pub back : ys ≡ ys'

heads : (x y : ℕ) (xs ys : List ℕ) → x ∷ xs ≡ y ∷ ys → x ≡ y
heads x y xs ys e = cc

tails : (x y : ℕ) (xs ys : List ℕ) → x ∷ xs ≡ y ∷ ys → xs ≡ ys
tails x y xs ys e = cc

pub same_cut : (at : ℕ) (xs xs' ys ys' : List ℕ) → Lacks at xs → Lacks at xs' → xs ++ at ∷ ys ≡ xs' ++ at ∷ ys'
    → IsSameCut xs xs' ys ys'
same_cut at [] [] ys ys' h h' e = record { front = refl; back = tails at at ys ys' e }
same_cut at [] (x' ∷ xs') ys ys' h h' e = absurd
    (All-head (λ (byte : ℕ). byte ≢ at) x' xs' h' (sym (heads at x' ys (xs' ++ at ∷ ys') e)))
same_cut at (x ∷ xs) [] ys ys' h h' e = absurd
    (All-head (λ (byte : ℕ). byte ≢ at) x xs h (heads x at (xs ++ at ∷ ys) ys' e))
same_cut at (x ∷ xs) (x' ∷ xs') ys ys' h h' e =
    let rest : IsSameCut xs xs' ys ys' = same_cut at xs xs' ys ys' (All-tail (λ (byte : ℕ). byte ≢ at) x xs h)
    (All-tail (λ (byte : ℕ). byte ≢ at) x' xs' h') (tails x x' (xs ++ at ∷ ys) (xs' ++ at ∷ ys') e) in
    let first : x ≡ x' = heads x x' (xs ++ at ∷ ys) (xs' ++ at ∷ ys') e in
    let same : xs ≡ xs' = rest.front in
    record { front = cc; back = rest.back }

-- a list that lacks the byte is not cut at it
pub no_cut : (at : ℕ) (xs ys zs : List ℕ) → Lacks at zs → zs ≢ xs ++ at ∷ ys
no_cut at [] ys [] h e = cc
no_cut at (x ∷ xs) ys [] h e = cc
no_cut at [] ys (z ∷ zs) h e = All-head (λ (byte : ℕ). byte ≢ at) z zs h (heads z at zs ys e)
no_cut at (x ∷ xs) ys (z ∷ zs) h e = no_cut at xs ys zs (All-tail (λ (byte : ℕ). byte ≢ at) z zs h)
    (tails z x zs (xs ++ at ∷ ys) e)
