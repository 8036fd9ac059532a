-- Lists kept the other way round.
use Rattle.std.proofs.Common.{◌≡◌, ◌≤◌, ◌==◌, ℕ, List, length, take, ◌∙◌, arith}
use Rattle.std.specs.Prelude.{reverse}
use Rattle.std.specs.List.{list_any}
use Rattle.std.proofs.lemmas.Bool.Decides.{nat_tests}
use Rattle.std.proofs.lemmas.List.{length-take-le, length-reverse}
use Rattle.std.proofs.lemmas.List.Sorted.{IsPermutation-reverse, list_any-IsPermutation}

pub front_length : (n : ℕ) (xs : List ℕ) → n ≤ length xs → length (reverse (take n xs)) ≡ n
front_length n xs h = length-reverse (take n xs) ∙ length-take-le n xs h

either_way : (m n : ℕ) → (m == n) ≡ (n == m)
either_way m n = grind (arith, nat_tests)

-- one of them is the number
pub is_among : (n : ℕ) (xs : List ℕ) → list_any (λ (x : ℕ). x == n) xs ≡ list_any (λ (x : ℕ). n == x) (reverse xs)
is_among n xs =
    (λ i. list_any (λ (x : ℕ). either_way x n i) xs)
    ∙ list_any-IsPermutation (λ (x : ℕ). n == x) xs (reverse xs) (IsPermutation-reverse xs)
