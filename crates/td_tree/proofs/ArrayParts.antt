-- Parts of an array.
use Rattle.std.proofs.Common.{◌≡◌, ◌+◌, ◌-◌, ◌/◌, ◌<◌, ◌≤◌, ℕ, zero, suc, List, [], ◌∷◌, ◌++◌, length, take}
use Rattle.std.proofs.Common.{drop, get_or, refl, ap, ◌∙◌, inl, inr, ⊎_elim, arith, length-drop}
use Rattle.std.proofs.lemmas.List.{length-take-le}
use Rattle.td_base.specs.Lists.{In}
use Rattle.td_tree.specs.Parts.{part}

pub part_length : (xs : List ℕ) (from n : ℕ) → from + n ≤ length xs → length (part xs from n) ≡ n
part_length xs from n h =
    let long = length-drop from xs in
    length-take-le n (drop from xs) (omega arith)

-- a row at a place of the part
pub part_in : (xs : List ℕ) (from n k : ℕ) → from ≤ k → k < from + n → from + n ≤ length xs
    → In (get_or xs k 0) (part xs from n)
part_in [] from n k h l w = absurd (omega arith)
part_in (x ∷ xs) zero zero k h l w = absurd (omega arith)
part_in (x ∷ xs) zero (suc n) zero h l w = inl refl
part_in (x ∷ xs) zero (suc n) (suc k) h l w = inr (part_in xs zero n k (omega arith) (omega arith) (omega arith))
part_in (x ∷ xs) (suc from) n zero h l w = absurd (omega arith)
part_in (x ∷ xs) (suc from) n (suc k) h l w = part_in xs from n k (omega arith) (omega arith) (omega arith)

-- and each of its rows has one
pub part_place : (xs : List ℕ) (from n x : ℕ) → In x (part xs from n) → (k : ℕ) × (from ≤ k) × (k < from + n)
    × (x ≡ get_or xs k 0)
part_place [] zero zero x i = absurd i
part_place [] zero (suc n) x i = absurd i
part_place [] (suc from) zero x i = absurd i
part_place [] (suc from) (suc n) x i = absurd i
part_place (y ∷ xs) zero zero x i = absurd i
part_place (y ∷ xs) zero (suc n) x i =
    ⊎_elim (λ (e : x ≡ y). (0, omega arith, omega arith, e))
    (λ (j : In x (take n xs)). let r : (k : ℕ) × (0 ≤ k) × (k < 0 + n)
    × (x ≡ get_or xs k 0) = part_place xs zero n x j in (suc r.0, omega arith, next r.0 n r.2, r.3)) i
  where
    next : (k n : ℕ) → k < 0 + n → suc k < 0 + suc n
    next k n h = omega arith
part_place (y ∷ xs) (suc from) n x i =
    let r : (k : ℕ) × (from ≤ k) × (k < from + n) × (x ≡ get_or xs k 0) = part_place xs from n x i in
    (suc r.0, more from r.0 r.1, next r.0 n r.2, r.3)
  where
    more : (m k : ℕ) → m ≤ k → suc m ≤ suc k
    more m k h = omega arith

    next : (k n : ℕ) → k < from + n → suc k < suc from + n
    next k n h = omega arith

-- a part, parted at one of its rows
pub part_split : (xs : List ℕ) (from h k n m : ℕ) → n ≡ h + suc k → m ≡ from + h → from + n ≤ length xs
    → part xs from n ≡ part xs from h ++ get_or xs m 0 ∷ part xs (suc m) k
part_split [] from h k n m e f w = absurd (omega arith)
part_split (x ∷ xs) zero zero k n m e f w =
    let long : n ≡ suc k = omega arith in
    let here : 0 ≡ m = omega arith in
    (λ i. take (long i) (x ∷ xs)) ∙ (λ i. get_or (x ∷ xs) (here i) 0 ∷ take k (drop (here i) xs))
part_split (x ∷ xs) zero (suc h) k zero m e f w = absurd (omega arith)
part_split (x ∷ xs) zero (suc h) k (suc n) zero e f w = absurd (omega arith)
part_split (x ∷ xs) zero (suc h) k (suc n) (suc m) e f w =
    ap (λ (q : List ℕ). x ∷ q) (part_split xs zero h k n m (omega arith) (omega arith) (omega arith))
part_split (x ∷ xs) (suc from) h k n zero e f w = absurd (omega arith)
part_split (x ∷ xs) (suc from) h k n (suc m) e f w =
    part_split xs from h k n m (omega arith) (omega arith) (omega arith)

pub part_halves : (xs : List ℕ) (from n : ℕ) → 0 < n → from + n ≤ length xs
    → part xs from n ≡ part xs from (n / 2) ++ get_or xs (from + n / 2) 0 ∷ part xs (from + n / 2 + 1) (n - n / 2 - 1)
part_halves xs from n s w =
    let next : suc (from + n / 2) ≡ from + n / 2 + 1 = omega arith in
    part_split xs from (n / 2) (n - n / 2 - 1) n (from + n / 2) (omega arith) refl w
    ∙ ap (λ (m : ℕ). part xs from (n / 2) ++ get_or xs (from + n / 2) 0 ∷ part xs m (n - n / 2 - 1)) next
