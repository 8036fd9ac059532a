-- Rows of one size, one after another in an array.
use Rattle.std.proofs.Common.{◌≡◌, ◌<◌, ◌≤◌, ◌+◌, ◌*◌, ◌++◌, ◌∷◌, [], ℕ, zero, suc, List, length}
use Rattle.std.proofs.Common.{take, drop, refl, ap, ◌∙◌, arith, length-drop}
use Rattle.std.proofs.Math.Nat.{zero-mul, suc-mul}
use Rattle.std.specs.Prelude.{Some, slice_get}
use Rattle.std.proofs.lemmas.List.{take-append-le, drop-append-le, drop-drop, take_all, nil_from_length}
use Rattle.td_store.specs.VectorsParts.{rows_of}

pub count_rows : (size len : ℕ) (numbers : List ℕ) → length (rows_of size len numbers) ≡ len
count_rows size zero numbers = refl
count_rows size (suc len) numbers = ap suc (count_rows size len (drop size numbers))

-- one row more
pub rows_push : (size len : ℕ) (numbers row : List ℕ) → length numbers ≡ len * size → length row ≡ size
    → rows_of size (suc len) (numbers ++ row) ≡ rows_of size len numbers ++ row ∷ []
rows_push size zero numbers row whole fits =
    rw (nil_from_length numbers (omega (arith, whole)))
    (ap (λ (r : List ℕ). r ∷ []) (take_all size row (omega (arith, fits))))
rows_push size (suc len) numbers row whole fits =
    let product = suc-mul len size in
    let within : size ≤ length numbers = omega (arith, whole, product) in
    let rest : length (drop size numbers) ≡ len * size = omega (arith, length-drop size numbers, whole, product) in
    rw (take-append-le size numbers row within, drop-append-le size numbers row within)
    (ap (λ (rs : List (List ℕ)). take size numbers ∷ rs) (rows_push size len (drop size numbers) row rest fits))

-- a row by its place
pub row_at : (size len k : ℕ) (numbers : List ℕ) → k < len → slice_get (rows_of size len numbers) k
    ≡ Some (take size (drop (k * size) numbers))
row_at size zero k numbers within = absurd (omega arith)
row_at size (suc len) zero numbers within = rw (zero-mul size) refl
row_at size (suc len) (suc k) numbers within =
    let behind : size + k * size ≡ suc k * size = omega (arith, suc-mul k size) in
    let rest : drop (k * size) (drop size numbers)
    ≡ drop (suc k * size) numbers = rw (← behind) (drop-drop (k * size) size numbers) in
    row_at size len k (drop size numbers) (omega arith) ∙ ap (λ (ns : List ℕ). Some (take size ns)) rest
