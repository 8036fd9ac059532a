-- What moves make of two registers together, and of a byte.
use Rattle.std.proofs.Common.{◌≡◌, ℕ, zero, suc, ◌+◌, ◌*◌, ◌/◌, ◌%◌, ◌^◌, ◌<◌, Bool, true, false, ◌&&◌, eqb}
use Rattle.std.proofs.Common.{List, [], ◌∷◌, ◌++◌, length, get_or, refl, sym, ◌∙◌, ap, arith}
use Rattle.std.specs.Prelude.{bit_xor, slice_index}
use Rattle.std.proofs.lemmas.Nat.{xor_comm, xor_shr, xor_mod}
use Rattle.std.proofs.lemmas.Bool.{eqb-true, false≢true}
use lib.Bits.{xor_assoc, xor_self, xor_zero_l, xor_zero_r, xor_shifted}
use Rattle.td_crc.specs.declared.table.TheConstants.{TABLE}
use Rattle.td_crc.specs.Crc.{polynomial, moved, moved_by, after_byte, after_bytes, ones, flipped, crc32c, crc32c_behind}

-- a bit or none of the polynomial, of two bits together
bits : (c d : ℕ) → c < 2 → d < 2 → bit_xor c d * polynomial ≡ bit_xor (c * polynomial) (d * polynomial)
bits zero d p q = refl
bits (suc zero) zero p q = refl
bits (suc zero) (suc zero) p q = refl
bits (suc zero) (suc (suc d)) p q = absurd (omega (arith, q))
bits (suc (suc c)) d p q = absurd (omega (arith, p))

crossed : (a b c d : ℕ) → bit_xor (bit_xor a b) (bit_xor c d) ≡ bit_xor (bit_xor a c) (bit_xor b d)
crossed a b c d =
    xor_assoc a b (bit_xor c d)
    ∙ ap (bit_xor a) (sym (xor_assoc b c d) ∙ ap (λ (x : ℕ). bit_xor x d) (xor_comm b c) ∙ xor_assoc c b d)
    ∙ sym (xor_assoc a c (bit_xor b d))

moved_xor : (a b : ℕ) → moved (bit_xor a b) ≡ bit_xor (moved a) (moved b)
unfolding moved
moved_xor a b =
    ap (λ (x : ℕ). bit_xor (bit_xor a b / 2) (x * polynomial)) (xor_mod a b 1)
    ∙ ap (λ (x : ℕ). bit_xor x (bit_xor (a % 2) (b % 2) * polynomial)) (xor_shr a b 1)
    ∙ ap (bit_xor (bit_xor (a / 2) (b / 2))) (bits (a % 2) (b % 2) (omega arith) (omega arith))
    ∙ crossed (a / 2) (b / 2) (a % 2 * polynomial) (b % 2 * polynomial)

moved_xor_by : (n a b : ℕ) → moved_by n (bit_xor a b) ≡ bit_xor (moved_by n a) (moved_by n b)
moved_xor_by zero a b = refl
moved_xor_by (suc n) a b = ap (moved_by n) (moved_xor a b) ∙ moved_xor_by n (moved a) (moved b)

moved_even : (h : ℕ) → moved (h * 2) ≡ h
unfolding moved
moved_even h =
    let half : h * 2 / 2 ≡ h = omega arith in
    let none : h * 2 % 2 ≡ 0 = omega arith in
    ap (λ (x : ℕ). bit_xor x (h * 2 % 2 * polynomial)) half ∙ ap (λ (x : ℕ). bit_xor h (x * polynomial)) none
    ∙ xor_zero_r h

moved_high : (h : ℕ) → moved_by 8 (h * 256) ≡ h
moved_high h =
    let to : (n k m : ℕ) → k ≡ m * 2 → moved_by (suc n) k ≡ moved_by n m =
    λ n k m e. ap (moved_by n) (ap moved e ∙ moved_even m) in
    to 7 (h * 256) (h * 128) (omega arith) ∙ to 6 (h * 128) (h * 64) (omega arith)
    ∙ to 5 (h * 64) (h * 32) (omega arith) ∙ to 4 (h * 32) (h * 16) (omega arith)
    ∙ to 3 (h * 16) (h * 8) (omega arith) ∙ to 2 (h * 8) (h * 4) (omega arith)
    ∙ to 1 (h * 4) (h * 2) (omega arith) ∙ to 0 (h * 2) h refl

-- the register moves by the bits of its lowest byte, which the table has, and the others move down
pub by_low : (r byte : ℕ) → byte < 256 → bit_xor (r / 256) (moved_by 8 (bit_xor r byte % 256)) ≡ after_byte r byte
by_low r byte small =
    let x : ℕ = bit_xor r byte in
    let none : byte / 256 ≡ 0 = omega (arith, small) in
    let high : x / 256 ≡ r / 256 = xor_shr r byte 8 ∙ ap (bit_xor (r / 256)) none ∙ xor_zero_r (r / 256) in
    let below : x % 256 < 2 ^ 8 = omega arith in
    let split : x ≡ bit_xor (x / 256 * 256) (x % 256) = sym (xor_shifted (x / 256) 8 (x % 256) below ∙ omega arith) in
    sym (
    ap (moved_by 8) split ∙ moved_xor_by 8 (x / 256 * 256) (x % 256)
    ∙ ap (λ (y : ℕ). bit_xor y (moved_by 8 (x % 256))) (moved_high (x / 256) ∙ high)
    )

-- the entries from this place on
abbrev are_from : ℕ → List ℕ → Bool
are_from n [] = true
are_from n (x ∷ xs) = eqb x (moved_by 8 n) && are_from (suc n) xs

all_are : are_from 0 TABLE ≡ true
unfolding moved
all_are = refl

first_of : (a b : Bool) → (a && b) ≡ true → a ≡ true
first_of true b e = refl
first_of false b e = e

second_of : (a b : Bool) → (a && b) ≡ true → b ≡ true
second_of true b e = e
second_of false b e = absurd (false≢true e)

entry_from : (n : ℕ) (xs : List ℕ) → are_from n xs ≡ true → (i : ℕ) → i < length xs → get_or xs i 0 ≡ moved_by 8 (n + i)
entry_from n [] are i lt = absurd (omega (arith, lt))
entry_from n (x ∷ xs) are zero lt = eqb-true x (moved_by 8 n)
    (first_of (eqb x (moved_by 8 n)) (are_from (suc n) xs) are) ∙ ap (moved_by 8) (omega arith)
entry_from n (x ∷ xs) are (suc i) lt =
    entry_from (suc n) xs (second_of (eqb x (moved_by 8 n)) (are_from (suc n) xs) are) i (omega (arith, lt))
    ∙ ap (moved_by 8) (omega arith)

pub entry_is : (i : ℕ) → i < 256 → slice_index TABLE i ≡ moved_by 8 i
entry_is i lt = entry_from 0 TABLE all_are i lt ∙ ap (moved_by 8) (omega arith)

-- ---- bytes one behind another

pub passed : (r : ℕ) (xs ys : List ℕ) → after_bytes r (xs ++ ys) ≡ after_bytes (after_bytes r xs) ys
passed r [] ys = refl
passed r (x ∷ xs) ys = passed (after_byte r x) xs ys

-- behind the check of the bytes in front
pub goes_on : (front bytes : List ℕ) → crc32c_behind (crc32c front) bytes ≡ crc32c (front ++ bytes)
goes_on front bytes =
    let r : ℕ = after_bytes (flipped 0) front in
    let again : flipped (flipped r) ≡ r = sym (xor_assoc ones ones r) ∙ ap (λ (x : ℕ). bit_xor x r) (xor_self ones)
    ∙ xor_zero_l r in
    ap (λ (x : ℕ). flipped (after_bytes x bytes)) again ∙ ap flipped (sym (passed (flipped 0) front bytes))
