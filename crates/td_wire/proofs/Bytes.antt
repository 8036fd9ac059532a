-- One byte that passes a test, one in a range, and numbers in a range.
use Rattle.std.proofs.Common.{◌≡◌, ℕ, suc, ◌+◌, ◌*◌, ◌/◌, ◌%◌, ◌<◌, ◌≤◌, Bool, true, false, cond, leb, eqb, List, []}
use Rattle.std.proofs.Common.{◌∷◌, ◌++◌, length, Ok, Err, refl, sym, ap, ◌∙◌, arith}
use Rattle.std.proofs.lemmas.Bool.{leb-true, le-leb, eqb-true, eqb-false, and_parts, and_from, both_ways}
use Rattle.std.specs.Int.{is_in_range}
use Rattle.td_wire.specs.Spelling.{number_bytes as number}
use Rattle.td_wire.specs.Reading.{Read, ◌>>=◌, passing_at, byte_at, low_least, low_most, number_at}
use Rattle.td_wire.proofs.Exact.{ok, ok_is, IsFault, Reads, Done, Seq, Field, done, same, renamed, chain, then}

pub record Passes (p : ℕ → Bool) (n : ℕ) (xs : List ℕ) : Type 0 where
  pub passes : p n ≡ true
  pub is : xs ≡ n ∷ []

pub passing_sound : (p : ℕ → Bool) (xs : List ℕ) (n : ℕ) (rest : List ℕ) → passing_at p xs ≡ Ok (n, rest)
    → (front : List ℕ) × (xs ≡ front ++ rest) × Passes p n front
passing_sound p [] n rest e = absurd cc
passing_sound p (b ∷ bytes) n rest e = by_test (p b) refl e where
  by_test : (t : Bool) → p b ≡ t → cond {A = Read ℕ} t (Ok (b, bytes)) (Err (suc (length bytes))) ≡ Ok (n, rest)
      → (front : List ℕ) × (b ∷ bytes ≡ front ++ rest) × Passes p n front
  by_test true is e =
      let both = ok_is (b, bytes) (n, rest) e in
      let value : b ≡ n = ap (λ (x : ℕ × List ℕ). x.0) both in
      let after : bytes ≡ rest = ap (λ (x : ℕ × List ℕ). x.1) both in (
        b ∷ [],
        ap (λ (ys : List ℕ). b ∷ ys) after,
        record { passes = ap p (sym value) ∙ is; is = ap (λ (m : ℕ). m ∷ []) value },
      )
  by_test false is e = absurd cc

passing_again : (p : ℕ → Bool) (n : ℕ) (front rest : List ℕ) → Passes p n front
    → passing_at p (front ++ rest) ≡ Ok (n, rest)
passing_again p n front rest g = rw g.is (ap (λ t. cond t (ok (n, rest)) (Err (suc (length rest)))) g.passes)

left_is : (k left : ℕ) → ◌≡◌ {A = Read ℕ} (Err k) (Err left) → k ≡ left
left_is k left e = cc

passing_fault : (p : ℕ → Bool) (n : ℕ) → p n ≡ true → (xs : List ℕ) (left : ℕ) → passing_at p xs ≡ Err left
    → IsFault (Passes p) xs left
passing_fault p n some [] left e = record {
  good = [];
  bad = [];
  parts = refl;
  left_is = left_is 0 left e;
  begins = (n, n ∷ [], record { passes = some; is = refl });
  stops = tt;
}
passing_fault p n some (b ∷ bytes) left e = by_test (p b) refl e where
  first_is : (m : ℕ) (more : List ℕ) → (b ∷ []) ++ more ≡ m ∷ [] → b ≡ m
  first_is m more e = cc

  by_test : (t : Bool) → p b ≡ t → cond {A = Read ℕ} t (Ok (b, bytes)) (Err (suc (length bytes))) ≡ Err left
      → IsFault (Passes p) (b ∷ bytes) left
  by_test true is e = absurd cc
  by_test false is e = record {
    good = [];
    bad = b ∷ bytes;
    parts = refl;
    left_is = left_is (suc (length bytes)) left e;
    begins = (n, n ∷ [], record { passes = some; is = refl });
    stops = λ begins. both_ways (p b) is (ap p (first_is begins.0 begins.1 begins.2.is) ∙ begins.2.passes);
  }

-- n is some byte that passes
pub passing_reads : (p : ℕ → Bool) (n : ℕ) → p n ≡ true → Reads (Passes p) (passing_at p)
passing_reads p n some = record {
  some = (n, n ∷ [], record { passes = some; is = refl });
  sound = passing_sound p;
  again = passing_again p;
  fault = passing_fault p n some;
}

pub record InRange (low high n : ℕ) : Type 0 where
  pub least : low ≤ n
  pub most : n ≤ high

abbrev pub one_byte : ℕ → List ℕ
one_byte n = n ∷ []

abbrev pub Byte : ℕ → ℕ → ℕ → List ℕ → Type 0
Byte low high = Field (InRange low high) one_byte

pub byte_reads : (low high : ℕ) → low ≤ high → Reads (Byte low high) (byte_at low high)
byte_reads low high some = same (Passes (is_in_range low high)) (Byte low high) (byte_at low high)
    (λ n xs g. let parts = and_parts (leb low n) (leb n high) g.passes in
    record { can = record { least = leb-true low n parts.0; most = leb-true n high parts.1 }; is = g.is })
    (λ n xs g. record {
      passes = and_from (leb low n) (leb n high) (le-leb low n g.can.least)
          (le-leb n high g.can.most);
      is = g.is;
    })
    (passing_reads (is_in_range low high) low
    (and_from (leb low low) (leb low high) (le-leb low low (omega arith)) (le-leb low high some)))

-- ---- numbers

pub number_is : (n : ℕ) → n ≤ 65535 → number n ≡ 0 ∷ 0 ∷ n / 256 ∷ n % 256 ∷ []
number_is n small =
    let a : n / 16777216 % 256 ≡ 0 = omega arith in
    let b : n / 65536 % 256 ≡ 0 = omega arith in
    let c : n / 256 % 256 ≡ n / 256 = omega arith in
    ap (λ (x : ℕ). x ∷ n / 65536 % 256 ∷ n / 256 % 256 ∷ n % 256 ∷ []) a
    ∙ ap (λ (x : ℕ). 0 ∷ x ∷ n / 256 % 256 ∷ n % 256 ∷ []) b
    ∙ ap (λ (x : ℕ). 0 ∷ 0 ∷ x ∷ n % 256 ∷ []) c

abbrev pub Number : ℕ → ℕ → ℕ → List ℕ → Type 0
Number low high = Field (InRange low high) number

least_holds : (low n : ℕ) → low ≤ n → low_least low (n / 256) ≤ n % 256
least_holds low n h = by_test (eqb (n / 256) (low / 256)) refl where
  by_test : (t : Bool) → eqb (n / 256) (low / 256) ≡ t → cond t (low % 256) 0 ≤ n % 256
  by_test true is = let equal = eqb-true _ _ is in omega (arith, equal)
  by_test false is = omega arith

most_holds : (high n : ℕ) → n ≤ high → n % 256 ≤ low_most high (n / 256)
most_holds high n h = by_test (eqb (n / 256) (high / 256)) refl where
  by_test : (t : Bool) → eqb (n / 256) (high / 256) ≡ t → n % 256 ≤ cond t (high % 256) 255
  by_test true is = let equal = eqb-true _ _ is in omega (arith, equal)
  by_test false is = omega arith

least_from : (low a b : ℕ) → low / 256 ≤ a → low_least low a ≤ b → low ≤ a * 256 + b
least_from low a b h k = by_test (eqb a (low / 256)) refl k where
  by_test : (t : Bool) → eqb a (low / 256) ≡ t → cond t (low % 256) 0 ≤ b → low ≤ a * 256 + b
  by_test true is k = let equal = eqb-true _ _ is in omega (arith, equal)
  by_test false is k = let differ = eqb-false _ _ is in omega (arith, differ)

most_from : (high a b : ℕ) → a ≤ high / 256 → b ≤ low_most high a → a * 256 + b ≤ high
most_from high a b h k = by_test (eqb a (high / 256)) refl k where
  by_test : (t : Bool) → eqb a (high / 256) ≡ t → b ≤ cond t (high % 256) 255 → a * 256 + b ≤ high
  by_test true is k = let equal = eqb-true _ _ is in omega (arith, equal)
  by_test false is k = let differ = eqb-false _ _ is in omega (arith, differ)

-- the range of the low byte is not empty, and it is one of bytes
low_range : (low high a : ℕ) → low ≤ high → low / 256 ≤ a → a ≤ high / 256 → low_least low a ≤ low_most high a
low_range low high a h k l = by_tests (eqb a (low / 256)) (eqb a (high / 256)) refl refl where
  by_tests : (s t : Bool) → eqb a (low / 256) ≡ s → eqb a (high / 256) ≡ t
      → cond s (low % 256) 0 ≤ cond t (high % 256) 255
  by_tests true true x y = let e = eqb-true _ _ x in let f = eqb-true _ _ y in omega (arith, e, f)
  by_tests true false x y = omega arith
  by_tests false t x y = omega arith

low_byte : (high a b : ℕ) → b ≤ low_most high a → b < 256
low_byte high a b h = by_test (eqb a (high / 256)) h where
  by_test : (t : Bool) → b ≤ cond t (high % 256) 255 → b < 256
  by_test true h = omega arith
  by_test false h = omega arith

-- the four bytes one after another
abbrev LowCan : ℕ → ℕ → ℕ → ℕ → Type 0
LowCan low high a n = InRange (low_least low a) (low_most high a) (n % 256) × (a * 256 + n % 256 ≡ n)

abbrev low_spelled : ℕ → List ℕ
low_spelled n = n % 256 ∷ []

low_reads : (low high a : ℕ) → low ≤ high → InRange (low / 256) (high / 256) a
    → Reads (Field (LowCan low high a) low_spelled)
    (λ xs. byte_at (low_least low a) (low_most high a) xs >>= λ x. Ok (a * 256 + x.0, x.1))
low_reads low high a some g = same (Seq (Byte (low_least low a) (low_most high a)) (λ b. Done (a * 256 + b)))
    (Field (LowCan low high a) low_spelled) _
    (λ n xs q.
    let byte = low_byte high a q.first q.head.can.most in
    let value : a * 256 + q.first ≡ n = q.tail.is in
    let last : n % 256 ≡ q.first = omega (arith, byte, value) in
    record { can = (rw last q.head.can, rw last value); is = q.parts ∙ rw (q.head.is, q.tail.nothing, last) refl })
    (λ n xs f. record {
      first = n % 256;
      front = n % 256 ∷ [];
      back = [];
      parts = f.is;
      head = record { can = f.can.0; is = refl };
      tail = record { is = f.can.1; nothing = refl };
    })
    (then (Byte (low_least low a) (low_most high a)) (λ b. Done (a * 256 + b))
    (byte_at (low_least low a) (low_most high a)) (λ b ys. Ok (a * 256 + b, ys))
    (byte_reads (low_least low a) (low_most high a) (low_range low high a some g.least g.most))
    (λ b front h. done (a * 256 + b)))

zero_in : InRange 0 0 0
zero_in = record { least = omega arith; most = omega arith }

abbrev nought : ℕ → ℕ
nought n = 0

pub number_reads : (low high : ℕ) → low ≤ high → high ≤ 65535 → Reads (Number low high) (number_at low high)
unfolding number_at
number_reads low high some small = renamed
    (λ n. InRange 0 0 0 × (InRange 0 0 0 × (InRange (low / 256) (high / 256) (n / 256) × LowCan low high (n / 256) n)))
    (InRange low high) (λ n. (0 ∷ []) ++ ((0 ∷ []) ++ ((n / 256 ∷ []) ++ low_spelled n))) number (number_at low high)
    (λ n h.
    let top = most_from high (n / 256) (n % 256) h.1.1.0.most h.1.1.1.0.most in
    let bottom = least_from low (n / 256) (n % 256) h.1.1.0.least h.1.1.1.0.least in
    record { least = omega (arith, bottom); most = omega (arith, top) })
    (λ n h. (
      zero_in,
      (
        zero_in,
        (
          record { least = omega (arith, h.least); most = omega (arith, h.most) },
          (record { least = least_holds low n h.least; most = most_holds high n h.most }, omega arith),
        ),
      ),
    ))
    (λ n h. sym (number_is n (omega (arith, h.most, small))))
    (chain (InRange 0 0) one_byte _ _ nought (byte_at 0 0) _ (λ a n z h. omega (arith, z.most))
    (byte_reads 0 0 (omega arith)) (λ _ _.
    chain (InRange 0 0) one_byte _ _ nought (byte_at 0 0) _ (λ a n z h. omega (arith, z.most))
    (byte_reads 0 0 (omega arith)) (λ _ _.
    chain (InRange (low / 256) (high / 256)) one_byte (LowCan low high) (λ a. low_spelled) (λ n. n / 256)
    (byte_at (low / 256) (high / 256)) _
    (λ a n z h. omega (arith, h.1)) (byte_reads (low / 256) (high / 256) (omega arith))
    (λ a g. low_reads low high a some g))))
