-- Widths are what the Unicode Standard counts, and offsets lead back.
use Rattle.std.proofs.Common.{◌≡◌, ◌<◌, ◌≤◌, ◌+◌, ◌/◌, ◌%◌, ◌∷◌, [], ℕ, suc, List, length, take}
use Rattle.std.proofs.Common.{get_or, refl, sym, ap, subst, ◌∙◌, arith, length-append, add-one, IsUtf8}
use Rattle.std.proofs.Common.{⊎_elim, take-take}
use Rattle.std.specs.Prelude.{chars, flat_map}
use Rattle.std.specs.List.{All, concat}
use Rattle.std.specs.Char.Escape.{encode_utf16}
use Rattle.std.proofs.Math.Utf8.{encode, encodes}
use Rattle.std.proofs.lemmas.Bool.{cases_lt, cond_below, cond_above}
use Rattle.std.proofs.lemmas.Str.{chars_from_encodes}
use Rattle.std.proofs.lemmas.List.Sums.{sum_by-append, sum_by-cons}
use Rattle.td_base.specs.Atom.{IsAtom}
use Rattle.td_rope.specs.declared.unit.Unit.{Unit}
use Rattle.td_rope.specs.declared.unit.Unit.TheVariants.{Byte, Utf16, CodePoint}
use Rattle.td_rope.specs.Units.{IsIndexOf, offset_of, units, width}
use Rattle.td_rope.proofs.Sizes.{width_bytes}
use Rattle.td_rope.proofs.Offsets.{offset_more, offset_within}

-- ---- one code point

-- how many units a code point has
abbrev units_of : Unit → ℕ → ℕ
units_of Byte c = length (encode c)
units_of Utf16 c = length (encode_utf16 c)
units_of CodePoint c = 1

-- the bytes that begin one, and those that go on with it
ascii : (b : ℕ) → b < 128 → (units Utf16 b ≡ 1) × (units CodePoint b ≡ 1)
ascii b lt = (sym (cond_below b 128 1 _ lt), sym (cond_below b 128 1 _ lt))

going_on : (b : ℕ) → 128 ≤ b → b < 192 → (units Utf16 b ≡ 0) × (units CodePoint b ≡ 0)
going_on b ge lt = (
  sym (cond_above b 128 1 _ 0 ge (cond_below b 192 0 _ lt)),
  sym (cond_above b 128 1 _ 0 ge (cond_below b 192 0 _ lt)),
)

short_first : (b : ℕ) → 192 ≤ b → b < 240 → (units Utf16 b ≡ 1) × (units CodePoint b ≡ 1)
short_first b ge lt = (
  sym (cond_above b 128 1 _ 1 (omega (arith, ge)) (cond_above b 192 0 _ 1 ge (cond_below b 240 1 2 lt))),
  sym (cond_above b 128 1 _ 1 (omega (arith, ge)) (cond_above b 192 0 1 1 ge refl)),
)

long_first : (b : ℕ) → 240 ≤ b → (units Utf16 b ≡ 2) × (units CodePoint b ≡ 1)
long_first b ge = (
  sym (cond_above b 128 1 _ 2 (omega (arith, ge)) (cond_above b 192 0 _ 2 (omega (arith, ge))
      (cond_above b 240 1 2 2 ge refl))),
  sym (cond_above b 128 1 _ 1 (omega (arith, ge)) (cond_above b 192 0 1 1 (omega (arith, ge)) refl)),
)

-- how the bytes of one are seen
encode_one : (c : ℕ) → c < 128 → encode c ≡ c ∷ []
unfolding encode
encode_one c lt = sym (cond_below c 128 _ _ lt)

encode_two : (c : ℕ) → 128 ≤ c → c < 2048 → encode c ≡ (192 + c / 64) ∷ (128 + c % 64) ∷ []
unfolding encode
encode_two c ge lt = sym (cond_above c 128 _ _ _ ge (cond_below c 2048 _ _ lt))

encode_three : (c : ℕ) → 2048 ≤ c → c < 65536
    → encode c ≡ (224 + c / 4096) ∷ (128 + c / 64 % 64) ∷ (128 + c % 64) ∷ []
unfolding encode
encode_three c ge lt =
    sym (cond_above c 128 _ _ _ (omega (arith, ge)) (cond_above c 2048 _ _ _ ge (cond_below c 65536 _ _ lt)))

encode_four : (c : ℕ) → 65536 ≤ c
    → encode c ≡ (240 + c / 262144) ∷ (128 + c / 4096 % 64) ∷ (128 + c / 64 % 64) ∷ (128 + c % 64) ∷ []
unfolding encode
encode_four c ge =
    sym (cond_above c 128 _ _ _ (omega (arith, ge)) (cond_above c 2048 _ _ _ (omega (arith, ge))
    (cond_above c 65536 _ _ _ ge refl)))

one_unit : (c : ℕ) → c < 65536 → length (encode_utf16 c) ≡ 1
one_unit c lt = ap length (sym (cond_below c 65536 _ _ lt))

two_units : (c : ℕ) → 65536 ≤ c → length (encode_utf16 c) ≡ 2
two_units c ge = ap length (sym (cond_above c 65536 _ _ _ ge refl))

-- how wide it is
record IsWide (c : ℕ) : Type 0 where
  pub utf16 : width Utf16 (encode c) ≡ length (encode_utf16 c)
  pub point : width CodePoint (encode c) ≡ 1
  pub some : 0 < length (encode_utf16 c)

-- of a byte that begins it, and others that go on with it
wide : (c b : ℕ) (bytes : List ℕ) (n : ℕ) → encode c ≡ b ∷ bytes → length (encode_utf16 c) ≡ n → 0 < n
    → units Utf16 b ≡ n → units CodePoint b ≡ 1 → width Utf16 bytes ≡ 0 → width CodePoint bytes ≡ 0 → IsWide c
wide c b bytes n bytes_are count some utf16 point rest_utf16 rest_points = record {
  utf16 = ap (width Utf16) bytes_are ∙ sum_by-cons (units Utf16) b bytes ∙ omega (arith, utf16, rest_utf16, count);
  point = ap (width CodePoint) bytes_are ∙ sum_by-cons (units CodePoint) b bytes ∙ omega (arith, point, rest_points);
  some = omega (arith, count, some);
}

next_is : (k : ℕ) → (units Utf16 (128 + k % 64) ≡ 0) × (units CodePoint (128 + k % 64) ≡ 0)
next_is k = going_on (128 + k % 64) (omega arith) (omega arith)

wide_short : (c : ℕ) → c < 2048 → IsWide c
wide_short c lt = ⊎_elim
    (λ (low : c < 128).
    wide c c [] 1 (encode_one c low) (one_unit c (omega (arith, low))) (omega arith) (ascii c low).0 (ascii c low).1
    refl refl)
    (λ (ge : 128 ≤ c).
    let first = short_first (192 + c / 64) (omega arith) (omega (arith, lt)) in
    let next = next_is c in
    wide c (192 + c / 64) ((128 + c % 64) ∷ []) 1 (encode_two c ge lt) (one_unit c (omega (arith, lt))) (omega arith)
    first.0 first.1 (omega (arith, next.0)) (omega (arith, next.1)))
    (cases_lt c 128)

wide_three : (c : ℕ) → 2048 ≤ c → c < 65536 → IsWide c
wide_three c ge lt =
    let first = short_first (224 + c / 4096) (omega arith) (omega (arith, lt)) in
    let second = next_is (c / 64) in
    let third = next_is c in
    wide c (224 + c / 4096) ((128 + c / 64 % 64) ∷ (128 + c % 64) ∷ []) 1 (encode_three c ge lt) (one_unit c lt)
    (omega arith) first.0 first.1 (omega (arith, second.0, third.0)) (omega (arith, second.1, third.1))

wide_four : (c : ℕ) → 65536 ≤ c → IsWide c
wide_four c ge =
    let first = long_first (240 + c / 262144) (omega arith) in
    let second = next_is (c / 4096) in
    let third = next_is (c / 64) in
    let fourth = next_is c in
    wide c (240 + c / 262144) ((128 + c / 4096 % 64) ∷ (128 + c / 64 % 64) ∷ (128 + c % 64) ∷ []) 2
    (encode_four c ge) (two_units c ge) (omega arith) first.0 first.1 (omega (arith, second.0, third.0, fourth.0))
    (omega (arith, second.1, third.1, fourth.1))

is_wide : (c : ℕ) → IsWide c
is_wide c = ⊎_elim (λ (short : c < 2048). wide_short c short)
    (λ (ge : 2048 ≤ c). ⊎_elim (λ (lt : c < 65536). wide_three c ge lt) (λ (long : 65536 ≤ c). wide_four c long)
    (cases_lt c 65536))
    (cases_lt c 2048)

-- ---- a text

all_points : (cs : List ℕ) → width CodePoint (encodes cs) ≡ length cs
all_points [] = refl
all_points (c ∷ cs) =
    let rest : width CodePoint (encodes cs) ≡ length cs = all_points cs in
    omega (arith, sum_by-append (units CodePoint) (encode c) (encodes cs), (is_wide c).point, rest)

all_utf16 : (cs : List ℕ) → width Utf16 (encodes cs) ≡ length (flat_map encode_utf16 cs)
all_utf16 [] = refl
all_utf16 (c ∷ cs) =
    let rest : width Utf16 (encodes cs) ≡ length (flat_map encode_utf16 cs) = all_utf16 cs in
    omega (
      arith,
      sum_by-append (units Utf16) (encode c) (encodes cs),
      (is_wide c).utf16,
      rest,
      length-append (encode_utf16 c) (flat_map encode_utf16 cs),
    )

pub width_points : (text : List ℕ) → IsUtf8 text → width CodePoint text ≡ length (chars text)
width_points text is =
    ap (width CodePoint) (sym is.1.1) ∙ all_points is.0 ∙ ap length (chars_from_encodes is.0 text is is.1.1)

pub width_utf16 : (text : List ℕ) → IsUtf8 text → width Utf16 text ≡ length (flat_map encode_utf16 (chars text))
width_utf16 text is =
    ap (width Utf16) (sym is.1.1) ∙ all_utf16 is.0
    ∙ ap (λ (cs : List ℕ). length (flat_map encode_utf16 cs)) (chars_from_encodes is.0 text is is.1.1)

-- ---- offsets and indexes

some_wide : (unit : Unit) (cs : List ℕ) → 0 < length (encodes cs) → 0 < width unit (encodes cs)
some_wide unit [] some = absurd (omega (arith, some))
some_wide Byte (c ∷ cs) some = omega (arith, some, width_bytes (encodes (c ∷ cs)))
some_wide Utf16 (c ∷ cs) some =
    omega (
      arith,
      sum_by-append (units Utf16) (encode c) (encodes cs),
      (is_wide c).utf16,
      (is_wide c).some,
    )
some_wide CodePoint (c ∷ cs) some = omega (arith, all_points (c ∷ cs))

-- each atom has units
atom_wide : (unit : Unit) (atom : List ℕ) → IsAtom atom → 0 < width unit atom
atom_wide unit atom is =
    let bytes : encodes is.text.0 ≡ atom = is.text.1.1 in
    subst (λ (bs : List ℕ). 0 < width unit bs) bytes
    (some_wide unit is.text.0 (omega (arith, is.some, ap length bytes)))

pub leads_back : (unit : Unit) (atoms : List (List ℕ)) (index : ℕ) → All IsAtom atoms → index ≤ length atoms
    → IsIndexOf unit atoms (offset_of unit atoms index) index
leads_back unit atoms index each within = record {
  within = within;
  begins = omega arith;
  ends = λ lt.
      let more : offset_of unit atoms (suc index)
      ≡ offset_of unit atoms index + width unit (get_or atoms index []) =
      ap (offset_of unit atoms) (sym (add-one index)) ∙ offset_more unit atoms index lt in
      omega (arith, more, atom_wide unit (get_or atoms index []) (each index [] lt));
}

-- what stands before an atom stands before those behind it
rising : (unit : Unit) (atoms : List (List ℕ)) (i j : ℕ) → i ≤ j → offset_of unit atoms i ≤ offset_of unit atoms j
rising unit atoms i j le =
    let same : offset_of unit (take j atoms) i ≡ offset_of unit atoms i =
    ap (λ (front : List (List ℕ)). width unit (concat front)) (take-take i j atoms le) in
    omega (arith, same, offset_within unit (take j atoms) i)

not_before : (unit : Unit) (atoms : List (List ℕ)) (offset i j : ℕ) → IsIndexOf unit atoms offset i
    → IsIndexOf unit atoms offset j → j ≤ i
not_before unit atoms offset i j first second =
    ⊎_elim (λ (lt : i < j).
    let here : offset < offset_of unit atoms (suc i) = first.ends (omega (arith, lt, second.within)) in
    absurd (omega (arith, here, rising unit atoms (suc i) j (omega (arith, lt)), second.begins)))
    (λ (le : j ≤ i). le) (cases_lt i j)

pub one_index : (unit : Unit) (atoms : List (List ℕ)) (offset i j : ℕ) → IsIndexOf unit atoms offset i
    → IsIndexOf unit atoms offset j → i ≡ j
one_index unit atoms offset i j first second =
    omega (arith, not_before unit atoms offset i j first second, not_before unit atoms offset j i second first)
