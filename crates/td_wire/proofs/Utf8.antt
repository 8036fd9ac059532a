-- Texts of a stated length, character by character, as RFC 3629 has the bytes of a character.
use Rattle.std.proofs.Common.{◌≡◌, ℕ, ◌+◌, ◌-◌, ◌*◌, ◌/◌, ◌%◌, ◌<◌, ◌≤◌, true, leb, ltb, eqb, List, [], ◌∷◌, ◌⊎◌, inl}
use Rattle.std.proofs.Common.{inr, sym, ap, subst, ◌∙◌, arith}
use Rattle.std.specs.Char.{IsScalar, encode_utf8}
use Rattle.std.proofs.Math.Utf8.{low_scalar}
use Rattle.std.proofs.lemmas.Bool.{lt-ltb, le-ltb, le-leb, eq-eqb, ne_eqb, and_from, cond-true, cond-false, cases_lt}
use Rattle.std.proofs.lemmas.Bool.{cases_eq}
use Rattle.td_wire.specs.Reading.{character_len, second_least, second_most}
use Rattle.td_wire.proofs.Bytes.{InRange}

-- ---- first bytes

-- what the first byte of a character is like, and how long the character is
pub data Lead (b : ℕ) : ℕ → Type 0 where
  lead_1 : b < 128 → Lead b 1
  lead_2 : 194 ≤ b → b < 224 → Lead b 2
  lead_3 : 224 ≤ b → b < 240 → Lead b 3
  lead_4 : 240 ≤ b → b < 245 → Lead b 4

pub len_1 : (b : ℕ) → b < 128 → character_len b ≡ 1
len_1 b h = cond-true (ltb b 128) 1 _ (lt-ltb b 128 h)

len_0 : (b : ℕ) → 128 ≤ b → b < 194 → character_len b ≡ 0
len_0 b h k = cond-false (ltb b 128) 1 _ (le-ltb b 128 h) ∙ cond-true (ltb b 194) 0 _ (lt-ltb b 194 k)

pub len_2 : (b : ℕ) → 194 ≤ b → b < 224 → character_len b ≡ 2
len_2 b h k = cond-false (ltb b 128) 1 _ (le-ltb b 128 (omega arith)) ∙ cond-false (ltb b 194) 0 _ (le-ltb b 194 h)
    ∙ cond-true (ltb b 224) 2 _ (lt-ltb b 224 k)

pub len_3 : (b : ℕ) → 224 ≤ b → b < 240 → character_len b ≡ 3
len_3 b h k = cond-false (ltb b 128) 1 _ (le-ltb b 128 (omega arith))
    ∙ cond-false (ltb b 194) 0 _ (le-ltb b 194 (omega arith))
    ∙ cond-false (ltb b 224) 2 _ (le-ltb b 224 h) ∙ cond-true (ltb b 240) 3 _ (lt-ltb b 240 k)

pub len_4 : (b : ℕ) → 240 ≤ b → b < 245 → character_len b ≡ 4
len_4 b h k = cond-false (ltb b 128) 1 _ (le-ltb b 128 (omega arith))
    ∙ cond-false (ltb b 194) 0 _ (le-ltb b 194 (omega arith))
    ∙ cond-false (ltb b 224) 2 _ (le-ltb b 224 (omega arith)) ∙ cond-false (ltb b 240) 3 _ (le-ltb b 240 h)
    ∙ cond-true (ltb b 245) 4 0 (lt-ltb b 245 k)

len_past : (b : ℕ) → 245 ≤ b → character_len b ≡ 0
len_past b h = cond-false (ltb b 128) 1 _ (le-ltb b 128 (omega arith))
    ∙ cond-false (ltb b 194) 0 _ (le-ltb b 194 (omega arith))
    ∙ cond-false (ltb b 224) 2 _ (le-ltb b 224 (omega arith)) ∙ cond-false (ltb b 240) 3 _ (le-ltb b 240 (omega arith))
    ∙ cond-false (ltb b 245) 4 0 (le-ltb b 245 h)

pub lead_is : (b : ℕ) → 0 < character_len b → Lead b (character_len b)
lead_is b some = elim (cases_lt b 128) [
  | inl a ↦ subst (Lead b) (sym (len_1 b a)) (lead_1 a)
  | inr a ↦ elim (cases_lt b 194) [
    | inl c ↦ let none = len_0 b a c in absurd (omega (arith, none, some))
    | inr c ↦ elim (cases_lt b 224) [
      | inl d ↦ subst (Lead b) (sym (len_2 b c d)) (lead_2 c d)
      | inr d ↦ elim (cases_lt b 240) [
        | inl e ↦ subst (Lead b) (sym (len_3 b d e)) (lead_3 d e)
        | inr e ↦ elim (cases_lt b 245) [
          | inl g ↦ subst (Lead b) (sym (len_4 b e g)) (lead_4 e g)
          | inr g ↦ let none = len_past b g in absurd (omega (arith, none, some))
        ]
      ]
    ]
  ]
]

-- ---- second bytes

least_at : (b : ℕ) → ((b ≡ 224) × (second_least b ≡ 160)) ⊎ ((b ≡ 240) × (second_least b ≡ 144)) ⊎
    ((b ≡ 224 → ⊥) × (b ≡ 240 → ⊥) × (second_least b ≡ 128))
least_at b = elim (cases_eq b 224) [
  | inl e ↦ inl (e, cond-true (eqb b 224) 160 _ (eq-eqb b 224 e))
  | inr d ↦ elim (cases_eq b 240) [
    | inl e ↦ inr (inl (
      e,
      cond-false (eqb b 224) 160 _ (ne_eqb b 224 d)
          ∙ cond-true (eqb b 240) 144 128 (eq-eqb b 240 e),
    ))
    | inr f ↦ inr (inr (
      d,
      f,
      cond-false (eqb b 224) 160 _ (ne_eqb b 224 d)
          ∙ cond-false (eqb b 240) 144 128 (ne_eqb b 240 f),
    ))
  ]
]

most_at : (b : ℕ) → ((b ≡ 237) × (second_most b ≡ 159)) ⊎ ((b ≡ 244) × (second_most b ≡ 143)) ⊎
    ((b ≡ 237 → ⊥) × (b ≡ 244 → ⊥) × (second_most b ≡ 191))
most_at b = elim (cases_eq b 237) [
  | inl e ↦ inl (e, cond-true (eqb b 237) 159 _ (eq-eqb b 237 e))
  | inr d ↦ elim (cases_eq b 244) [
    | inl e ↦ inr (inl (
      e,
      cond-false (eqb b 237) 159 _ (ne_eqb b 237 d)
          ∙ cond-true (eqb b 244) 143 191 (eq-eqb b 244 e),
    ))
    | inr f ↦ inr (inr (
      d,
      f,
      cond-false (eqb b 237) 159 _ (ne_eqb b 237 d)
          ∙ cond-false (eqb b 244) 143 191 (ne_eqb b 244 f),
    ))
  ]
]

pub second_some : (b : ℕ) → second_least b ≤ second_most b
second_some b = elim (least_at b) [
  | inl l ↦ elim (most_at b) [
    | inl m ↦ absurd (omega (arith, l.0, m.0))
    | inr n ↦ elim n [ inl m ↦ absurd (omega (arith, l.0, m.0)) | inr m ↦ omega (arith, l.1, m.2) ]
  ]
  | inr k ↦ elim k [
    | inl l ↦ elim (most_at b) [
      | inl m ↦ omega (arith, l.1, m.1)
      | inr n ↦ elim n [ inl m ↦ absurd (omega (arith, l.0, m.0)) | inr m ↦ omega (arith, l.1, m.2) ]
    ]
    | inr l ↦ elim (most_at b) [
      | inl m ↦ omega (arith, l.2, m.1)
      | inr n ↦ elim n [ inl m ↦ omega (arith, l.2, m.1) | inr m ↦ omega (arith, l.2, m.2) ]
    ]
  ]
]

-- what a second byte in its range says, as facts on numbers
pub record Second (b c : ℕ) : Type 0 where
  pub least : 128 ≤ c
  pub most : c ≤ 191
  pub after_224 : b ≡ 224 → 160 ≤ c
  pub after_237 : b ≡ 237 → c ≤ 159
  pub after_240 : b ≡ 240 → 144 ≤ c
  pub after_244 : b ≡ 244 → c ≤ 143

pub to_second : (b c : ℕ) → second_least b ≤ c → c ≤ second_most b → Second b c
to_second b c low high = record {
  least = elim (least_at b) [
    | inl l ↦ omega
        (arith, l.1)
    | inr k ↦ elim k [ inl l ↦ omega (arith, l.1) | inr l ↦ omega (arith, l.2) ]
  ];
  most = elim (most_at b) [
    | inl m ↦ omega (arith, m.1)
    | inr n ↦ elim n
        [ inl m ↦ omega (arith, m.1) | inr m ↦ omega (arith, m.2) ]
  ];
  after_224 = λ e. elim (least_at b) [
    | inl l ↦ omega
        (arith, l.1)
    | inr k ↦ elim k [ inl l ↦ absurd (omega (arith, l.0, e)) | inr l ↦ absurd (l.0 e) ]
  ];
  after_237 = λ e. elim (most_at b) [
    | inl m ↦ omega
        (arith, m.1)
    | inr n ↦ elim n [ inl m ↦ absurd (omega (arith, m.0, e)) | inr m ↦ absurd (m.0 e) ]
  ];
  after_240 = λ e. elim (least_at b) [
    | inl l ↦ absurd
        (omega (arith, l.0, e))
    | inr k ↦ elim k [ inl l ↦ omega (arith, l.1) | inr l ↦ absurd (l.1 e) ]
  ];
  after_244 = λ e. elim (most_at b) [
    | inl m ↦ absurd
        (omega (arith, m.0, e))
    | inr n ↦ elim n [ inl m ↦ omega (arith, m.1) | inr m ↦ absurd (m.1 e) ]
  ];
}

pub from_second : (b c : ℕ) → Second b c → InRange (second_least b) (second_most b) c
from_second b c s = record {
  least = elim (least_at b) [
    | inl l ↦ let h = s.after_224 l.0 in omega (arith, l.1, h)
    | inr k ↦ elim k [ inl l ↦ let h = s.after_240 l.0 in omega (arith, l.1, h) | inr l ↦ omega (arith, l.2, s.least) ]
  ];
  most = elim (most_at b) [
    | inl m ↦ let h = s.after_237 m.0 in omega (arith, m.1, h)
    | inr n ↦ elim n [ inl m ↦ let h = s.after_244 m.0 in omega (arith, m.1, h) | inr m ↦ omega (arith, m.2, s.most) ]
  ];
}

-- ---- characters and their bytes

pub encode_2 : (c : ℕ) → 128 ≤ c → c < 2048 → encode_utf8 c ≡ (192 + c / 64) ∷ (128 + c % 64) ∷ []
unfolding encode_utf8
encode_2 c h k = cond-false (ltb c 128) _ _ (le-ltb c 128 h) ∙ cond-true (ltb c 2048) _ _ (lt-ltb c 2048 k)

pub encode_3 : (c : ℕ) → 2048 ≤ c → c < 65536
    → encode_utf8 c ≡ (224 + c / 4096) ∷ (128 + c / 64 % 64) ∷ (128 + c % 64) ∷ []
unfolding encode_utf8
encode_3 c h k = cond-false (ltb c 128) _ _ (le-ltb c 128 (omega arith)) ∙ cond-false (ltb c 2048) _ _ (le-ltb c 2048 h)
    ∙ cond-true (ltb c 65536) _ _ (lt-ltb c 65536 k)

pub encode_4 : (c : ℕ) → 65536 ≤ c → encode_utf8 c ≡ (240 + c / 262144) ∷ (128 + c / 4096 % 64) ∷ (128 + c / 64 % 64) ∷
    (128 + c % 64) ∷ []
unfolding encode_utf8
encode_4 c h = cond-false (ltb c 128) _ _ (le-ltb c 128 (omega arith))
    ∙ cond-false (ltb c 2048) _ _ (le-ltb c 2048 (omega arith)) ∙ cond-false (ltb c 65536) _ _ (le-ltb c 65536 h)

high_scalar : (c : ℕ) → 57344 ≤ c → c < 1114112 → IsScalar c
high_scalar c h k = cond-false (ltb c 55296) true _ (le-ltb c 55296 (omega arith))
    ∙ and_from (leb 57344 c) (ltb c 1114112) (le-leb 57344 c h) (lt-ltb c 1114112 k)

-- the bytes are those of one character
pub record IsCharacter (xs : List ℕ) : Type 0 where
  pub code : ℕ
  pub scalar : IsScalar code
  pub spelled : encode_utf8 code ≡ xs

pub made_2 : (a b : ℕ) → 194 ≤ a → a < 224 → 128 ≤ b → b ≤ 191 → IsCharacter (a ∷ b ∷ [])
made_2 a b h k l m = by_code ((a - 192) * 64 + (b - 128)) (omega arith) where
  by_code : (c : ℕ) → c + 12288 + 128 ≡ a * 64 + b → IsCharacter (a ∷ b ∷ [])
  by_code c e =
      let first : 192 + c / 64 ≡ a = omega arith in
      let second : 128 + c % 64 ≡ b = omega arith in
      record {
        code = c;
        scalar = low_scalar c (omega arith);
        spelled = encode_2 c (omega arith) (omega arith) ∙ ap (λ (x : ℕ). x ∷ (128 + c % 64) ∷ []) first
            ∙ ap (λ (x : ℕ). a ∷ x ∷ []) second;
      }

-- no three bytes for less than 2048, and none for a surrogate
three_long : (a b : ℕ) → 224 ≤ a → Second a b → 927744 ≤ a * 4096 + b * 64
three_long a b h s = elim (cases_eq a 224)
    [ inl e ↦ let k = s.after_224 e in omega (arith, k, e) | inr d ↦ omega (arith, d, s.least) ]

below_surrogates : (a b : ℕ) → a < 238 → Second a b → a * 4096 + b * 64 ≤ 980928
below_surrogates a b h s = elim (cases_eq a 237)
    [ inl e ↦ let k = s.after_237 e in omega (arith, k, e) | inr d ↦ omega (arith, d, s.most) ]

-- no four bytes for less than 65536, and none past 1114111
four_long : (a b : ℕ) → 240 ≤ a → Second a b → 63504384 ≤ a * 262144 + b * 4096
four_long a b h s = elim (cases_eq a 240)
    [ inl e ↦ let k = s.after_240 e in omega (arith, k, e) | inr d ↦ omega (arith, d, s.least) ]

four_short : (a b : ℕ) → a < 245 → Second a b → a * 262144 + b * 4096 ≤ 64548864
four_short a b h s = elim (cases_eq a 244)
    [ inl e ↦ let k = s.after_244 e in omega (arith, k, e) | inr d ↦ omega (arith, d, s.most) ]

pub made_3 : (a b d : ℕ) → 224 ≤ a → a < 240 → Second a b → 128 ≤ d → d ≤ 191 → IsCharacter (a ∷ b ∷ d ∷ [])
made_3 a b d h k s l m = by_code ((a - 224) * 4096 + (b - 128) * 64 + (d - 128)) (omega arith) where
  by_code : (c : ℕ) → c + 917504 + 8192 + 128 ≡ a * 4096 + b * 64 + d → IsCharacter (a ∷ b ∷ d ∷ [])
  by_code c e =
      let long = three_long a b h s in
      let first : 224 + c / 4096 ≡ a = omega arith in
      let second : 128 + c / 64 % 64 ≡ b = omega arith in
      let third : 128 + c % 64 ≡ d = omega arith in
      record {
        code = c;
        scalar = elim (cases_lt a 238) [
          | inl x ↦ low_scalar c
              (let k = below_surrogates a b x s in omega (arith, k))
          | inr x ↦ high_scalar c (omega arith)
              (omega arith)
        ];
        spelled = encode_3 c (omega (arith, long)) (omega arith)
            ∙ ap (λ (x : ℕ). x ∷ (128 + c / 64 % 64) ∷ (128 + c % 64) ∷ []) first
            ∙ ap (λ (x : ℕ). a ∷ x ∷ (128 + c % 64) ∷ []) second ∙ ap (λ (x : ℕ). a ∷ b ∷ x ∷ []) third;
      }

pub made_4 : (a b d f : ℕ) → 240 ≤ a → a < 245 → Second a b → 128 ≤ d → d ≤ 191 → 128 ≤ f → f ≤ 191
    → IsCharacter (a ∷ b ∷ d ∷ f ∷ [])
made_4 a b d f h k s l m n o = by_code ((a - 240) * 262144 + (b - 128) * 4096 + (d - 128) * 64 + (f - 128))
    (omega arith) where
      by_code : (c : ℕ) → c + 62914560 + 524288 + 8192 + 128 ≡ a * 262144 + b * 4096 + d * 64 + f
          → IsCharacter (a ∷ b ∷ d ∷ f ∷ [])
      by_code c e =
          let long = four_long a b h s in
          let short = four_short a b k s in
          let first : 240 + c / 262144 ≡ a = omega arith in
          let second : 128 + c / 4096 % 64 ≡ b = omega arith in
          let third : 128 + c / 64 % 64 ≡ d = omega arith in
          let fourth : 128 + c % 64 ≡ f = omega arith in
          record {
            code = c;
            scalar = high_scalar c (omega (arith, long)) (omega (arith, short));
            spelled = encode_4 c (omega (arith, long))
                ∙ ap (λ (x : ℕ). x ∷ (128 + c / 4096 % 64) ∷ (128 + c / 64 % 64) ∷ (128 + c % 64) ∷ []) first
                ∙ ap (λ (x : ℕ). a ∷ x ∷ (128 + c / 64 % 64) ∷ (128 + c % 64) ∷ []) second
                ∙ ap (λ (x : ℕ). a ∷ b ∷ x ∷ (128 + c % 64) ∷ []) third ∙ ap (λ (x : ℕ). a ∷ b ∷ d ∷ x ∷ []) fourth;
          }
