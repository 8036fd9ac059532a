-- Characters, texts of a stated length and atoms at the front of the bytes.
use Rattle.std.proofs.Common.{◌≡◌, ℕ, zero, suc, ◌+◌, ◌-◌, ◌/◌, ◌%◌, ◌<◌, ◌≤◌, Bool, true, leb, ltb, ◌&&◌, List, []}
use Rattle.std.proofs.Common.{◌∷◌, ◌++◌, length, Ok, inl, inr, refl, sym, ap, subst, ◌∙◌, arith}
use Rattle.std.specs.Str.{IsUtf8, encode_utf8_all, all_scalars}
use Rattle.std.specs.Char.{IsScalar, encode_utf8}
use Rattle.std.proofs.lemmas.Bool.{ltb-true, leb-true, lt-ltb, le-leb, and_parts, and_from, cases_lt}
use Rattle.std.proofs.lemmas.List.{append-nil, length-append}
use Rattle.std.proofs.Math.Utf8.{low_scalar, scalar_cases}
use Rattle.std.proofs.lemmas.Str.{IsUtf8-nil, IsUtf8-append, IsUtf8-encode, encode_ascii, length-encode}
use Rattle.std.proofs.lemmas.Str.{len_utf8_bounds}
use Rattle.td_wire.specs.Reading.{byte_at, character_len, second_least, second_most, lead_at, continuations_at}
use Rattle.td_wire.specs.Reading.{character_at, text_at}
use Rattle.td_wire.proofs.Exact.{Reads, Done, Seq, done, same, then}
use Rattle.td_wire.proofs.Bytes.{Passes, passing_reads, Byte, byte_reads}
use Rattle.td_wire.proofs.Utf8.{Lead, lead_1, lead_2, lead_3, lead_4, lead_is, len_1, len_2, len_3, len_4, Second}
use Rattle.td_wire.proofs.Utf8.{to_second, from_second, second_some, IsCharacter, made_2, made_3, made_4, encode_2}
use Rattle.td_wire.proofs.Utf8.{encode_3, encode_4}

-- so many bytes that continue a character, the first of them in a range of its own
abbrev Continues : ℕ → ℕ → ℕ → ℕ → List ℕ → Type 0
Continues zero low high k xs = Done 0 k xs
Continues (suc n) low high k xs = Seq (Byte low high) (λ _. Seq (Continues n 128 191) (λ j. Done (suc j))) k xs

continues_reads : (n low high : ℕ) → low ≤ high → Reads (Continues n low high) (continuations_at n low high)
unfolding continuations_at
continues_reads zero low high some = done 0
continues_reads (suc n) low high some =
    then (Byte low high) (λ _. Seq (Continues n 128 191) (λ j. Done (suc j))) (byte_at low high) _
    (byte_reads low high some) (λ _ _ _.
    then (Continues n 128 191) (λ j. Done (suc j)) (continuations_at n 128 191) (λ j ys. Ok (suc j, ys))
    (continues_reads n 128 191 (omega arith)) (λ j _ _. done (suc j)))

pub record Next (n low high k : ℕ) (xs : List ℕ) : Type 0 where
  pub byte : ℕ
  pub count : ℕ
  pub rest : List ℕ
  pub least : low ≤ byte
  pub most : byte ≤ high
  pub is : xs ≡ byte ∷ rest
  pub count_is : suc count ≡ k
  pub tail : Continues n 128 191 count rest

next : (n low high k : ℕ) (xs : List ℕ) → Continues (suc n) low high k xs → Next n low high k xs
next n low high k xs q = record {
  byte = q.first;
  count = q.tail.first;
  rest = q.tail.front;
  least = q.head.can.least;
  most = q.head.can.most;
  is = q.parts ∙ rw (q.head.is, q.tail.parts, q.tail.tail.nothing, append-nil q.tail.front) refl;
  count_is = q.tail.tail.is;
  tail = q.tail.head;
}

more : (n low high k b : ℕ) (xs : List ℕ) → low ≤ b → b ≤ high → Continues n 128 191 k xs
    → Continues (suc n) low high (suc k) (b ∷ xs)
more n low high k b xs least most c = record {
  first = b;
  front = b ∷ [];
  back = xs;
  parts = refl;
  head = record { can = record { least = least; most = most }; is = refl };
  tail = record {
    first = k;
    front = xs;
    back = [];
    parts = sym (append-nil xs);
    head = c;
    tail =
        record { is = refl; nothing = refl };
  };
}

none : (low high : ℕ) → Continues 0 low high 0 []
none low high = record { is = refl; nothing = refl }

-- ---- characters

abbrev is_lead : ℕ → ℕ → Bool
is_lead room b = ltb 0 (character_len b) && leb (character_len b) room

abbrev Spelled : ℕ → ℕ → List ℕ → Type 0
Spelled room = Seq (Passes (is_lead room))
    (λ b. Seq (Continues (character_len b - 1) (second_least b) (second_most b)) (λ k. Done (suc k)))

-- a character of so many bytes, of which there is room
pub record Character (room len : ℕ) (xs : List ℕ) : Type 0 where
  pub len_is : length xs ≡ len
  pub some : 1 ≤ len
  pub short : len ≤ room
  pub character : IsCharacter xs

by_lead : (b room k : ℕ) (ys : List ℕ) (n : ℕ) → Lead b n → n ≤ room
    → Continues (n - 1) (second_least b) (second_most b) k ys → Character room (suc k) (b ∷ ys)
by_lead b room k ys n (lead_1 h) short c =
    record {
      len_is = rw (c.nothing, ← c.is) refl;
      some = omega arith;
      short = omega (arith, c.is, short);
      character = record {
        code = b;
        scalar = low_scalar b (omega arith);
        spelled = encode_ascii b h
            ∙ ap (λ (zs : List ℕ). b ∷ zs) (sym c.nothing);
      };
    }
by_lead b room k ys n (lead_2 h l) short c =
    let x = next 0 (second_least b) (second_most b) k ys c in
    let last : x.rest ≡ [] = x.tail.nothing in
    let count : 0 ≡ x.count = x.tail.is in
    let bytes : ys ≡ x.byte ∷ [] = x.is ∙ ap (λ (zs : List ℕ). x.byte ∷ zs) last in
    let s = to_second b x.byte x.least x.most in
    record {
      len_is = ap (λ (zs : List ℕ). suc (length zs)) bytes ∙ omega (arith, count, x.count_is);
      some = omega arith;
      short = omega (arith, count, x.count_is, short);
      character = subst (λ (zs : List ℕ). IsCharacter (b ∷ zs)) (sym bytes) (made_2 b x.byte h l s.least s.most);
    }
by_lead b room k ys n (lead_3 h l) short c =
    let x = next 1 (second_least b) (second_most b) k ys c in
    let y = next 0 128 191 x.count x.rest x.tail in
    let last : y.rest ≡ [] = y.tail.nothing in
    let count : 0 ≡ y.count = y.tail.is in
    let bytes : ys ≡ x.byte ∷ y.byte ∷ [] = x.is
    ∙ ap (λ (zs : List ℕ). x.byte ∷ zs) (y.is ∙ ap (λ (zs : List ℕ). y.byte ∷ zs) last) in
    record {
      len_is = ap (λ (zs : List ℕ). suc (length zs)) bytes ∙ omega (arith, count, x.count_is, y.count_is);
      some = omega arith;
      short = omega (arith, count, x.count_is, y.count_is, short);
      character = subst (λ (zs : List ℕ). IsCharacter (b ∷ zs)) (sym bytes)
          (made_3 b x.byte y.byte h l (to_second b x.byte x.least x.most) y.least y.most);
    }
by_lead b room k ys n (lead_4 h l) short c =
    let x = next 2 (second_least b) (second_most b) k ys c in
    let y = next 1 128 191 x.count x.rest x.tail in
    let z = next 0 128 191 y.count y.rest y.tail in
    let last : z.rest ≡ [] = z.tail.nothing in
    let count : 0 ≡ z.count = z.tail.is in
    let bytes : ys ≡ x.byte ∷ y.byte ∷ z.byte ∷ [] =
    x.is ∙ ap (λ (zs : List ℕ). x.byte ∷ zs) (y.is
    ∙ ap (λ (zs : List ℕ). y.byte ∷ zs) (z.is ∙ ap (λ (zs : List ℕ). z.byte ∷ zs) last)) in
    record {
      len_is = ap (λ (zs : List ℕ). suc (length zs)) bytes ∙ omega (arith, count, x.count_is, y.count_is, z.count_is);
      some = omega arith;
      short = omega (arith, count, x.count_is, y.count_is, z.count_is, short);
      character = subst (λ (zs : List ℕ). IsCharacter (b ∷ zs)) (sym bytes)
          (made_4 b x.byte y.byte z.byte h l (to_second b x.byte x.least x.most) y.least y.most z.least z.most);
    }

to_character : (room len : ℕ) (xs : List ℕ) → Spelled room len xs → Character room len xs
to_character room len xs q =
    let b : ℕ = q.first in
    let tests = and_parts (ltb 0 (character_len b)) (leb (character_len b) room) q.head.passes in
    let found = by_lead b room q.tail.first q.tail.front (character_len b) (lead_is b (ltb-true _ _ tests.0))
    (leb-true _ _ tests.1) q.tail.head in
    let bytes : xs ≡ b ∷ q.tail.front = q.parts
    ∙ rw (q.head.is, q.tail.parts, q.tail.tail.nothing, append-nil q.tail.front) refl in
    subst (λ (n : ℕ). Character room n xs) q.tail.tail.is (subst (Character room (suc q.tail.first)) (sym bytes) found)

spelled_from : (room len b n k : ℕ) (ys xs : List ℕ) → character_len b ≡ n → 1 ≤ n → n ≤ room
    → Continues (n - 1) (second_least b) (second_most b) k ys
    → suc k ≡ len → b ∷ ys ≡ xs → Spelled room len xs
spelled_from room len b n k ys xs n_is some short c len_is bytes = record {
  first = b;
  front = b ∷ [];
  back = ys;
  parts = sym bytes;
  head = record {
    passes = and_from (ltb 0 (character_len b)) (leb (character_len b) room)
        (lt-ltb 0 (character_len b) (omega (arith, n_is, some)))
        (le-leb (character_len b) room (omega (arith, n_is, short)));
    is = refl;
  };
  tail = record {
    first = k;
    front = ys;
    back = [];
    parts = sym (append-nil ys);
    head = subst (λ (m : ℕ). Continues (m - 1) (second_least b) (second_most b) k ys) (sym n_is) c;
    tail = record { is = len_is; nothing = refl };
  };
}

-- a second byte in its range
second_in : (a b : ℕ) → Second a b → (second_least a ≤ b) × (b ≤ second_most a)
second_in a b s = let r = from_second a b s in (r.least, r.most)

from_character : (room len : ℕ) (xs : List ℕ) → Character room len xs → Spelled room len xs
from_character room len xs ch = by_code ch.character.code ch.character.scalar ch.character.spelled where
  by_code : (c : ℕ) → IsScalar c → encode_utf8 c ≡ xs → Spelled room len xs
  by_code c scalar spelled = elim (cases_lt c 128) [
    | inl h ↦
        let bytes = sym (encode_ascii c h) ∙ spelled in
        let long : 1 ≡ len = ap length bytes ∙ ch.len_is in
        spelled_from room len c 1 0 [] xs (len_1 c h) (omega arith) (omega (arith, long, ch.short))
        (none (second_least c) (second_most c)) long bytes
    | inr g ↦ elim (cases_lt c 2048) [
      | inl h ↦
          let bytes = sym (encode_2 c g h) ∙ spelled in
          let long : 2 ≡ len = ap length bytes ∙ ch.len_is in
          let a : ℕ = 192 + c / 64 in
          let s : Second a (128 + c % 64) = record {
            least = omega arith;
            most = omega arith;
            after_224 = λ e. absurd (omega (arith, e));
            after_237 = λ e. absurd (omega (arith, e));
            after_240 = λ e. absurd (omega (arith, e));
            after_244 = λ e. absurd (omega (arith, e));
          } in
          let r = second_in a (128 + c % 64) s in
          spelled_from room len a 2 1 ((128 + c % 64) ∷ []) xs (len_2 a (omega arith) (omega arith)) (omega arith)
          (omega (arith, long, ch.short))
          (more 0 (second_least a) (second_most a) 0 (128 + c % 64) [] r.0 r.1 (none 128 191)) long bytes
      | inr g ↦ elim (cases_lt c 65536) [
        | inl h ↦
            let bytes = sym (encode_3 c g h) ∙ spelled in
            let long : 3 ≡ len = ap length bytes ∙ ch.len_is in
            let a : ℕ = 224 + c / 4096 in
            let b : ℕ = 128 + c / 64 % 64 in
            let s : Second a b = record {
              least = omega arith;
              most = omega arith;
              after_224 = λ e. omega (arith, e);
              after_237 = λ e. elim (scalar_cases c scalar)
                  [ inl t ↦ omega (arith, e, t) | inr t ↦ absurd (omega (arith, e, t.0)) ];
              after_240 = λ e. absurd (omega (arith, e));
              after_244 = λ e. absurd (omega (arith, e));
            } in
            let r = second_in a b s in
            spelled_from room len a 3 2 (b ∷ (128 + c % 64) ∷ []) xs (len_3 a (omega arith) (omega arith)) (omega arith)
            (omega (arith, long, ch.short))
            (more 1 (second_least a) (second_most a) 1 b ((128 + c % 64) ∷ []) r.0 r.1
            (more 0 128 191 0 (128 + c % 64) [] (omega arith) (omega arith) (none 128 191))) long bytes
        | inr g ↦
            let bytes = sym (encode_4 c g) ∙ spelled in
            let long : 4 ≡ len = ap length bytes ∙ ch.len_is in
            let a : ℕ = 240 + c / 262144 in
            let b : ℕ = 128 + c / 4096 % 64 in
            let d : ℕ = 128 + c / 64 % 64 in
            let f : ℕ = 128 + c % 64 in
            let top : c < 1114112 = elim (scalar_cases c scalar) [ inl t ↦ omega (arith, t) | inr t ↦ t.1 ] in
            let s : Second a b = record {
              least = omega arith;
              most = omega arith;
              after_224 = λ e. absurd (omega (arith, e));
              after_237 = λ e. absurd (omega (arith, e));
              after_240 = λ e. omega (arith, e);
              after_244 = λ e. omega (arith, e, top);
            } in
            let r = second_in a b s in
            spelled_from room len a 4 3 (b ∷ d ∷ f ∷ []) xs (len_4 a (omega arith) (omega (arith, top))) (omega arith)
            (omega (arith, long, ch.short))
            (more 2 (second_least a) (second_most a) 2 b (d ∷ f ∷ []) r.0 r.1
            (more 1 128 191 1 d (f ∷ []) (omega arith) (omega arith)
            (more 0 128 191 0 f [] (omega arith) (omega arith) (none 128 191)))) long bytes
      ]
    ]
  ]

pub character_reads : (room : ℕ) → 1 ≤ room → Reads (Character room) (character_at room)
unfolding character_at
character_reads room some = same (Spelled room) (Character room) (character_at room) (to_character room)
    (from_character room)
    (then (Passes (is_lead room)) (λ b. Seq (Continues (character_len b - 1) (second_least b) (second_most b))
    (λ k. Done (suc k))) (lead_at room) _
    (passing_reads (is_lead room) 97 (le-leb 1 room some)) (λ b _ _.
    then (Continues (character_len b - 1) (second_least b) (second_most b)) (λ k. Done (suc k))
    (continuations_at (character_len b - 1) (second_least b) (second_most b)) (λ k ys. Ok (suc k, ys))
    (continues_reads (character_len b - 1) (second_least b) (second_most b) (second_some b)) (λ k _ _. done (suc k))))

-- ---- texts

-- a text of so many bytes
pub record Text (room n : ℕ) (xs : List ℕ) : Type 0 where
  pub value : room ≡ n
  pub len_is : length xs ≡ room
  pub text : IsUtf8 xs

no_text : (n : ℕ) (xs : List ℕ) → Text 0 n xs → Done 0 n xs
no_text n [] t = record { is = t.value; nothing = refl }
no_text n (b ∷ xs) t = absurd (omega (arith, t.len_is))

abbrev Split : ℕ → ℕ → List ℕ → Type 0
Split room = Seq (Character room) (λ len. Seq (Text (room - len)) (λ m. Done (len + m)))

to_text : (room n : ℕ) (xs : List ℕ) → Split room n xs → Text room n xs
to_text room n xs q =
    let ch = q.head in
    let t = q.tail.head in
    let bytes : xs ≡ q.front ++ q.tail.front = q.parts
    ∙ ap (λ (ys : List ℕ). q.front ++ ys) (q.tail.parts ∙ ap (λ (ys : List ℕ). q.tail.front ++ ys) q.tail.tail.nothing
    ∙ append-nil q.tail.front) in
    let first : IsUtf8 q.front = subst IsUtf8 ch.character.spelled
    (IsUtf8-encode ch.character.code ch.character.scalar) in
    record {
      value = omega (arith, q.tail.tail.is, t.value, ch.short);
      len_is = ap length bytes ∙ omega (arith, length-append q.front q.tail.front, ch.len_is, t.len_is, ch.short);
      text = subst IsUtf8 (sym bytes) (IsUtf8-append q.front q.tail.front first t.text);
    }

from_text : (room n : ℕ) (xs : List ℕ) → 1 ≤ room → Text room n xs → Split room n xs
from_text room n xs some t = by_codes t.text.0 t.text.1.0 t.text.1.1 where
  by_codes : (cs : List ℕ) → all_scalars cs ≡ true → encode_utf8_all cs ≡ xs → Split room n xs
  by_codes [] scalars spelled = absurd (omega (arith, ap length spelled, t.len_is, some))
  by_codes (c ∷ cs) scalars spelled =
      let first : 1 ≤ length (encode_utf8 c) = omega (arith, length-encode c, len_utf8_bounds c) in
      let each = and_parts _ (all_scalars cs) scalars in
      let long = length-append (encode_utf8 c) (encode_utf8_all cs) in
      let whole = ap length spelled in
      let len : ℕ = length (encode_utf8 c) in
      record {
        first = len;
        front = encode_utf8 c;
        back = encode_utf8_all cs;
        parts = sym spelled;
        head = record {
          len_is = refl;
          some = first;
          short = omega (arith, long, whole, t.len_is);
          character =
              record { code = c; scalar = each.0; spelled = refl };
        };
        tail = record {
          first = room - len;
          front = encode_utf8_all cs;
          back = [];
          parts = sym (append-nil (encode_utf8_all cs));
          head = record { value = refl; len_is = omega (arith, long, whole, t.len_is); text = (cs, (each.1, refl)) };
          tail = record { is = omega (arith, long, whole, t.len_is, t.value); nothing = refl };
        };
      }

pub text_reads : (bound room : ℕ) → room ≤ bound → Reads (Text room) (text_at bound room)
unfolding text_at
text_reads zero zero h = same (Done 0) (Text 0) _
    (λ n xs d. record { value = d.is; len_is = ap length d.nothing; text = subst IsUtf8 (sym d.nothing) IsUtf8-nil })
    no_text (done 0)
text_reads (suc bound) zero h = same (Done 0) (Text 0) _
    (λ n xs d. record { value = d.is; len_is = ap length d.nothing; text = subst IsUtf8 (sym d.nothing) IsUtf8-nil })
    no_text (done 0)
text_reads zero (suc room) h = absurd (omega (arith, h))
text_reads (suc bound) (suc room) h = same (Split (suc room)) (Text (suc room)) _ (to_text (suc room))
    (λ n xs t. from_text (suc room) n xs (omega arith) t)
    (then (Character (suc room)) (λ len. Seq (Text (suc room - len)) (λ m. Done (len + m))) (character_at (suc room)) _
    (character_reads (suc room) (omega arith)) (λ len front ch.
    then (Text (suc room - len)) (λ m. Done (len + m)) (text_at bound (suc room - len)) (λ m ys. Ok (len + m, ys))
    (text_reads bound (suc room - len) (omega (arith, ch.some, h))) (λ m _ _. done (len + m))))
