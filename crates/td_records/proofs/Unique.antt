-- No bytes stand for two lists of records.
use Rattle.std.proofs.Common.{◌≡◌, ◌≢◌, ℕ, ◌<◌, ◌^◌, List, [], ◌∷◌, ◌++◌, length, take}
use Rattle.std.proofs.Common.{drop, refl, sym, ◌∙◌, ap, append_assoc}
use Rattle.std.specs.Int.{w16, to_be_bytes, from_be_bytes}
use Rattle.std.proofs.lemmas.List.{take_at, drop_at}
use Rattle.std.proofs.lemmas.Nat.{from_be_bytes-to_be_bytes_2}
use Rattle.td_records.specs.Records.{record_of, records_of, AreShort, StandFor}

pub first_same : (x y : ℕ) (xs ys : List ℕ) → x ∷ xs ≡ y ∷ ys → x ≡ y
first_same x y xs ys e = cc

rest_same : (x y : ℕ) (xs ys : List ℕ) → x ∷ xs ≡ y ∷ ys → xs ≡ ys
rest_same x y xs ys e = cc

-- two numbers of two bytes with the same bytes
number_same : (m n : ℕ) → m < 2 ^ 16 → n < 2 ^ 16 → to_be_bytes w16 m ≡ to_be_bytes w16 n → m ≡ n
number_same m n p q e = sym (from_be_bytes-to_be_bytes_2 m p) ∙ ap (λ (l : List ℕ). from_be_bytes w16 l) e
    ∙ from_be_bytes-to_be_bytes_2 n q

front_same : (a b xs ys : List ℕ) → length a ≡ length b → a ++ xs ≡ b ++ ys → a ≡ b
front_same a b xs ys long e = sym (take_at a xs (length a) refl) ∙ ap (λ (l : List ℕ). take (length a) l) e
    ∙ take_at b ys (length a) (sym long)

behind_same : (a b xs ys : List ℕ) → length a ≡ length b → a ++ xs ≡ b ++ ys → xs ≡ ys
behind_same a b xs ys long e = sym (drop_at a xs (length a) refl) ∙ ap (λ (l : List ℕ). drop (length a) l) e
    ∙ drop_at b ys (length a) (sym long)

-- a record and what is behind it, in its parts
parts : (body rest : List ℕ) → record_of body ++ rest ≡ 1 ∷ (to_be_bytes w16 (length body) ++ (body ++ rest))
parts body rest = refl

pub record_same : (a b xs ys : List ℕ) → length a < 2 ^ 16 → length b < 2 ^ 16 → record_of a ++ xs ≡ record_of b ++ ys
    → (a ≡ b) × (xs ≡ ys)
record_same a b xs ys p q e =
    let tail = rest_same 1 1 (to_be_bytes w16 (length a) ++ (a ++ xs)) (to_be_bytes w16 (length b) ++ (b ++ ys))
    (sym (parts a xs) ∙ e ∙ parts b ys) in
    let lens = number_same (length a) (length b) p q
    (front_same (to_be_bytes w16 (length a)) (to_be_bytes w16 (length b)) (a ++ xs) (b ++ ys) refl tail) in
    let bodies = behind_same (to_be_bytes w16 (length a)) (to_be_bytes w16 (length b)) (a ++ xs) (b ++ ys) refl tail in
    (front_same a b xs ys lens bodies, behind_same a b xs ys lens bodies)

pub split_first : (a : List ℕ) (more : List (List ℕ)) (rest : List ℕ) → records_of (a ∷ more) ++ rest ≡ record_of a
    ++ (records_of more ++ rest)
split_first a more rest = append_assoc (record_of a) (records_of more) rest

unique : (a b : List (List ℕ)) (g h : ℕ) (s t : List ℕ) → AreShort a → AreShort b → g ≢ 1 → h ≢ 1 → records_of a
    ++ g ∷ s ≡ records_of b ++ h ∷ t → a ≡ b
unique [] [] g h s t p q c d e = refl
unique [] (b ∷ others) g h s t p q c d e = absurd
    (c (first_same g 1 s (to_be_bytes w16 (length b) ++ (b ++ (records_of others ++ h ∷ t)))
    (e ∙ split_first b others (h ∷ t))))
unique (a ∷ more) [] g h s t p q c d e = absurd
    (d (first_same h 1 t (to_be_bytes w16 (length a) ++ (a ++ (records_of more ++ g ∷ s)))
    (sym e ∙ split_first a more (g ∷ s))))
unique (a ∷ more) (b ∷ others) g h s t p q c d e =
    let same = record_same a b (records_of more ++ g ∷ s) (records_of others ++ h ∷ t) p.0 q.0
    (sym (split_first a more (g ∷ s)) ∙ e ∙ split_first b others (h ∷ t)) in
    let rest = unique more others g h s t p.1 q.1 c d same.1 in
    λ i. same.0 i ∷ rest i

pub unique_bodies : (bytes : List ℕ) (a b : List (List ℕ)) → AreShort a → AreShort b → StandFor a bytes
    → StandFor b bytes → a ≡ b
unique_bodies bytes a b p q s t = unique a b s.gate t.gate s.rest t.rest p q s.shut t.shut (sym s.is ∙ t.is)
