-- A field is a relation between values and their spellings. A reader reads a field exactly where it takes each
-- spelling,
-- takes nothing else, and tells the first byte that no spelling has. What reads one field and then another, which may
-- depend
-- on the first value, reads the two exactly.
use Rattle.std.proofs.Common.{◌≡◌, ℕ, List, [], ◌∷◌, ◌++◌, length, Result, Ok, Err, ◌⊎◌, inl, inr, refl, sym, ap, subst}
use Rattle.std.proofs.Common.{◌∙◌, append_assoc}
use Rattle.std.proofs.lemmas.List.{append-nil}
use Rattle.td_wire.specs.Reading.{Read, ◌>>=◌}

-- some value has a spelling with this front
abbrev pub Begins : {A : Type 0} → (A → List ℕ → Type 0) → List ℕ → Type 0
Begins {A} G xs = (a : A) × (more : List ℕ) × G a (xs ++ more)

-- the next byte, where there is one, is none of a spelling
abbrev pub Stops : {A : Type 0} → (A → List ℕ → Type 0) → List ℕ → List ℕ → Type 0
Stops G good [] = Unit {0}
Stops G good (b ∷ bad) = ¬ Begins G (good ++ b ∷ [])

-- the longest front of the bytes that is the front of a spelling, and how many bytes stand behind it
pub record IsFault {A : Type 0} (G : A → List ℕ → Type 0) (xs : List ℕ) (left : ℕ) : Type 0 where
  pub good : List ℕ
  pub bad : List ℕ
  pub parts : xs ≡ good ++ bad
  pub left_is : length bad ≡ left
  pub begins : Begins G good
  pub stops : Stops G good bad

pub record Reads {A : Type 0} (G : A → List ℕ → Type 0) (read : List ℕ → Read A) : Type 0 where
  pub some : Begins G []
  pub sound : (xs : List ℕ) (a : A) (rest : List ℕ) → read xs ≡ Ok (a, rest)
      → (front : List ℕ) × (xs ≡ front ++ rest) × G a front
  pub again : (a : A) (front rest : List ℕ) → G a front → read (front ++ rest) ≡ Ok (a, rest)
  pub fault : (xs : List ℕ) (left : ℕ) → read xs ≡ Err left → IsFault G xs left

-- the value v, which takes no bytes
pub record Done {A : Type 0} (v a : A) (xs : List ℕ) : Type 0 where
  pub is : v ≡ a
  pub nothing : xs ≡ []

-- the spelling of a value and then one of a field that depends on it
pub record Seq {A C : Type 0} (G : A → List ℕ → Type 0) (H : A → C → List ℕ → Type 0) (c : C)
    (xs : List ℕ) : Type 0 where
  pub first : A
  pub front : List ℕ
  pub back : List ℕ
  pub parts : xs ≡ front ++ back
  pub head : G first front
  pub tail : H first c back

abbrev pub ok : {A : Type 0} → A → Result A ℕ
ok x = Ok x

pub ok_is : {A : Type 0} (x y : A) → ok x ≡ ok y → x ≡ y
ok_is x y e = cc

pub ok_differs : {A : Type 0} (x : A) (left : ℕ) → ok x ≡ Err left → ⊥
ok_differs x left e = cc

-- the value of a step that did not fail
pub bind_ok : {A B : Type 0} (r : Result A ℕ) (f : A → Result B ℕ) (y : B) → (r >>= f) ≡ Ok y
    → (x : A) × (r ≡ Ok x) × (f x ≡ Ok y)
bind_ok (Ok x) f y e = (x, refl, e)
bind_ok (Err left) f y e = absurd cc

-- the step that failed
pub bind_err : {A B : Type 0} (r : Result A ℕ) (f : A → Result B ℕ) (left : ℕ) → (r >>= f) ≡ Err left
    → (r ≡ Err left) ⊎ ((x : A) × (r ≡ Ok x) × (f x ≡ Err left))
bind_err (Ok x) f left e = inr (x, refl, e)
bind_err {A} {B} (Err k) f left e = inl (err_is k left e) where
  err_is : (k left : ℕ) → ◌≡◌ {A = Result B ℕ} (Err k) (Err left) → ◌≡◌ {A = Result A ℕ} (Err k) (Err left)
  err_is k left e = let same : k ≡ left = cc in rw same refl

-- of two fronts of one list, one is a front of the other
fronts : (a b c d : List ℕ) → a ++ b ≡ c ++ d → ((m : List ℕ) × (c ≡ a ++ m)) ⊎ ((m : List ℕ) × (a ≡ c ++ m))
fronts [] b c d e = inl (c, refl)
fronts (x ∷ a) b [] d e = inr (x ∷ a, refl)
fronts (x ∷ a) b (y ∷ c) d e =
    let heads : x ≡ y = cc in
    let tails : a ++ b ≡ c ++ d = cc in
    elim (fronts a b c d tails) [
      | inl p ↦ inl (p.0, rw heads (ap (λ (z : List ℕ). y ∷ z) p.1))
      | inr p ↦ inr (p.0, rw heads (ap (λ (z : List ℕ). y ∷ z) p.1))
    ]

pub done : {A : Type 0} (v : A) → Reads (Done v) (λ xs. Ok (v, xs))
done {A} v = record {
  some = (v, [], record { is = refl; nothing = refl });
  sound = λ xs a rest e. let same : (v, xs) ≡ (a, rest) = ok_is (v, xs) (a, rest) e in
      ([], ap (λ (p : A × List ℕ). p.1) same, record { is = ap (λ (p : A × List ℕ). p.0) same; nothing = refl });
  again = λ a front rest g. rw (g.nothing, g.is) refl;
  fault = λ xs left e. absurd cc;
}

-- the same relation in other words
pub same : {A : Type 0} (G K : A → List ℕ → Type 0) (read : List ℕ → Read A) → ((a : A) (xs : List ℕ) → G a xs → K a xs)
    → ((a : A) (xs : List ℕ) → K a xs → G a xs)
    → Reads G read → Reads K read
same {A} G K read to from reads = record {
  some = (reads.some.0, reads.some.1, to _ _ reads.some.2);
  sound = λ xs a rest e. let s = reads.sound xs a rest e in (s.0, s.1, to _ _ s.2);
  again = λ a front rest k. reads.again a front rest (from a front k);
  fault = λ xs left e. let f = reads.fault xs left e in
      record {
        good = f.good;
        bad = f.bad;
        parts = f.parts;
        left_is = f.left_is;
        begins = (f.begins.0, f.begins.1, to _ _ f.begins.2);
        stops = stops f.good f.bad f.stops;
      };
} where
  stops : (good bad : List ℕ) → Stops G good bad → Stops K good bad
  stops good [] s = tt
  stops good (b ∷ bad) s = λ begins. s (begins.0, begins.1, from _ _ begins.2)

-- one and then the other
module _ {A C : Type 0} (G : A → List ℕ → Type 0) (H : A → C → List ℕ → Type 0) (r : List ℕ → Read A)
    (s : A → List ℕ → Read C)
    (one : Reads G r) (two : (a : A) (front : List ℕ) → G a front → Reads (H a) (s a)) where
  abbrev both : List ℕ → Read C
  both xs = r xs >>= λ x. s x.0 x.1

  both_some : Begins (Seq G H) []
  both_some =
      let a = one.some.0 in
      let g = one.some.2 in
      let next = (two a one.some.1 g).some in (
        next.0,
        one.some.1 ++ next.1,
        record {
          first = a;
          front = one.some.1;
          back = next.1;
          parts = refl;
          head =
              g;
          tail = next.2;
        },
      )

  both_sound : (xs : List ℕ) (c : C) (rest : List ℕ) → both xs ≡ Ok (c, rest)
      → (front : List ℕ) × (xs ≡ front ++ rest) × Seq G H c front
  both_sound xs c rest e =
      let step = bind_ok (r xs) (λ (x : A × List ℕ). s x.0 x.1) (c, rest) e in
      let a : A = step.0.0 in
      let first = one.sound xs a step.0.1 step.1 in
      let second = (two a first.0 first.2).sound step.0.1 c rest step.2 in (
        first.0 ++ second.0,
        first.1 ∙ ap (λ (ys : List ℕ). first.0 ++ ys) second.1 ∙ sym (append_assoc first.0 second.0 rest),
        record { first = a; front = first.0; back = second.0; parts = refl; head = first.2; tail = second.2 },
      )

  both_again : (c : C) (xs rest : List ℕ) → Seq G H c xs → both (xs ++ rest) ≡ Ok (c, rest)
  both_again c xs rest q =
      let first : r (xs ++ rest) ≡ Ok (q.first, q.back ++ rest) =
      ap (λ (ys : List ℕ). r (ys ++ rest)) q.parts ∙ ap r (append_assoc q.front q.back rest)
      ∙ one.again q.first q.front (q.back ++ rest) q.head in
      ap (λ (x : Result (A × List ℕ) ℕ). x >>= λ y. s y.0 y.1) first
      ∙ (two q.first q.front q.head).again c q.back rest q.tail

  -- where no spelling of the first field begins the bytes, no spelling of both does
  stops_first : (good bad : List ℕ) (left : ℕ) → r (good ++ bad) ≡ Err left → Stops G good bad
      → Stops (Seq G H) good bad
  stops_first good [] left e stop = tt
  stops_first good (b ∷ bad) left e stop = λ begins.
      let q = begins.2 in
      elim (fronts (good ++ b ∷ []) begins.1 q.front q.back q.parts) [
        | inl p ↦ stop (q.first, p.0, subst (G q.first) p.1 q.head)
        | inr p ↦
            let regroup : good ++ b ∷ bad ≡ q.front ++ (p.0 ++ bad) =
            sym (append_assoc good (b ∷ []) bad) ∙ ap (λ (ys : List ℕ). ys ++ bad) p.1 ∙ append_assoc q.front p.0 bad in
            let read : r (good ++ b ∷ bad) ≡ Ok (q.first, p.0 ++ bad) = ap r regroup
            ∙ one.again q.first q.front (p.0 ++ bad) q.head in
            absurd (ok_differs (q.first, p.0 ++ bad) left (sym read ∙ e))
      ]

  stops_second : (a : A) (front good bad : List ℕ) → G a front → Stops (H a) good bad
      → Stops (Seq G H) (front ++ good) bad
  stops_second a front good [] g stop = tt
  stops_second a front good (b ∷ bad) g stop = λ begins.
      let q = begins.2 in
      let more : List ℕ = begins.1 in
      let regroup : ((front ++ good) ++ b ∷ []) ++ more ≡ front ++ ((good ++ b ∷ []) ++ more) =
      ap (λ (ys : List ℕ). ys ++ more) (append_assoc front good (b ∷ [])) ∙ append_assoc front (good ++ b ∷ []) more in
      let here : r (q.front ++ q.back) ≡ Ok (a, (good ++ b ∷ []) ++ more) = ap r (sym q.parts ∙ regroup)
      ∙ one.again a front ((good ++ b ∷ []) ++ more) g in
      let there : r (q.front ++ q.back) ≡ Ok (q.first, q.back) = one.again q.first q.front q.back q.head in
      let equal : (q.first, q.back) ≡ (a, (good ++ b ∷ []) ++ more) =
      ok_is (q.first, q.back) (a, (good ++ b ∷ []) ++ more) (sym there ∙ here) in
      stop (begins.0, more, subst (λ (p : A × List ℕ). H p.0 begins.0 p.1) equal q.tail)

  both_fault : (xs : List ℕ) (left : ℕ) → both xs ≡ Err left → IsFault (Seq G H) xs left
  both_fault xs left e =
      elim (bind_err (r xs) (λ (x : A × List ℕ). s x.0 x.1) left e) [
        | inl first ↦
            let f = one.fault xs left first in
            let a = f.begins.0 in
            let next = (two a (f.good ++ f.begins.1) f.begins.2).some in
            record {
              good = f.good;
              bad = f.bad;
              parts = f.parts;
              left_is = f.left_is;
              begins = (
                next.0,
                f.begins.1 ++ next.1,
                record {
                  first = a;
                  front = f.good ++ f.begins.1;
                  back = next.1;
                  parts = sym (append_assoc f.good f.begins.1 next.1);
                  head = f.begins.2;
                  tail = next.2;
                },
              );
              stops = stops_first f.good f.bad left (ap r (sym f.parts) ∙ first) f.stops;
            }
        | inr second ↦
            let a : A = second.0.0 in
            let first = one.sound xs a second.0.1 second.1 in
            let f = (two a first.0 first.2).fault second.0.1 left second.2 in
            record {
              good = first.0 ++ f.good;
              bad = f.bad;
              parts = first.1 ∙ ap (λ (ys : List ℕ). first.0 ++ ys) f.parts ∙ sym (append_assoc first.0 f.good f.bad);
              left_is = f.left_is;
              begins = (
                f.begins.0,
                f.begins.1,
                record {
                  first = a;
                  front = first.0;
                  back = f.good ++ f.begins.1;
                  parts = append_assoc first.0 f.good f.begins.1;
                  head = first.2;
                  tail = f.begins.2;
                },
              );
              stops = stops_second a first.0 f.good f.bad first.2 f.stops;
            }
      ]

  pub then : Reads (Seq G H) (λ xs. r xs >>= λ x. s x.0 x.1)
  then = record { some = both_some; sound = both_sound; again = both_again; fault = both_fault }

-- a field whose values have one spelling each: which values, and the spelling
pub record Field {A : Type 0} (P : A → Type 0) (spell : A → List ℕ) (a : A) (xs : List ℕ) : Type 0 where
  pub can : P a
  pub is : xs ≡ spell a

-- the same field in other words
pub renamed : {A : Type 0} (P Q : A → Type 0) (s t : A → List ℕ) (r : List ℕ → Read A) → ((a : A) → P a → Q a)
    → ((a : A) → Q a → P a) → ((a : A) → Q a → s a ≡ t a)
    → Reads (Field P s) r → Reads (Field Q t) r
renamed P Q s t r to from spelled = same (Field P s) (Field Q t) r
    (λ a xs f. record { can = to a f.can; is = f.is ∙ spelled a (to a f.can) })
    (λ a xs f. record { can = from a f.can; is = f.is ∙ sym (spelled a f.can) })

-- a value made of the value of a field
pub made_in : {A C : Type 0} (P : A → Type 0) (s : A → List ℕ) (f : A → C) (g : C → A) (r : List ℕ → Read A)
    → ((a : A) → P a → g (f a) ≡ a) → Reads (Field P s) r
    → Reads (Field (λ c. P (g c) × (f (g c) ≡ c)) (λ c. s (g c))) (λ xs. r xs >>= λ x. Ok (f x.0, x.1))
made_in {A} {C} P s f g r back reads = same (Seq (Field P s) (λ a. Done (f a)))
    (Field (λ c. P (g c) × (f (g c) ≡ c)) (λ c. s (g c))) _ to from
    (then (Field P s) (λ a. Done (f a)) r (λ a ys. Ok (f a, ys)) reads (λ a front h. done (f a))) where
      to : (c : C) (xs : List ℕ) → Seq (Field P s) (λ a. Done (f a)) c xs
          → Field (λ c. P (g c) × (f (g c) ≡ c)) (λ c. s (g c)) c xs
      to c xs q =
          let same_value : g c ≡ q.first = ap g (sym q.tail.is) ∙ back q.first q.head.can in
          record {
            can = (subst P (sym same_value) q.head.can, ap f same_value ∙ q.tail.is);
            is = q.parts ∙ rw (q.tail.nothing, q.head.is, append-nil (s q.first)) (ap s (sym same_value));
          }

      from : (c : C) (xs : List ℕ) → Field (λ c. P (g c) × (f (g c) ≡ c)) (λ c. s (g c)) c xs
          → Seq (Field P s) (λ a. Done (f a)) c xs
      from c xs h = record {
        first = g c;
        front = s (g c);
        back = [];
        parts = h.is ∙ sym (append-nil (s (g c)));
        head = record { can = h.can.0; is = refl };
        tail = record { is = h.can.1; nothing = refl };
      }

pub made : {A C : Type 0} (P : A → Type 0) (s : A → List ℕ) (f : A → C) (g : C → A) (r : List ℕ → Read A)
    → ((a : A) → g (f a) ≡ a) → Reads (Field P s) r
    → Reads (Field (λ c. P (g c) × (f (g c) ≡ c)) (λ c. s (g c))) (λ xs. r xs >>= λ x. Ok (f x.0, x.1))
made P s f g r back reads = made_in P s f g r (λ a _. back a) reads

-- a field and then one that depends on its value, which the second value has as a part
pub chain : {A C : Type 0} (P : A → Type 0) (s : A → List ℕ) (Q : A → C → Type 0) (t : A → C → List ℕ) (g : C → A)
    (r : List ℕ → Read A) (u : A → List ℕ → Read C)
    → ((a : A) (c : C) → P a → Q a c → g c ≡ a) → Reads (Field P s) r
    → ((a : A) → P a → Reads (Field (Q a) (t a)) (u a))
    → Reads (Field (λ c. P (g c) × Q (g c) c) (λ c. s (g c) ++ t (g c) c)) (λ xs. r xs >>= λ x. u x.0 x.1)
chain {A} {C} P s Q t g r u part one two =
    same (Seq (Field P s) (λ a. Field (Q a) (t a)))
    (Field (λ c. P (g c) × Q (g c) c) (λ c. s (g c) ++ t (g c) c)) _ to from
    (then (Field P s) (λ a. Field (Q a) (t a)) r u one (λ a front h. two a h.can)) where
      to : (c : C) (xs : List ℕ) → Seq (Field P s) (λ a. Field (Q a) (t a)) c xs
          → Field (λ c. P (g c) × Q (g c) c) (λ c. s (g c) ++ t (g c) c) c xs
      to c xs q =
          let same_value : g c ≡ q.first = part q.first c q.head.can q.tail.can in
          record {
            can = (subst P (sym same_value) q.head.can, subst (λ (a : A). Q a c) (sym same_value) q.tail.can);
            is = q.parts ∙ rw (q.head.is, q.tail.is) (ap (λ (a : A). s a ++ t a c) (sym same_value));
          }

      from : (c : C) (xs : List ℕ) → Field (λ c. P (g c) × Q (g c) c) (λ c. s (g c) ++ t (g c) c) c xs
          → Seq (Field P s) (λ a. Field (Q a) (t a)) c xs
      from c xs h = record {
        first = g c;
        front = s (g c);
        back = t (g c) c;
        parts = h.is;
        head = record { can = h.can.0; is = refl };
        tail = record { can = h.can.1; is = refl };
      }

-- a field of no bytes with one value
pub nothing : {A : Type 0} (v : A) → Reads (Field (λ a. v ≡ a) (λ _. [])) (λ xs. Ok (v, xs))
nothing v = same (Done v) (Field (λ a. v ≡ a) (λ _. [])) _ (λ a xs d. record { can = d.is; is = d.nothing })
    (λ a xs f. record { is = f.can; nothing = f.is }) (done v)
