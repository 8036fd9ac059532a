-- What was read behind a word, and behind something else that was read.
use Rattle.std.proofs.Common.{◌≡◌, ℕ, List, [], ◌∷◌, ◌++◌, Option, Some, None, refl, eqb, subst, sym, ap, ◌∙◌}
use Rattle.std.proofs.Common.{append_assoc}
use Rattle.std.specs.Char.{is_ascii_digit}
use Rattle.std.specs.Option.{option_and_then}
use Rattle.std.proofs.lemmas.Option.{none-some, some_pair_parts}
use Rattle.std.proofs.Common.{false}
use Rattle.td_reader.specs.Reading.{after, choose, or_else}
use Rattle.td_reader.proofs.Cursors.{NoDigit, after_back}

-- a value that was read fits, and what was read is what is written of it
pub record IsRead {X : Type 0} (written : X → List ℕ) (Fits : X → Type 0) (bytes : List ℕ) (value : X)
    (rest : List ℕ) : Type 0 where
  pub fits : Fits value
  pub whole : bytes ≡ written value ++ rest

pub bind_back : {A B P : Type 0} {f : A → Option B} {o : Option A} {y : B} → option_and_then f o ≡ Some y
    → ((x : A) → o ≡ Some x → f x ≡ Some y → P) → P
bind_back {f = f} {o = None} {y = y} e next = absurd (none-some y e)
bind_back {f = f} {o = Some x} {y = y} e next = next x refl e

or_else_back : {B P : Type 0} (word bytes : List ℕ) (o : Option (List ℕ)) (read : List ℕ → Option B)
    (other : Option B) (y : B)
    → after word bytes ≡ o → or_else o read other ≡ Some y
    → ((rest : List ℕ) → bytes ≡ word ++ rest → read rest ≡ Some y → P) → (other ≡ Some y → P) → P
or_else_back word bytes None read other y h e here there = there e
or_else_back word bytes (Some rest) read other y h e here there = here rest (after_back word bytes rest h) e

pub choose_back : {B P : Type 0} (word : List ℕ) {bytes : List ℕ} {read : List ℕ
    → Option B} {other : Option B} {y : B}
    → choose word bytes read other ≡ Some y
    → ((rest : List ℕ) → bytes ≡ word ++ rest → read rest ≡ Some y → P) → (other ≡ Some y → P) → P
choose_back word {bytes = bytes} {read = read} {other = other} {y = y} e here there =
    or_else_back word bytes (after word bytes) read other y refl e here there

-- what begins with neither a digit nor a plus
abbrev pub Ends : List ℕ → Type 0
Ends [] = Unit {0}
Ends (byte ∷ _) = (is_ascii_digit byte ≡ false) × (eqb byte 43 ≡ false)

pub no_digit : (rest : List ℕ) → Ends rest → NoDigit rest
no_digit [] h = tt
no_digit (byte ∷ rest) h = h.0

-- the same value and the same rest
pub read_as : {X : Type 0} {written : X → List ℕ} {Fits : X → Type 0} {bytes : List ℕ} {x y : X} {r rest : List ℕ}
    → ◌≡◌ {A = Option (X × List ℕ)} (Some (x, r)) (Some (y, rest)) → IsRead written Fits bytes x r
    → IsRead written Fits bytes y rest
read_as {X = X} {written = written} {Fits = Fits} {bytes = bytes} {x = x} {y = y} {r = r} {rest = rest} e is =
    let same = some_pair_parts x y r rest e in
    subst (λ (v : X). IsRead written Fits bytes v rest) same.0
    (subst (λ (t : List ℕ). IsRead written Fits bytes x t) same.1 is)

-- two parts behind one another
pub two : (x y middle rest : List ℕ) {bytes : List ℕ} → bytes ≡ x ++ middle → middle ≡ y ++ rest → bytes ≡
    (x ++ y) ++ rest
two x y middle rest e f = e ∙ ap (λ (t : List ℕ). x ++ t) f ∙ sym (append_assoc x y rest)
