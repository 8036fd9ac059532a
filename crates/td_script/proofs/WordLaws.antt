-- An argument of one word: its spelling is read as its value, and what is read is its spelling.
use Rattle.std.proofs.Common.{◌≡◌, ◌≢◌, ◌<◌, ℕ, Bool, true, false, cond, eqb, List, [], ◌∷◌, ◌++◌}
use Rattle.std.proofs.Common.{length, Result, Ok, Err, refl, ap, subst, ◌∙◌, arith}
use Rattle.std.specs.Bool.{⊤}
use Rattle.std.proofs.lemmas.Bool.{eqb-true, cond-true, cond-false, eq-eqb, ne_eqb}
use Rattle.std.proofs.lemmas.List.Elements.{All-head, All-tail}
use Rattle.td_script.specs.declared.kind.Kind.{Kind}
use Rattle.td_script.specs.declared.kind.Kind.TheVariants as Fault
use Rattle.td_script.specs.Arguments.{Reading, argument, behind, by_word, cut_word, onto_word}
use Rattle.td_script.specs.Arguments.{last, with_rest, word_at, word_of_argument}
use Rattle.td_script.proofs.Results.{ok_same, err_is_no_ok}
use Rattle.td_script.proofs.Splitting.{Lacks}

-- what is left behind a word: nothing, or what begins with a space
abbrev pub IsOpen : List ℕ → Type 0
IsOpen [] = ⊤
IsOpen (byte ∷ _) = byte ≡ 32

pub cut_there : (word rest : List ℕ) → Lacks 32 word → IsOpen rest → cut_word (word ++ rest) ≡ (word, rest)
cut_there [] [] lacks free = refl
cut_there [] (b ∷ rest) lacks free = cond-true (eqb b 32) ([], b ∷ rest) (onto_word b (cut_word rest))
    (eq-eqb b 32 free)
cut_there (b ∷ word) rest lacks free =
    cond-false (eqb b 32) ([], b ∷ (word ++ rest)) (onto_word b (cut_word (word ++ rest)))
    (ne_eqb b 32 (All-head (λ (byte : ℕ). byte ≢ 32) b word lacks))
    ∙ ap (onto_word b) (cut_there word rest (All-tail (λ (byte : ℕ). byte ≢ 32) b word lacks) free)

-- a word and what is left behind it
pub record IsCut (bytes : List ℕ) (cut : List ℕ × List ℕ) : Type 0 where
  pub whole : bytes ≡ cut.0 ++ cut.1
  pub free : IsOpen cut.1

cut_at : (b : ℕ) (bs : List ℕ) (stops : Bool) → eqb b 32 ≡ stops → IsCut bs (cut_word bs)
    → IsCut (b ∷ bs) (cond stops ([], b ∷ bs) (onto_word b (cut_word bs)))
cut_at b bs true e h = record { whole = refl; free = eqb-true b 32 e }
cut_at b bs false e h = record { whole = ap (λ (xs : List ℕ). b ∷ xs) h.whole; free = h.free }

pub cut_back : (bs : List ℕ) → IsCut bs (cut_word bs)
cut_back [] = record { whole = refl; free = tt }
cut_back (b ∷ bs) = cut_at b bs (eqb b 32) refl (cut_back bs)

-- what an argument begins with
pub argument_back : (rest text : List ℕ) → argument rest ≡ Ok text → rest ≡ 32 ∷ text
argument_back [] text e = absurd (err_is_no_ok Fault.End text e)
argument_back (b ∷ []) text e = absurd (err_is_no_ok Fault.End text e)
argument_back (b ∷ c ∷ bs) text e = at_space (eqb b 32) refl e
  where
    at_space : (is : Bool) → eqb b 32 ≡ is → cond {A = Result (List ℕ) Kind} is (Ok (c ∷ bs)) (Err Fault.End)
        ≡ Ok text → b ∷ c ∷ bs ≡ 32 ∷ text
    at_space true h e = ap (λ (x : ℕ). x ∷ c ∷ bs) (eqb-true b 32 h)
        ∙ ap (λ (xs : List ℕ). 32 ∷ xs) (ok_same (c ∷ bs) text e)
    at_space false h e = absurd (err_is_no_ok Fault.End text e)

-- what was judged behind an argument, and the argument
pub record IsBehind {V W : Type 0} (read : Reading V) (next : V → List ℕ → Result W Kind) (w : W) : Type 0 where
  pub value : V
  pub rest : List ℕ
  pub is : read ≡ Ok (value, rest)
  pub then_is : next value rest ≡ Ok w

pub behind_back : {V W : Type 0} (read : Reading V) (next : V → List ℕ → Result W Kind) (w : W) → behind read next
    ≡ Ok w → IsBehind read next w
behind_back (Ok got) next w e = record { value = got.0; rest = got.1; is = refl; then_is = e }
behind_back (Err kind) next w e = absurd (err_is_no_ok kind w e)

pub behind_there : {V W : Type 0} (read : Reading V) (next : V → List ℕ → Result W Kind) (value : V) (rest : List ℕ)
    → read ≡ Ok (value, rest) → behind read next ≡ next value rest
behind_there read next value rest e = ap (λ r. behind r next) e

pub last_back : {V : Type 0} (v w : V) (rest : List ℕ) → last v rest ≡ Ok w → (v ≡ w) × (rest ≡ [])
last_back v w [] e = (ok_same v w e, refl)
last_back v w (b ∷ rest) e = absurd (err_is_no_ok Fault.End w e)

-- a word that was read as an argument
pub record IsWord {V : Type 0} (read : List ℕ → Result V Kind) (bytes : List ℕ) (value : V) (rest : List ℕ) : Type 0
  where
    pub word : List ℕ
    pub is : read word ≡ Ok value
    pub whole : bytes ≡ 32 ∷ (word ++ rest)
    pub free : IsOpen rest

pub by_word_there : {V : Type 0} (read : List ℕ → Result V Kind) (word rest : List ℕ) (value : V) → 0 < length word
    → Lacks 32 word → IsOpen rest → read word ≡ Ok value → by_word read (32 ∷ (word ++ rest)) ≡ Ok (value, rest)
by_word_there read [] rest value some lacks free e = absurd (omega arith)
by_word_there read (b ∷ word) rest value some lacks free e =
    ap (λ (cut : List ℕ × List ℕ). with_rest cut.1 (read cut.0)) (cut_there (b ∷ word) rest lacks free)
    ∙ ap (with_rest rest) e

pub word_at_there : (word rest : List ℕ) → 0 < length word → Lacks 32 word → IsOpen rest
    → word_at (32 ∷ (word ++ rest)) ≡ Ok (word, rest)
word_at_there [] rest some lacks free = absurd (omega arith)
word_at_there (b ∷ word) rest some lacks free =
    ap (λ (cut : List ℕ × List ℕ). Ok cut) (cut_there (b ∷ word) rest lacks free)

-- a word that stands behind a space
pub record IsSpacedWord (bytes word rest : List ℕ) : Type 0 where
  pub whole : bytes ≡ 32 ∷ (word ++ rest)
  pub free : IsOpen rest

word_of_back : (bytes word rest : List ℕ) (r : Result (List ℕ) Kind) → argument bytes ≡ r → word_of_argument r
    ≡ Ok (word, rest) → IsSpacedWord bytes word rest
word_of_back bytes word rest (Ok text) begins e =
    let cut : cut_word text ≡ (word, rest) = ok_same (cut_word text) (word, rest) e in
    let is : IsCut text (word, rest) = subst (IsCut text) cut (cut_back text) in
    record { whole = argument_back bytes text begins ∙ ap (λ (xs : List ℕ). 32 ∷ xs) is.whole; free = is.free }
word_of_back bytes word rest (Err kind) begins e = absurd (err_is_no_ok kind (word, rest) e)

pub word_at_back : (bytes word rest : List ℕ) → word_at bytes ≡ Ok (word, rest) → IsSpacedWord bytes word rest
word_at_back bytes word rest e = word_of_back bytes word rest (argument bytes) refl e

pub with_rest_back : {V : Type 0} (rest left : List ℕ) (r : Result V Kind) (value : V) → with_rest rest r
    ≡ Ok (value, left) → (r ≡ Ok value) × (rest ≡ left)
with_rest_back {V = V} rest left (Ok got) value e =
    let same : (got, rest) ≡ (value, left) = ok_same (got, rest) (value, left) e in
    (ap (λ (x : V × List ℕ). Ok x.0) same, ap (λ (x : V × List ℕ). x.1) same)
with_rest_back rest left (Err kind) value e = absurd (err_is_no_ok kind (value, left) e)

pub by_word_back : {V : Type 0} (read : List ℕ → Result V Kind) (bytes : List ℕ) (value : V) (rest : List ℕ)
    → by_word read bytes ≡ Ok (value, rest) → IsWord read bytes value rest
by_word_back read bytes value rest e =
    let parts = behind_back (word_at bytes) (λ word rest. with_rest rest (read word)) (value, rest) e in
    let spaced_word = word_at_back bytes parts.value parts.rest parts.is in
    let got = with_rest_back parts.rest rest (read parts.value) value parts.then_is in
    record {
      word = parts.value;
      is = got.0;
      whole = spaced_word.whole
          ∙ ap (λ (xs : List ℕ). 32 ∷ (parts.value ++ xs)) got.1;
      free = subst IsOpen got.1 spaced_word.free;
    }
