-- The words that are numbers.
use Rattle.std.proofs.Common.{◌≡◌, ◌≢◌, ◌<◌, ◌≤◌, ◌^◌, ℕ, zero, suc, Bool, true, false, cond, eqb, leb, ltb, ◌&&◌, List}
use Rattle.std.proofs.Common.{[], ◌∷◌, length, get_or, Result, Ok, Err, refl, sym, ap, subst, ◌∙◌, arith}
use Rattle.std.specs.Fmt.{decimal}
use Rattle.std.specs.Option.{ok_or}
use Rattle.std.specs.Prelude.{Option, Some, None, IfSome, IfNone}
use Rattle.std.specs.List.{list_all}
use Rattle.std.specs.Str.Parse.{digits_value}
use Rattle.std.proofs.lemmas.Bool.{false≢true, eqb-true, eqb-false, leb-true, ltb-true, le-leb, lt-ltb, and_parts}
use Rattle.std.proofs.lemmas.Bool.{and_from, false_from_ne_true, cond-true, cond-false}
use Rattle.std.proofs.lemmas.List.{get_or_default}
use Rattle.std.proofs.lemmas.List.Sums.{AllPass-from_list_all, list_all-from_AllPass}
use Rattle.td_script.specs.declared.kind.Kind.{Kind}
use Rattle.td_script.specs.declared.kind.Kind.TheVariants.{Number}
use Rattle.td_script.specs.declared.number.TheConstants.{MAX_DIGITS}
use Rattle.std.specs.Char.{is_ascii_digit}
use Rattle.td_script.specs.Arguments.{is_number, number_of}
use Rattle.td_script.proofs.Results.{in_range, range_in, ok_same, err_is_no_ok}
use Rattle.td_script.proofs.Numbers.{AreDigits, IsIndexForm, IsNumberWord, form_of_number, number_of_form}
use Rattle.td_script.proofs.Numbers.{value_of_number}

digits_by_test : (ds : List ℕ) → list_all is_ascii_digit ds ≡ true → AreDigits ds
digits_by_test ds h = λ i inside. range_in 48 57 (get_or ds i 0) (AllPass-from_list_all is_ascii_digit ds h i 0 inside)

test_of_digits : (ds : List ℕ) → AreDigits ds → list_all is_ascii_digit ds ≡ true
test_of_digits ds h =
    list_all-from_AllPass is_ascii_digit ds (λ i d inside. subst (λ (b : ℕ). is_ascii_digit b ≡ true)
    (get_or_default ds i 0 d inside) (in_range 48 57 (get_or ds i 0) (h i inside)))

zero_form : (d : ℕ) (ds : List ℕ) → d ≡ 48 → length ds ≤ 0 → IsIndexForm (d ∷ ds)
zero_form d ds e short = record { digits = digits; some = omega arith; short = omega arith; leading = λ h. omega arith }
  where
    digits : AreDigits (d ∷ ds)
    digits zero inside = (omega arith, omega arith)
    digits (suc i) inside = absurd (omega arith)

form_at : (d : ℕ) (ds : List ℕ) (b : Bool) → eqb d 48 ≡ b
    → cond b (leb (length ds) 0) (list_all is_ascii_digit (d ∷ ds) && ltb (length ds) MAX_DIGITS) ≡ true
    → IsIndexForm (d ∷ ds)
form_at d ds true e h = zero_form d ds (eqb-true d 48 e) (leb-true (length ds) 0 h)
form_at d ds false e h =
    let parts : (list_all is_ascii_digit (d ∷ ds) ≡ true) × (ltb (length ds) MAX_DIGITS ≡ true) =
    and_parts (list_all is_ascii_digit (d ∷ ds)) (ltb (length ds) MAX_DIGITS) h in
    let short : length ds < MAX_DIGITS = ltb-true (length ds) MAX_DIGITS parts.1 in
    record {
      digits = digits_by_test (d ∷ ds) parts.0;
      some = omega arith;
      short = omega arith;
      leading =
          λ (same : d ≡ 48). absurd (eqb-false d 48 e same);
    }

form_of_test : (ds : List ℕ) → is_number ds ≡ true → IsIndexForm ds
form_of_test [] h = absurd (false≢true h)
form_of_test (d ∷ ds) h = form_at d ds (eqb d 48) refl h

test_at : (d : ℕ) (ds : List ℕ) (b : Bool) → eqb d 48 ≡ b → IsIndexForm (d ∷ ds)
    → cond b (leb (length ds) 0) (list_all is_ascii_digit (d ∷ ds) && ltb (length ds) MAX_DIGITS) ≡ true
test_at d ds true e h = le-leb (length ds) 0 (omega (arith, h.leading (eqb-true d 48 e)))
test_at d ds false e h = and_from (list_all is_ascii_digit (d ∷ ds)) (ltb (length ds) MAX_DIGITS)
    (test_of_digits (d ∷ ds) h.digits)
    (lt-ltb (length ds) MAX_DIGITS (omega (arith, h.short)))

test_of_form : (ds : List ℕ) → IsIndexForm ds → is_number ds ≡ true
test_of_form [] h = absurd (omega (arith, h.some))
test_of_form (d ∷ ds) h = test_at d ds (eqb d 48) refl h

abbrev read_as : ℕ → Result ℕ Kind
read_as n = Ok n

-- a number is read from its digits
pub number_there : (v : ℕ) (word : List ℕ) → v < 10 ^ MAX_DIGITS → word ≡ decimal v → number_of word ≡ Ok v
number_there v word small e =
    let number : IsNumberWord word = (v, small, e) in
    let test : is_number word ≡ true = test_of_form word (form_of_number word number) in
    let value : digits_value 10 word ≡ v = value_of_number word number in
    cond-true {A = Result ℕ Kind} (is_number word) (Ok (digits_value 10 word)) (Err Number) test ∙ ap read_as value

back_at : (word : List ℕ) (v : ℕ) (b : Bool) → is_number word ≡ b
    → cond {A = Result ℕ Kind} b (Ok (digits_value 10 word)) (Err Number) ≡ Ok v
    → (v < 10 ^ MAX_DIGITS) × (word ≡ decimal v)
back_at word v true test e =
    let number : IsNumberWord word = number_of_form word (form_of_test word test) in
    let same : digits_value 10 word ≡ v = ok_same (digits_value 10 word) v e in
    let value : digits_value 10 word ≡ number.0 = value_of_number word number in
    let whole : number.0 ≡ v = sym value ∙ same in
    (omega (arith, number.1), number.2 ∙ ap decimal whole)
back_at word v false test e = absurd (err_is_no_ok Number v e)

-- what is read as a number is its digits
pub number_back : (word : List ℕ) (v : ℕ) → number_of word ≡ Ok v → (v < 10 ^ MAX_DIGITS) × (word ≡ decimal v)
number_back word v e = back_at word v (is_number word) refl e

-- what is no number's digits is no number
pub number_none : (word : List ℕ) → ((n : ℕ) → n < 10 ^ MAX_DIGITS → word ≢ decimal n) → number_of word ≡ Err Number
number_none word none =
    cond-false {A = Result ℕ Kind} (is_number word) (Ok (digits_value 10 word)) (Err Number)
    (false_from_ne_true (is_number word) (λ (test : is_number word ≡ true). let number : IsNumberWord word =
    number_of_form word (form_of_test word test) in none number.0 number.1 number.2))

-- a number where its digits spell one, and else the fault
pub number_or_fault : (word : List ℕ) (o : Option ℕ) → IfSome o (λ n. (n < 10 ^ MAX_DIGITS) × (word ≡ decimal n))
    → IfNone o ((n : ℕ) → n < 10 ^ MAX_DIGITS → word ≢ decimal n) → ok_or o Number ≡ number_of word
number_or_fault word (Some n) some none = sym (number_there n word some.0 some.1)
number_or_fault word None some none = sym (number_none word none)
