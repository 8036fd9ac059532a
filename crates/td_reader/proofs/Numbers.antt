-- Numbers: what is written is read, and what is read is what is written of its value.
use Rattle.std.proofs.Common.{◌≡◌, ◌≢◌, ◌<◌, ◌≤◌, ◌^◌, ℕ, zero, suc, Bool, true, false, cond, eqb, leb, ◌&&◌}
use Rattle.std.proofs.Common.{bytes_eq, true≢false, List, [], ◌∷◌, ◌++◌, length, Option, Some, None, Result}
use Rattle.std.proofs.Common.{Ok, Err, MatchOption, refl, sym, ap, subst, ◌∙◌, arith}
use Rattle.std.specs.Char.{is_ascii_digit}
use Rattle.std.specs.Fmt.{decimal}
use Rattle.std.specs.Int.{IsInRange}
use Rattle.std.specs.Option.{option_and_then}
use Rattle.std.specs.Bool.{then_some}
use Rattle.std.specs.Result.{result_ok}
use Rattle.std.specs.Str.{IsUtf8}
use Rattle.std.specs.Str.Parse.{digits_value, ParsesUnsigned}
use Rattle.std.proofs.lemmas.Bool.{cond-true, cond-false, and_parts, and_from, le-leb, leb-true, eqb-true}
use Rattle.std.proofs.lemmas.Bool.{false_from_ne_true}
use Rattle.std.proofs.lemmas.Fmt.{decimal_is_IsNumeral, parse-decimal, digits_decimal, decimal_nonempty}
use Rattle.std.proofs.lemmas.Fmt.{IsAscii-decimal}
use Rattle.std.proofs.lemmas.Option.{none-some, same_Some, option_and_then_some, some_pair_parts, cond_some}
use Rattle.std.proofs.lemmas.Slice.Eq.{bytes_eq-Decides}
use Rattle.std.proofs.lemmas.Str.{IsUtf8-from_ascii}
use Rattle.std.proofs.lemmas.Str.Parse.{IsNumeralModel, digits_value_short, numerals_by_value, tells_by_index}
use Rattle.td_script.proofs.Numbers.{AreDigits}
use Rattle.td_script.proofs.Results.{in_range}
use Rattle.td_reader.specs.Arguments.{cut_digits, number_of, number_at, ranged_at, short_at, long_at}
use Rattle.td_reader.specs.Reading.{after}
use Rattle.td_reader.proofs.Cursors.{NoDigit, AllDigit, digits_there, digits_back}

numerals : IsNumeralModel AreDigits (digits_value 10)
numerals = numerals_by_value AreDigits tells_by_index

-- the digits of a number
pub decimal_digits : (n : ℕ) → n < 2 ^ 64 → AreDigits (decimal n)
decimal_digits n h = digits_decimal numerals n h

pub number_there : (most n : ℕ) → n ≤ most → n < 2 ^ 64 → number_of most (decimal n) ≡ Some n
unfolding number_of
number_there most n few h =
    let value : digits_value 10 (decimal n) ≡ n = (decimal_is_IsNumeral n h).1 in
    let same : bytes_eq (decimal n) (decimal (digits_value 10 (decimal n))) ≡ true =
    (bytes_eq-Decides (decimal n) (decimal (digits_value 10 (decimal n)))).1 (ap decimal (sym value)) in
    let small : leb (digits_value 10 (decimal n)) most ≡ true = le-leb (digits_value 10 (decimal n)) most
    (omega arith) in
    cond-true {A = Option ℕ} (bytes_eq (decimal n) (decimal (digits_value 10 (decimal n))) && leb
    (digits_value 10 (decimal n)) most)
    (Some (digits_value 10 (decimal n))) None
    (and_from (bytes_eq (decimal n) (decimal (digits_value 10 (decimal n))))
    (leb (digits_value 10 (decimal n)) most) same small)
    ∙ ap (λ (v : ℕ). Some v) value

pub number_back : (most : ℕ) (ds : List ℕ) (n : ℕ) → number_of most ds ≡ Some n → (n ≤ most) × (ds ≡ decimal n)
unfolding number_of
number_back most ds n e = at_test (bytes_eq ds (decimal (digits_value 10 ds)) && leb (digits_value 10 ds) most) refl e
  where
    at_test : (b : Bool) → (bytes_eq ds (decimal (digits_value 10 ds)) && leb (digits_value 10 ds) most) ≡ b
        → cond {A = Option ℕ} b (Some (digits_value 10 ds)) None ≡ Some n → (n ≤ most) × (ds ≡ decimal n)
    at_test true h e =
        let value : digits_value 10 ds ≡ n = same_Some (digits_value 10 ds) n e in
        let parts = and_parts (bytes_eq ds (decimal (digits_value 10 ds))) (leb (digits_value 10 ds) most) h in
        let small : digits_value 10 ds ≤ most = leb-true (digits_value 10 ds) most parts.1 in
        (omega arith, (bytes_eq-Decides ds (decimal (digits_value 10 ds))).0 parts.0 ∙ ap decimal value)
    at_test false h e = absurd (none-some n e)

-- what is no number's digits is no number
pub number_none : (most : ℕ) (ds : List ℕ) → most < 2 ^ 64 → ((n : ℕ) → n < 2 ^ 64 → ds ≢ decimal n)
    → number_of most ds ≡ None
number_none most ds few none = at_read (number_of most ds) refl
  where
    at_read : (o : Option ℕ) → number_of most ds ≡ o → o ≡ None
    at_read None e = refl
    at_read (Some n) e =
        let is = number_back most ds n e in
        let small : n ≤ most = is.0 in
        absurd (none n (omega arith) is.1)

-- ---- by `parse`

abbrev pub Parsed : List ℕ → Option ℕ → Type 0
Parsed ds r = MatchOption r ((n : ℕ) → n < 2 ^ 64 → ds ≢ decimal n)
    (λ number. (n : ℕ) → n < 2 ^ 64 → ds ≡ decimal n → number ≡ n)

pub no_text : (ds : List ℕ) → ¬ IsUtf8 ds → (n : ℕ) → n < 2 ^ 64 → ds ≢ decimal n
no_text ds none n h e = none (subst IsUtf8 (sym e) (IsUtf8-from_ascii (decimal n) (IsAscii-decimal n h)))

pub parsed_by : {E : Type 0} (ds text : List ℕ) (r : Result ℕ E) (o : Option ℕ) → text ≡ ds
    → ParsesUnsigned 64 10 text r → o ≡ result_ok r → Parsed ds o
parsed_by {E = E} ds text (Ok v) o same parses e =
    subst (Parsed ds) (sym e) (λ n h is. ok_is (parse-decimal {E = E} 64 n text (Ok v) h h (same ∙ is) parses))
  where
    ok_is : {n : ℕ} → ◌≡◌ {A = Result ℕ E} (Ok v) (Ok n) → v ≡ n
    ok_is e = cc
parsed_by {E = E} ds text (Err x) o same parses e =
    subst (Parsed ds) (sym e) (λ n h is. err_is (parse-decimal {E = E} 64 n text (Err x) h h (same ∙ is) parses))
  where
    err_is : {n : ℕ} → ◌≡◌ {A = Result ℕ E} (Err x) (Ok n) → ⊥
    err_is e = cc

-- a number that was parsed, and is what is written
pub parsed_there : (most v : ℕ) (ds : List ℕ) → v < 2 ^ 64 → v ≤ most → ds ≡ decimal v → number_of most ds ≡ Some v
parsed_there most v ds h few e = ap (number_of most) e ∙ number_there most v few h

-- one that is too great, or is written with more
pub parsed_other : (most v : ℕ) (ds : List ℕ) → most < 2 ^ 64 → ((n : ℕ) → n < 2 ^ 64 → ds ≡ decimal n → v ≡ n)
    → (v ≤ most → ds ≢ decimal v) → number_of most ds ≡ None
parsed_other most v ds few only other = at_read (number_of most ds) refl
  where
    at_read : (o : Option ℕ) → number_of most ds ≡ o → o ≡ None
    at_read None e = refl
    at_read (Some n) e =
        let is = number_back most ds n e in
        let small : n ≤ most = is.0 in
        let same : v ≡ n = only n (omega arith) is.1 in
        absurd (other (omega arith) (is.1 ∙ ap decimal (sym same)))

-- ---- by few digits

-- digits that are few are those of no great number
pub few_none : (ds : List ℕ) → length ds ≤ 9 → ((n : ℕ) → n < 10 ^ 9 → ds ≢ decimal n) → (n : ℕ) → n < 2 ^ 64
    → ds ≢ decimal n
few_none ds few none n small e =
    let value : digits_value 10 (decimal n) ≡ n = (decimal_is_IsNumeral n small).1 in
    let short : length (decimal n) ≤ 9 = omega (arith, ap length e, few) in
    let below : digits_value 10 (decimal n) < 10 ^ 9 =
    digits_value_short numerals (decimal n) 9 (decimal_digits n small) short in
    none n (omega (arith, value, below)) e

-- ---- behind the digits

digit_by_range : (b : ℕ) → IsInRange 48 57 b → is_ascii_digit b ≡ true
digit_by_range b h = in_range 48 57 b h

all_digits : (ds : List ℕ) → AreDigits ds → AllDigit ds
all_digits [] h = tt
all_digits (d ∷ ds) h = (digit_by_range d (h zero (omega arith)), all_digits ds (λ i inside. h (suc i) (omega arith)))

pub decimal_all : (n : ℕ) → n < 2 ^ 64 → AllDigit (decimal n)
decimal_all n h = all_digits (decimal n) (decimal_digits n h)

pub number_at_there : (most n : ℕ) (rest : List ℕ) → n ≤ most → n < 2 ^ 64 → NoDigit rest
    → number_at most (decimal n ++ rest) ≡ Some (n, rest)
unfolding number_at
number_at_there most n rest few h ends =
    ap (λ (cut : List ℕ × List ℕ). option_and_then (λ number. Some (number, cut.1)) (number_of most cut.0))
    (digits_there (decimal n) rest (decimal_all n h) ends)
    ∙ ap (option_and_then (λ number. Some (number, rest))) (number_there most n few h)

pub number_at_back : (most : ℕ) (bytes : List ℕ) (n : ℕ) (rest : List ℕ) → number_at most bytes ≡ Some (n, rest)
    → (n ≤ most) × (bytes ≡ decimal n ++ rest)
unfolding number_at
number_at_back most bytes n rest e =
    option_and_then_some (λ number. Some (number, (cut_digits bytes).1)) (number_of most (cut_digits bytes).0)
    (n, rest) e
    (λ number is then_is. from_parts number is (some_pair_parts number n (cut_digits bytes).1 rest then_is))
  where
    from_parts : (number : ℕ) → number_of most (cut_digits bytes).0 ≡ Some number
        → (number ≡ n) × ((cut_digits bytes).1 ≡ rest) → (n ≤ most) × (bytes ≡ decimal n ++ rest)
    from_parts number is same =
        let back = number_back most (cut_digits bytes).0 number is in
        let small : number ≤ most = back.0 in
        let first : number ≡ n = same.0 in
        (omega arith, digits_back bytes ∙ (λ i. back.1 i ++ same.1 i) ∙ ap (λ (v : ℕ). decimal v ++ rest) first)

pub ranged_at_there : (least most n : ℕ) (rest : List ℕ) → least ≤ n → n ≤ most → n < 2 ^ 64 → NoDigit rest
    → ranged_at least most (decimal n ++ rest) ≡ Some (n, rest)
unfolding ranged_at
ranged_at_there least most n rest low few h ends =
    ap (option_and_then (λ number. cond {A = Option (ℕ × List ℕ)} (leb least number.0) (Some number) None))
    (number_at_there most n rest few h ends)
    ∙ cond-true {A = Option (ℕ × List ℕ)} (leb least n) (Some (n, rest)) None (le-leb least n low)

pub ranged_at_back : (least most : ℕ) (bytes : List ℕ) (n : ℕ) (rest : List ℕ) → ranged_at least most bytes ≡ Some
    (n, rest)
    → (least ≤ n) × (n ≤ most) × (bytes ≡ decimal n ++ rest)
unfolding ranged_at
ranged_at_back least most bytes n rest e =
    option_and_then_some (λ number. cond {A = Option (ℕ × List ℕ)} (leb least number.0) (Some number) None)
    (number_at most bytes) (n, rest) e
    (λ number is then_is. from_parts number is (cond_some (leb least number.0) number (n, rest) then_is))
  where
    from_parts : (number : ℕ × List ℕ) → number_at most bytes ≡ Some number
        → (leb least number.0 ≡ true) × (number ≡ (n, rest)) → (least ≤ n) × (n ≤ most) × (bytes ≡ decimal n ++ rest)
    from_parts number is same =
        let whole : number_at most bytes ≡ Some (n, rest) = is ∙ ap (λ (x : ℕ × List ℕ). Some x) same.1 in
        let back = number_at_back most bytes n rest whole in
        (subst (λ (x : ℕ × List ℕ). least ≤ x.0) same.1 (leb-true least number.0 same.0), back.0, back.1)

-- digits begin with no letter
pub no_word : (letter : ℕ) (word : List ℕ) (n : ℕ) (rest : List ℕ) → is_ascii_digit letter ≡ false → n < 2 ^ 64
    → after (letter ∷ word) (decimal n ++ rest) ≡ None
no_word letter word n rest other h = first_other (decimal n) (decimal_nonempty n h) (decimal_all n h)
  where
    first_other : (ds : List ℕ) → 0 < length ds → AllDigit ds → after (letter ∷ word) (ds ++ rest) ≡ None
    first_other [] some all = absurd (omega arith)
    first_other (d ∷ ds) some all =
        cond-false {A = Option (List ℕ)} (eqb d letter) (after word (ds ++ rest)) None
        (false_from_ne_true (eqb d letter) (λ (e : eqb d letter ≡ true). absurd (true≢false
        (sym all.0 ∙ ap is_ascii_digit (eqb-true d letter e) ∙ other))))

pub number_tested : (most v : ℕ) (ds : List ℕ) (b : Bool) → v ≤ most → most < 2 ^ 64
    → ((n : ℕ) → n < 2 ^ 64 → ds ≡ decimal n → v ≡ n) → b ≡ bytes_eq (decimal v) ds
    → then_some b v ≡ number_of most ds
number_tested most v ds true few h only is =
    sym (parsed_there most v ds (omega arith) few (sym ((bytes_eq-Decides (decimal v) ds).0 (sym is))))
number_tested most v ds false few h only is =
    sym (parsed_other most v ds h only (λ small e. true≢false
    (sym ((bytes_eq-Decides (decimal v) ds).1 (sym e)) ∙ sym is)))

pub short_there : (n : ℕ) (rest : List ℕ) → n < 2 ^ 32 → NoDigit rest → short_at (decimal n ++ rest) ≡ Some (n, rest)
unfolding short_at
short_there n rest h ends = number_at_there 4294967295 n rest (omega arith) (omega arith) ends

pub short_back : (bytes : List ℕ) (n : ℕ) (rest : List ℕ) → short_at bytes ≡ Some (n, rest) → (n < 2 ^ 32) ×
    (bytes ≡ decimal n ++ rest)
unfolding short_at
short_back bytes n rest e =
    let back = number_at_back 4294967295 bytes n rest e in
    let few : n ≤ 4294967295 = back.0 in
    (omega arith, back.1)

pub long_there : (n : ℕ) (rest : List ℕ) → n < 2 ^ 64 → NoDigit rest → long_at (decimal n ++ rest) ≡ Some (n, rest)
unfolding long_at
long_there n rest h ends = number_at_there 18446744073709551615 n rest (omega arith) h ends

pub long_back : (bytes : List ℕ) (n : ℕ) (rest : List ℕ) → long_at bytes ≡ Some (n, rest) → (n < 2 ^ 64) ×
    (bytes ≡ decimal n ++ rest)
unfolding long_at
long_back bytes n rest e =
    let back = number_at_back 18446744073709551615 bytes n rest e in
    let few : n ≤ 18446744073709551615 = back.0 in
    (omega arith, back.1)
