-- Reading from the front: a word, and digits.
use Rattle.std.proofs.Common.{◌≡◌, ◌≢◌, ◌<◌, ◌≤◌, ℕ, zero, suc, Bool, true, false, cond, eqb, List, [], ◌∷◌}
use Rattle.std.proofs.Common.{◌++◌, length, get_or, take, drop, Option, Some, None, MatchOption, refl, ap}
use Rattle.std.proofs.Common.{◌∙◌, arith}
use Rattle.std.specs.Borrow.{Bor}
use Rattle.std.specs.Char.{is_ascii_digit}
use Rattle.std.proofs.lemmas.Bool.{cond-true, cond-false, eq-eqb, eqb-true}
use Rattle.std.proofs.lemmas.Option.{none-some, same_Some}
use Rattle.td_reader.specs.Arguments.{cut_digits, onto_front}
use Rattle.td_reader.specs.Reading.{after}

-- a word is read where it stands
pub after_there : (word rest : List ℕ) → after word (word ++ rest) ≡ Some rest
after_there [] rest = refl
after_there (letter ∷ word) rest =
    cond-true {A = Option (List ℕ)} (eqb letter letter) (after word (word ++ rest)) None (eq-eqb letter letter refl)
    ∙ after_there word rest

-- what is left behind a word that was read
pub after_back : (word bytes rest : List ℕ) → after word bytes ≡ Some rest → bytes ≡ word ++ rest
after_back [] bytes rest e = same_Some bytes rest e
after_back (letter ∷ word) [] rest e = absurd (none-some rest e)
after_back (letter ∷ word) (byte ∷ bytes) rest e =
    at_letter (eqb byte letter) refl (λ h. after_back word bytes rest h) e
  where
    at_letter : (same : Bool) → eqb byte letter ≡ same → (after word bytes ≡ Some rest → bytes ≡ word ++ rest)
        → cond {A = Option (List ℕ)} same (after word bytes) None ≡ Some rest
        → byte ∷ bytes ≡ letter ∷ (word ++ rest)
    at_letter true h ih e =
        ap (λ (b : ℕ). b ∷ bytes) (eqb-true byte letter h) ∙ ap (λ (bs : List ℕ). letter ∷ bs) (ih e)
    at_letter false h ih e = absurd (none-some rest e)

-- where no word stands, none is read
pub after_none : (word bytes : List ℕ) → ((rest : List ℕ) → bytes ≢ word ++ rest) → after word bytes ≡ None
after_none word bytes none = at_read (after word bytes) refl
  where
    at_read : (o : Option (List ℕ)) → after word bytes ≡ o → o ≡ None
    at_read None e = refl
    at_read (Some rest) e = absurd (none rest (after_back word bytes rest e))

pub after_from_strip : (word bytes : List ℕ) (r : Option (Bor (List ℕ)))
    → MatchOption r ((rest : List ℕ) → bytes ≢ word ++ rest) (λ x. bytes ≡ word ++ x.now)
    → MatchOption r (after word bytes ≡ None) (λ rest. after word bytes ≡ Some rest.now)
after_from_strip word bytes None h = after_none word bytes h
after_from_strip word bytes (Some x) h = ap (after word) h ∙ after_there word x.now

-- ---- digits

pub digits_cut_at : (bs : List ℕ) (n : ℕ) → n ≤ length bs → ((k : ℕ) → k < n → is_ascii_digit (get_or bs k 0) ≡ true)
    → (n < length bs → is_ascii_digit (get_or bs n 0) ≡ false) → cut_digits bs ≡ (take n bs, drop n bs)
digits_cut_at [] n within digits end = at_end n
  where
    at_end : (m : ℕ) → ◌≡◌ {A = List ℕ × List ℕ} ([], []) (take m [], drop m [])
    at_end zero = refl
    at_end (suc m) = refl
digits_cut_at (b ∷ bs) zero within digits end =
    cond-false (is_ascii_digit b) (onto_front b (cut_digits bs)) ([], b ∷ bs) (end (omega arith))
digits_cut_at (b ∷ bs) (suc n) within digits end =
    cond-true (is_ascii_digit b) (onto_front b (cut_digits bs)) ([], b ∷ bs) (digits zero (omega arith))
    ∙ ap (onto_front b) (digits_cut_at bs n (omega arith) (λ k inside. digits (suc k) (omega arith))
    (λ inside. end (omega arith)))

-- what does not begin with a digit
abbrev pub NoDigit : List ℕ → Type 0
NoDigit [] = Unit {0}
NoDigit (byte ∷ _) = is_ascii_digit byte ≡ false

-- each byte is a digit
abbrev pub AllDigit : List ℕ → Type 0
AllDigit [] = Unit {0}
AllDigit (byte ∷ bytes) = (is_ascii_digit byte ≡ true) × AllDigit bytes

pub digits_there : (digits rest : List ℕ) → AllDigit digits → NoDigit rest → cut_digits (digits ++ rest) ≡
    (digits, rest)
digits_there [] [] all ends = refl
digits_there [] (b ∷ rest) all ends = cond-false (is_ascii_digit b) (onto_front b (cut_digits rest))
    ([], b ∷ rest) ends
digits_there (d ∷ digits) rest all ends =
    cond-true (is_ascii_digit d) (onto_front d (cut_digits (digits ++ rest))) ([], d ∷ (digits ++ rest)) all.0
    ∙ ap (onto_front d) (digits_there digits rest all.1 ends)

pub digits_back : (bs : List ℕ) → bs ≡ (cut_digits bs).0 ++ (cut_digits bs).1
digits_back [] = refl
digits_back (b ∷ bs) = at_digit (is_ascii_digit b) (digits_back bs)
  where
    at_digit : (is : Bool) → bs ≡ (cut_digits bs).0 ++ (cut_digits bs).1
        → b ∷ bs ≡ (cond is (onto_front b (cut_digits bs)) ([], b ∷ bs)).0
        ++ (cond is (onto_front b (cut_digits bs)) ([], b ∷ bs)).1
    at_digit true ih = ap (λ (xs : List ℕ). b ∷ xs) ih
    at_digit false ih = refl
