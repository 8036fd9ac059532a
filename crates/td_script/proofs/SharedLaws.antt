-- What more than one language asks for: its spelling is read as its value, and what is read is its spelling.
use Rattle.std.proofs.Common.{◌≡◌, ◌≢◌, ◌<◌, ◌≤◌, ◌^◌, ℕ, Bool, true, false, cond, List, [], ◌∷◌, ◌++◌, get_or, codes}
use Rattle.std.proofs.Common.{Result, Ok, Err, refl, sym, ap, subst, ◌∙◌, append-nil, bytes_eq, IsUtf8, arith}
use Rattle.std.specs.Fmt.{decimal}
use Rattle.std.specs.Int.{IsInRange}
use Rattle.std.proofs.lemmas.Bool.{cond-false, false_from_ne_true}
use Rattle.std.proofs.lemmas.List.{get_or_default}
use Rattle.std.proofs.lemmas.List.Elements.{All-tail}
use Rattle.std.proofs.lemmas.Slice.Eq.{bytes_eq-Decides}
use Rattle.std.proofs.lemmas.Str.{IsUtf8-append, IsUtf8-from_ascii}
use Rattle.std.proofs.lemmas.Str.Ascii.{IsAscii-cons, IsAscii-from_all, IsAscii-nil}
use Rattle.unicode_segmentation.proofs.TextLemmas.{IsUtf8-after}
use Rattle.td_base.specs.Value.{DotValue}
use Rattle.td_base.specs.declared.bit.Bit.{Bit}
use Rattle.td_base.specs.declared.bit.Bit.TheVariants.{Left, Right}
use Rattle.td_base.specs.declared.site.TheConstants.{MAX_SITE}
use Rattle.td_script.specs.declared.command.Place.{Place}
use Rattle.td_script.specs.declared.command.Place.TheVariants.{Root, Beside}
use Rattle.td_script.specs.declared.kind.Kind.{Kind}
use Rattle.td_script.specs.declared.kind.Kind.TheVariants as Fault
use Rattle.td_script.specs.Arguments.{by_word, with_rest, last, number_of, sites_of, dot_of, bit_of}
use Rattle.td_script.specs.Arguments.{text_at, word_at}
use Rattle.td_script.specs.Script.{IsNumber, IsSiteOf, IsDotOf, IsClusters, IsPlace}
use Rattle.td_script.specs.Shared.{index_and_text, is_too_wide, mapped, place_at, place_beside, place_of, proposal_at}
use Rattle.td_script.specs.Shared.{sites_at, two_numbers}
use Rattle.td_script.specs.Spelling.{spaced, spaced_bit, spaced_dot, spaced_place, spaced_text}
use Rattle.td_script.proofs.ArgumentLaws.{number_at_back, sites_at_back, dot_at_back, bit_at_back}
use Rattle.td_script.proofs.ArgumentLaws.{decimal_lacks, number_of_decimal, number_at_there, sites_at_there}
use Rattle.td_script.proofs.ArgumentLaws.{dot_at_there, bit_at_there}
use Rattle.td_script.proofs.Numbers.{form_of_decimal}
use Rattle.td_script.proofs.NumberWords.{number_back}
use Rattle.td_script.proofs.Results.{ok_same, err_is_no_ok}
use Rattle.td_script.proofs.Splitting.{Lacks}
use Rattle.td_script.proofs.TextLaws.{text_at_back, text_at_there}
use Rattle.td_script.proofs.WordLaws.{IsOpen, behind_back, behind_there, last_back, word_at_back, word_at_there}
use Rattle.td_script.proofs.WordLaws.{with_rest_back}

-- ---- what is left of a line

pub ended : (xs rest : List ℕ) → rest ≡ [] → xs ++ rest ≡ xs
ended xs rest e = ap (λ (ys : List ℕ). xs ++ ys) e ∙ append-nil xs

-- the digits of a number are UTF-8
pub decimal_utf8 : (n : ℕ) → n < 10 ^ 9 → IsUtf8 (decimal n)
decimal_utf8 n small =
    IsUtf8-from_ascii (decimal n) (IsAscii-from_all (decimal n) (λ i d inside.
    let digit : IsInRange 48 57 (get_or (decimal n) i 0) = (form_of_decimal n small).digits i inside in
    let same : get_or (decimal n) i d ≡ get_or (decimal n) i 0 = get_or_default (decimal n) i d 0 inside in
    omega arith))

pub spaced_utf8 : (n : ℕ) → n < 10 ^ 9 → IsUtf8 (spaced n)
spaced_utf8 n small = IsUtf8-append (32 ∷ []) (decimal n)
    (IsUtf8-from_ascii (32 ∷ []) (IsAscii-cons 32 [] (omega arith) IsAscii-nil)) (decimal_utf8 n small)

-- what stands behind lacks the byte too
pub lacks_behind : (at : ℕ) (front back : List ℕ) → Lacks at (front ++ back) → Lacks at back
lacks_behind at [] back h = h
lacks_behind at (b ∷ front) back h = lacks_behind at front back (All-tail (λ (byte : ℕ). byte ≢ at) b (front ++ back) h)

-- a word that is one of the fixed ones
pub fixed_word : (rest word left : List ℕ) (name : List ℕ) → rest ≡ 32 ∷ (word ++ left) → bytes_eq word name ≡ true
    → left ≡ [] → rest ≡ 32 ∷ name
fixed_word rest word left name whole is none = whole
    ∙ ap (λ (xs : List ℕ). 32 ∷ xs) (ended word left none ∙ (bytes_eq-Decides word name).0 is)

-- ---- what was read

-- arguments that were read to the end of the line
pub record AreRead {V : Type 0} (written : V → List ℕ) (Fits : V → Type 0) (rest : List ℕ) (value : V) : Type 0 where
  pub fits : Fits value
  pub whole : rest ≡ written value

pub mapped_back : {V W : Type 0} (make : V → W) (r : Result V Kind) (w : W) → mapped make r ≡ Ok w
    → (v : V) × (r ≡ Ok v) × (make v ≡ w)
mapped_back make (Ok v) w e = (v, refl, ok_same (make v) w e)
mapped_back make (Err kind) w e = absurd (err_is_no_ok kind w e)

pub mapped_there : {V W : Type 0} (make : V → W) (r : Result V Kind) (v : V) → r ≡ Ok v → mapped make r ≡ Ok (make v)
mapped_there make r v e = ap (mapped make) e

abbrev pub spaced_index_and_text : ℕ × List (List ℕ) → List ℕ
spaced_index_and_text asked = spaced asked.0 ++ spaced_text asked.1

abbrev pub AreIndexAndText : ℕ × List (List ℕ) → Type 0
AreIndexAndText asked = IsNumber asked.0 × IsClusters asked.1

pub index_and_text_back : (rest : List ℕ) (asked : ℕ × List (List ℕ)) → IsUtf8 rest → Lacks 10 rest
    → index_and_text rest ≡ Ok asked → AreRead spaced_index_and_text AreIndexAndText rest asked
index_and_text_back rest asked u lacks e =
    let first = behind_back (by_word number_of rest) _ asked e in
    let index = number_at_back rest first.value first.rest first.is in
    let second = behind_back (text_at first.rest) _ asked first.then_is in
    let text = text_at_back first.rest second.value second.rest
    (IsUtf8-after rest (spaced first.value) first.rest u (spaced_utf8 first.value index.fits) index.whole)
    (lacks_behind 10 (spaced first.value) first.rest (subst (Lacks 10) index.whole lacks)) second.is in
    let end = last_back (first.value, second.value) asked second.rest second.then_is in
    let whole : rest ≡ spaced first.value ++ spaced_text second.value = index.whole
    ∙ ap (λ (xs : List ℕ). spaced first.value ++ xs)
    (text.whole ∙ ended (spaced_text second.value) second.rest end.1) in
    subst (AreRead spaced_index_and_text AreIndexAndText rest) end.0
    (record { fits = (index.fits, text.fits); whole = whole })

abbrev pub spaced_two : ℕ × ℕ → List ℕ
spaced_two asked = spaced asked.0 ++ spaced asked.1

abbrev pub AreNumbers : ℕ × ℕ → Type 0
AreNumbers asked = IsNumber asked.0 × IsNumber asked.1

pub two_numbers_back : (rest : List ℕ) (asked : ℕ × ℕ) → two_numbers rest ≡ Ok asked
    → AreRead spaced_two AreNumbers rest asked
two_numbers_back rest asked e =
    let first = behind_back (by_word number_of rest) _ asked e in
    let one = number_at_back rest first.value first.rest first.is in
    let second = behind_back (by_word number_of first.rest) _ asked first.then_is in
    let two = number_at_back first.rest second.value second.rest second.is in
    let end = last_back (first.value, second.value) asked second.rest second.then_is in
    let whole : rest ≡ spaced first.value ++ spaced second.value = one.whole
    ∙ ap (λ (xs : List ℕ). spaced first.value ++ xs) (two.whole ∙ ended (spaced second.value) second.rest end.1) in
    subst (AreRead spaced_two AreNumbers rest) end.0 (record { fits = (one.fits, two.fits); whole = whole })

beside_back : (rest word left : List ℕ) (place : Place) → rest ≡ 32 ∷ (word ++ left)
    → place_beside word left ≡ Ok place → AreRead spaced_place IsPlace rest place
beside_back rest word left place begins e =
    let first = behind_back (with_rest left (number_of word)) _ place e in
    let got = with_rest_back left first.rest (number_of word) first.value first.is in
    let index = number_back word first.value got.0 in
    let second = behind_back (by_word bit_of first.rest) _ place first.then_is in
    let bit = bit_at_back first.rest second.value second.rest second.is in
    let end = last_back (Beside first.value second.value) place second.rest second.then_is in
    let whole : rest ≡ spaced first.value ++ spaced_bit second.value =
    begins ∙ ap (λ (xs : List ℕ). 32 ∷ (xs ++ left)) index.1
    ∙ ap (λ (xs : List ℕ). spaced first.value ++ xs)
    (got.1 ∙ bit.whole ∙ ended (spaced_bit second.value) second.rest end.1) in
    subst (AreRead spaced_place IsPlace rest) end.0 (record { fits = index.0; whole = whole })

place_word_back : (rest word left : List ℕ) (place : Place) (x : Bool) → rest ≡ 32 ∷ (word ++ left)
    → bytes_eq word (codes "root") ≡ x
    → cond {A = Result Place Kind} x (last Root left) (place_beside word left) ≡ Ok place
    → AreRead spaced_place IsPlace rest place
place_word_back rest word left place true begins is e =
    let end = last_back Root place left e in
    subst (AreRead spaced_place IsPlace rest) end.0
    (record { fits = tt; whole = fixed_word rest word left (codes "root") begins is end.1 })
place_word_back rest word left place false begins is e = beside_back rest word left place begins e

pub place_of_back : (rest word left : List ℕ) (place : Place) → rest ≡ 32 ∷ (word ++ left)
    → place_of word left ≡ Ok place → AreRead spaced_place IsPlace rest place
place_of_back rest word left place begins e =
    place_word_back rest word left place (bytes_eq word (codes "root")) begins refl e

pub place_back : (rest : List ℕ) (place : Place) → place_at rest ≡ Ok place → AreRead spaced_place IsPlace rest place
place_back rest place e =
    let first = behind_back (word_at rest) place_of place e in
    let spaced_word = word_at_back rest first.value first.rest first.is in
    place_of_back rest first.value first.rest place spaced_word.whole first.then_is

pub proposal_back : (sites : ℕ) (rest : List ℕ) (proposal : DotValue) → proposal_at sites rest ≡ Ok proposal
    → AreRead spaced_dot (IsDotOf sites) rest proposal
proposal_back sites rest proposal e =
    let first = behind_back (by_word (dot_of sites) rest) _ proposal e in
    let dot = dot_at_back sites rest first.value first.rest first.is in
    let end = last_back first.value proposal first.rest first.then_is in
    let whole : rest ≡ spaced_dot first.value = dot.whole ∙ ended (spaced_dot first.value) first.rest end.1 in
    subst (AreRead spaced_dot (IsDotOf sites) rest) end.0 (record { fits = dot.fits; whole = whole })

-- a number of sites that a script of so many bytes may have
pub record IsSitesFor (size n : ℕ) : Type 0 where
  pub range : IsSiteOf MAX_SITE n
  pub narrow : is_too_wide size n ≡ false

pub sites_back : (size : ℕ) (rest : List ℕ) (n : ℕ) → sites_at size rest ≡ Ok n
    → AreRead spaced (IsSitesFor size) rest n
sites_back size rest n e =
    let first = behind_back (by_word sites_of rest) _ n e in
    let sites = sites_at_back rest first.value first.rest first.is in
    at_test first.value first.rest sites.fits sites.whole (is_too_wide size first.value) refl first.then_is
  where
    at_test : (m : ℕ) (left : List ℕ) → IsSiteOf MAX_SITE m → rest ≡ spaced m ++ left → (wide : Bool)
        → is_too_wide size m ≡ wide → cond {A = Result ℕ Kind} wide (Err Fault.Size) (last m left) ≡ Ok n
        → AreRead spaced (IsSitesFor size) rest n
    at_test m left fits whole true h e = absurd (err_is_no_ok Fault.Size n e)
    at_test m left fits whole false h e =
        let end = last_back m n left e in
        subst (AreRead spaced (IsSitesFor size) rest) end.0
        (record { fits = record { range = fits; narrow = h }; whole = whole ∙ ended (spaced m) left end.1 })

-- ---- what is written

-- an argument that stands last
pub number_end : (n : ℕ) → IsNumber n → by_word number_of (spaced n) ≡ Ok (n, [])
number_end n h = ap (by_word number_of) (sym (append-nil (spaced n))) ∙ number_at_there n [] h tt

-- a number is none of the fixed words
pub not_name : (n : ℕ) (name : List ℕ) → IsNumber n → number_of name ≡ Err Fault.Number
    → bytes_eq (decimal n) name ≡ false
not_name n name small none =
    false_from_ne_true (bytes_eq (decimal n) name) (λ (e : bytes_eq (decimal n) name ≡ true).
    err_is_no_ok Fault.Number n (sym none ∙ ap number_of (sym ((bytes_eq-Decides (decimal n) name).0 e))
    ∙ number_of_decimal n small))

pub index_and_text_there : (index : ℕ) (atoms : List (List ℕ)) → IsNumber index → IsClusters atoms
    → index_and_text (spaced index ++ spaced_text atoms) ≡ Ok (index, atoms)
index_and_text_there index atoms h text =
    behind_there _ _ index (spaced_text atoms) (number_at_there index (spaced_text atoms) h refl)
    ∙ behind_there _ _ atoms [] (ap text_at (sym (append-nil (spaced_text atoms))) ∙ text_at_there atoms [] text)

pub two_numbers_there : (one two : ℕ) → IsNumber one → IsNumber two
    → two_numbers (spaced one ++ spaced two) ≡ Ok (one, two)
two_numbers_there one two h k = behind_there _ _ one (spaced two) (number_at_there one (spaced two) h refl)
    ∙ behind_there _ _ two [] (number_end two k)

bit_end : (bit : Bit) → by_word bit_of (spaced_bit bit) ≡ Ok (bit, [])
bit_end bit = ap (by_word bit_of) (sym (append-nil (spaced_bit bit))) ∙ bit_at_there bit [] tt

pub bit_open : (bit : Bit) → IsOpen (spaced_bit bit)
bit_open Left = refl
bit_open Right = refl

beside_there : (index : ℕ) (bit : Bit) → IsNumber index
    → place_beside (decimal index) (spaced_bit bit) ≡ Ok (Beside index bit)
beside_there index bit h = behind_there _ _ index (spaced_bit bit)
    (ap (with_rest (spaced_bit bit)) (number_of_decimal index h)) ∙ behind_there _ _ bit [] (bit_end bit)

pub place_of_there : (index : ℕ) (bit : Bit) → IsNumber index
    → place_of (decimal index) (spaced_bit bit) ≡ Ok (Beside index bit)
place_of_there index bit h =
    cond-false {A = Result Place Kind} (bytes_eq (decimal index) (codes "root")) (last Root (spaced_bit bit))
    (place_beside (decimal index) (spaced_bit bit)) (not_name index (codes "root") h refl)
    ∙ beside_there index bit h

pub place_there : (place : Place) → IsPlace place → place_at (spaced_place place) ≡ Ok place
place_there Root h = refl
place_there (Beside index bit) h =
    behind_there _ place_of (decimal index) (spaced_bit bit)
    (word_at_there (decimal index) (spaced_bit bit) (form_of_decimal index h).some
    (decimal_lacks 32 index h (omega arith)) (bit_open bit))
    ∙ place_of_there index bit h

pub place_open : (place : Place) → IsOpen (spaced_place place)
place_open Root = refl
place_open (Beside index bit) = refl

pub proposal_there : (sites : ℕ) (d : DotValue) → sites ≤ MAX_SITE → IsDotOf sites d
    → proposal_at sites (spaced_dot d) ≡ Ok d
proposal_there sites d few h =
    behind_there _ _ d []
    (ap (by_word (dot_of sites)) (sym (append-nil (spaced_dot d))) ∙ dot_at_there sites d [] few h tt)

pub sites_there : (size n : ℕ) → IsSitesFor size n → sites_at size (spaced n) ≡ Ok n
sites_there size n h =
    ap (sites_at size) (sym (append-nil (spaced n)))
    ∙ behind_there _ (λ n rest. cond {A = Result ℕ Kind} (is_too_wide size n) (Err Fault.Size)
    (last n rest)) n [] (sites_at_there n [] h.range tt)
    ∙ cond-false {A = Result ℕ Kind} (is_too_wide size n) (Err Fault.Size) (Ok n) h.narrow
