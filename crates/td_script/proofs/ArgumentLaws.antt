-- Each argument: its spelling is read as its value, and what is read is its spelling.
use Rattle.std.proofs.Common.{◌≡◌, ◌≢◌, ◌<◌, ◌≤◌, ◌^◌, ℕ, Bool, true, false, cond, eqb, List, [], ◌∷◌, ◌++◌}
use Rattle.std.proofs.Common.{get_or, codes, Option, Some, None, Result, Ok, Err, refl, ap, subst, ◌∙◌, bytes_eq, ltb}
use Rattle.std.proofs.Common.{length-append, arith}
use Rattle.std.specs.Fmt.{decimal}
use Rattle.std.specs.Int.{is_in_range, IsInRange}
use Rattle.std.proofs.lemmas.Option.{none-some, same_Some}
use Rattle.std.proofs.lemmas.Bool.{eqb-true, ltb-true, lt-ltb}
use Rattle.std.proofs.lemmas.List.{get_or_default}
use Rattle.std.proofs.lemmas.List.Elements.{All-append}
use Rattle.std.proofs.lemmas.Slice.Eq.{bytes_eq-Decides}
use Rattle.td_base.specs.Value.{DotValue}
use Rattle.td_base.specs.declared.bit.Bit.{Bit}
use Rattle.td_base.specs.declared.bit.Bit.TheVariants.{Left, Right}
use Rattle.td_base.specs.declared.dot.TheConstants.{MAX_SEQ}
use Rattle.td_base.specs.declared.site.TheConstants.{MAX_SITE}
use Rattle.td_marks.specs.declared.mark_op.TheConstants.{NAMES}
use Rattle.td_script.specs.declared.kind.Kind.{Kind}
use Rattle.td_script.specs.declared.kind.Kind.TheVariants as Fault
use Rattle.td_script.specs.Arguments.{tested, by_word, name_of, number_of, site_of, sites_of, dot_of, dot_of_parts}
use Rattle.td_script.specs.Arguments.{dot_of_numbers, cut_dot, onto_part, bit_of}
use Rattle.td_script.specs.Script.{IsNumber, IsSiteOf, IsDotOf}
use Rattle.td_script.specs.Spelling.{spaced, spaced_dot, spaced_bit}
use Rattle.td_script.proofs.Cutting.{dot_cut}
use Rattle.td_script.proofs.Numbers.{form_of_decimal}
use Rattle.td_script.proofs.NumberWords.{number_there, number_back}
use Rattle.td_script.proofs.Results.{ok_same, err_is_no_ok, tested_in, in_range, range_in, dot_of_both}
use Rattle.td_script.proofs.Splitting.{Lacks, lacks_by_test}
use Rattle.td_script.proofs.WordLaws.{IsOpen, IsWord, by_word_there, by_word_back}

-- a number has no byte but its digits
pub decimal_lacks : (at n : ℕ) → n < 10 ^ 9 → at < 48 → Lacks at (decimal n)
decimal_lacks at n h low = λ k d inside e.
    let same : get_or (decimal n) k d ≡ get_or (decimal n) k 0 = get_or_default (decimal n) k d 0 inside in
    let digit : IsInRange 48 57 (get_or (decimal n) k 0) = (form_of_decimal n h).digits k inside in
    omega arith

-- an argument that was read is its spelling, and fits
pub record IsArgument {V : Type 0} (written : V → List ℕ) (Fits : V → Type 0) (bytes : List ℕ) (value : V)
    (rest : List ℕ) : Type 0 where
  pub fits : Fits value
  pub whole : bytes ≡ written value ++ rest
  pub free : IsOpen rest

-- what is tested
tested_back : {V : Type 0} (test : V → Bool) (kind : Kind) (r : Result V Kind) (v : V) → tested test kind r ≡ Ok v
    → (r ≡ Ok v) × (test v ≡ true)
tested_back {V = V} test kind (Ok got) v e = at_test (test got) refl e
  where
    at_test : (passes : Bool) → test got ≡ passes → cond {A = Result V Kind} passes (Ok got) (Err kind) ≡ Ok v
        → (◌≡◌ {A = Result V Kind} (Ok got) (Ok v)) × (test v ≡ true)
    at_test true h e = (e, subst (λ (x : V). test x ≡ true) (ok_same got v e) h)
    at_test false h e = absurd (err_is_no_ok kind v e)
tested_back test kind (Err other) v e = absurd (err_is_no_ok other v e)

number_word_there : {V : Type 0} (read : List ℕ → Result V Kind) (n : ℕ) (value : V) (rest : List ℕ) → IsNumber n
    → IsOpen rest → read (decimal n) ≡ Ok value → by_word read (spaced n ++ rest) ≡ Ok (value, rest)
number_word_there read n value rest small free e =
    by_word_there read (decimal n) rest value (form_of_decimal n small).some
    (decimal_lacks 32 n small (omega arith)) free e

pub number_of_decimal : (n : ℕ) → IsNumber n → number_of (decimal n) ≡ Ok n
number_of_decimal n small = number_there n (decimal n) small refl

spaced_word : {V : Type 0} {read : List ℕ → Result V Kind} {bytes : List ℕ} {value : V} {rest : List ℕ} (n : ℕ)
    (is : IsWord read bytes value rest) → is.word ≡ decimal n → bytes ≡ spaced n ++ rest
spaced_word {rest = rest} n is e = is.whole ∙ ap (λ (word : List ℕ). 32 ∷ (word ++ rest)) e

-- a number
pub number_at_there : (n : ℕ) (rest : List ℕ) → IsNumber n → IsOpen rest
    → by_word number_of (spaced n ++ rest) ≡ Ok (n, rest)
number_at_there n rest small free = number_word_there number_of n n rest small free (number_of_decimal n small)

pub number_at_back : (bytes : List ℕ) (n : ℕ) (rest : List ℕ) → by_word number_of bytes ≡ Ok (n, rest)
    → IsArgument spaced IsNumber bytes n rest
number_at_back bytes n rest e =
    let is = by_word_back number_of bytes n rest e in
    let number = number_back is.word n is.is in
    record { fits = number.0; whole = spaced_word n is number.1; free = is.free }

-- a number that passes a test
pub tested_at_there : (test : ℕ → Bool) (kind : Kind) (n : ℕ) (rest : List ℕ) → IsNumber n → test n ≡ true → IsOpen rest
    → by_word (λ word. tested test kind (number_of word)) (spaced n ++ rest) ≡ Ok (n, rest)
tested_at_there test kind n rest small passes free =
    number_word_there (λ word. tested test kind (number_of word)) n n rest small free
    (tested_in test kind (number_of (decimal n)) n (number_of_decimal n small) passes)

pub tested_at_back : (test : ℕ → Bool) (kind : Kind) (Fits : ℕ → Type 0) → ((n : ℕ) → test n ≡ true → Fits n)
    → (bytes : List ℕ) (n : ℕ) (rest : List ℕ)
    → by_word (λ word. tested test kind (number_of word)) bytes ≡ Ok (n, rest) → IsArgument spaced Fits bytes n rest
tested_at_back test kind Fits fits bytes n rest e =
    let is = by_word_back (λ word. tested test kind (number_of word)) bytes n rest e in
    let got = tested_back test kind (number_of is.word) n is.is in
    record { fits = fits n got.1; whole = spaced_word n is (number_back is.word n got.0).1; free = is.free }

-- a site
pub site_at_there : (sites n : ℕ) (rest : List ℕ) → sites ≤ MAX_SITE → IsSiteOf sites n → IsOpen rest
    → by_word (site_of sites) (spaced n ++ rest) ≡ Ok (n, rest)
site_at_there sites n rest few h free = tested_at_there (is_in_range 1 sites) Fault.Site n rest (omega (arith, h.1))
    (in_range 1 sites n h) free

pub site_at_back : (sites : ℕ) (bytes : List ℕ) (n : ℕ) (rest : List ℕ) → by_word (site_of sites) bytes ≡ Ok (n, rest)
    → IsArgument spaced (IsSiteOf sites) bytes n rest
site_at_back sites bytes n rest e = tested_at_back (is_in_range 1 sites) Fault.Site (IsSiteOf sites)
    (range_in 1 sites) bytes n rest e

-- how many sites there are
pub sites_at_there : (n : ℕ) (rest : List ℕ) → IsSiteOf MAX_SITE n → IsOpen rest
    → by_word sites_of (spaced n ++ rest) ≡ Ok (n, rest)
sites_at_there n rest h free = tested_at_there (is_in_range 1 MAX_SITE) Fault.Sites n rest (omega (arith, h.1))
    (in_range 1 MAX_SITE n h) free

pub sites_at_back : (bytes : List ℕ) (n : ℕ) (rest : List ℕ) → by_word sites_of bytes ≡ Ok (n, rest)
    → IsArgument spaced (IsSiteOf MAX_SITE) bytes n rest
sites_at_back bytes n rest e = tested_at_back (is_in_range 1 MAX_SITE) Fault.Sites (IsSiteOf MAX_SITE)
    (range_in 1 MAX_SITE) bytes n rest e

-- the name of a mark
pub name_at_there : (name : ℕ) (rest : List ℕ) → name < NAMES → IsOpen rest
    → by_word name_of (spaced name ++ rest) ≡ Ok (name, rest)
name_at_there name rest h free = tested_at_there (λ n. ltb n NAMES) Fault.Number name rest (omega (arith, h))
    (lt-ltb name NAMES h) free

pub name_at_back : (bytes : List ℕ) (name : ℕ) (rest : List ℕ) → by_word name_of bytes ≡ Ok (name, rest)
    → IsArgument spaced (λ n. n < NAMES) bytes name rest
name_at_back bytes name rest e = tested_at_back (λ n. ltb n NAMES) Fault.Number (λ n. n < NAMES)
    (λ n. ltb-true n NAMES) bytes name rest e

-- a dot
pub dot_at_there : (sites : ℕ) (d : DotValue) (rest : List ℕ) → sites ≤ MAX_SITE → IsDotOf sites d → IsOpen rest
    → by_word (dot_of sites) (spaced_dot d ++ rest) ≡ Ok (d, rest)
dot_at_there sites d rest few h free =
    let site_small : d.site < 10 ^ 9 = omega (arith, h.0.1) in
    let seq_small : d.seq < 10 ^ 9 = omega (arith, h.1.1) in
    let lacks : Lacks 32 (decimal d.site ++ 46 ∷ decimal d.seq) =
    All-append (λ (byte : ℕ). byte ≢ 32) (decimal d.site) (46 ∷ decimal d.seq)
    (decimal_lacks 32 d.site site_small (omega arith))
    (All-append (λ (byte : ℕ). byte ≢ 32) (46 ∷ []) (decimal d.seq) (lacks_by_test 32 (46 ∷ []) refl)
    (decimal_lacks 32 d.seq seq_small (omega arith))) in
    let cut : cut_dot (decimal d.site ++ 46 ∷ decimal d.seq) ≡ Some (decimal d.site, decimal d.seq) =
    dot_cut (decimal d.site) (decimal d.seq) (decimal_lacks 46 d.site site_small (omega arith)) in
    let site : site_of sites (decimal d.site) ≡ Ok d.site =
    tested_in (is_in_range 1 sites) Fault.Site (number_of (decimal d.site)) d.site (number_of_decimal d.site site_small)
    (in_range 1 sites d.site h.0) in
    let is : dot_of sites (decimal d.site ++ 46 ∷ decimal d.seq) ≡ Ok d =
    ap (dot_of_parts sites) cut ∙ dot_of_both (site_of sites (decimal d.site))
    (number_of (decimal d.seq)) d.site d.seq site (number_of_decimal d.seq seq_small) h.1 in
    by_word_there (dot_of sites) (decimal d.site ++ 46 ∷ decimal d.seq) rest d
    (omega (arith, length-append (decimal d.site) (46 ∷ decimal d.seq), (form_of_decimal d.site site_small).some)) lacks
    free is

cut_dot_back : (bs front back : List ℕ) → cut_dot bs ≡ Some (front, back) → bs ≡ front ++ 46 ∷ back
cut_dot_back [] front back e = absurd (none-some (front, back) e)
cut_dot_back (b ∷ bs) front back e = at_point (eqb b 46) refl (cut_dot bs)
    (λ front back h. cut_dot_back bs front back h) e
  where
    at_point : (is : Bool) → eqb b 46 ≡ is → (o : Option (List ℕ × List ℕ))
        → ((front back : List ℕ) → o ≡ Some (front, back) → bs ≡ front ++ 46 ∷ back)
        → cond is (Some ([], bs)) (onto_part b o) ≡ Some (front, back) → b ∷ bs ≡ front ++ 46 ∷ back
    at_point true h o ih e =
        let same : ([], bs) ≡ (front, back) = same_Some ([], bs) (front, back) e in
        ap (λ (x : ℕ). x ∷ bs) (eqb-true b 46 h) ∙ ap (λ (x : List ℕ × List ℕ). x.0 ++ 46 ∷ x.1) same
    at_point false h (Some cut) ih e =
        let same : (b ∷ cut.0, cut.1) ≡ (front, back) = same_Some (b ∷ cut.0, cut.1) (front, back) e in
        ap (λ (xs : List ℕ). b ∷ xs) (ih cut.0 cut.1 refl) ∙ ap (λ (x : List ℕ × List ℕ). x.0 ++ 46 ∷ x.1) same
    at_point false h None ih e = absurd (none-some (front, back) e)

-- the numbers of a dot that was read
record HasNumbers (r s : Result ℕ Kind) (d : DotValue) : Type 0 where
  site : r ≡ Ok d.site
  seq : s ≡ Ok d.seq
  range : IsInRange 1 MAX_SEQ d.seq

numbers_back : (r s : Result ℕ Kind) (d : DotValue) → dot_of_numbers r s ≡ Ok d → HasNumbers r s d
numbers_back (Ok site) (Ok seq) d e = at_test (is_in_range 1 MAX_SEQ seq) refl e
  where
    at_test : (passes : Bool) → is_in_range 1 MAX_SEQ seq ≡ passes
        → cond {A = Result DotValue Kind} passes (Ok (record { site = site; seq = seq })) (Err Fault.Dot) ≡ Ok d
        → HasNumbers (Ok site) (Ok seq) d
    at_test true h e =
        subst (HasNumbers (Ok site) (Ok seq)) (ok_same (record { site = site; seq = seq }) d e)
        (record { site = refl; seq = refl; range = range_in 1 MAX_SEQ seq h })
    at_test false h e = absurd (err_is_no_ok Fault.Dot d e)
numbers_back (Ok site) (Err kind) d e = absurd (err_is_no_ok Fault.Dot d e)
numbers_back (Err kind) s d e = absurd (err_is_no_ok Fault.Dot d e)

dot_back : (sites : ℕ) (word : List ℕ) (d : DotValue) (o : Option (List ℕ × List ℕ)) → cut_dot word ≡ o
    → dot_of_parts sites o ≡ Ok d → IsDotOf sites d × (word ≡ decimal d.site ++ 46 ∷ decimal d.seq)
dot_back sites word d None h e = absurd (err_is_no_ok Fault.Dot d e)
dot_back sites word d (Some cut) h e =
    let numbers = numbers_back (site_of sites cut.0) (number_of cut.1) d e in
    let site = tested_back (is_in_range 1 sites) Fault.Site (number_of cut.0) d.site numbers.site in
    let front : cut.0 ≡ decimal d.site = (number_back cut.0 d.site site.0).1 in
    let back : cut.1 ≡ decimal d.seq = (number_back cut.1 d.seq numbers.seq).1 in (
      (range_in 1 sites d.site site.1, numbers.range),
      cut_dot_back word cut.0 cut.1 h ∙ ap (λ (xs : List ℕ). xs ++ 46 ∷ cut.1) front
          ∙ ap (λ (xs : List ℕ). decimal d.site ++ 46 ∷ xs) back,
    )

pub dot_at_back : (sites : ℕ) (bytes : List ℕ) (d : DotValue) (rest : List ℕ)
    → by_word (dot_of sites) bytes ≡ Ok (d, rest) → IsArgument spaced_dot (IsDotOf sites) bytes d rest
dot_at_back sites bytes d rest e =
    let is = by_word_back (dot_of sites) bytes d rest e in
    let got = dot_back sites is.word d (cut_dot is.word) refl is.is in
    record { fits = got.0; whole = is.whole ∙ ap (λ (word : List ℕ). 32 ∷ (word ++ rest)) got.1; free = is.free }

-- a bit
pub bit_at_there : (bit : Bit) (rest : List ℕ) → IsOpen rest → by_word bit_of (spaced_bit bit ++ rest) ≡ Ok (bit, rest)
bit_at_there Left rest free = by_word_there bit_of (codes "left") rest Left (omega arith)
    (lacks_by_test 32 (codes "left") refl) free refl
bit_at_there Right rest free = by_word_there bit_of (codes "right") rest Right (omega arith)
    (lacks_by_test 32 (codes "right") refl) free refl

bit_back : (word : List ℕ) (bit : Bit) (x y : Bool) → bytes_eq word (codes "left") ≡ x
    → bytes_eq word (codes "right") ≡ y
    → cond {A = Result Bit Kind} x (Ok Left) (cond {A = Result Bit Kind} y (Ok Right) (Err Fault.Word)) ≡ Ok bit
    → 32 ∷ word ≡ spaced_bit bit
bit_back word bit true y h g e = ap (λ (xs : List ℕ). 32 ∷ xs) ((bytes_eq-Decides word (codes "left")).0 h)
    ∙ ap spaced_bit (ok_same Left bit e)
bit_back word bit false true h g e = ap (λ (xs : List ℕ). 32 ∷ xs) ((bytes_eq-Decides word (codes "right")).0 g)
    ∙ ap spaced_bit (ok_same Right bit e)
bit_back word bit false false h g e = absurd (err_is_no_ok Fault.Word bit e)

pub bit_at_back : (bytes : List ℕ) (bit : Bit) (rest : List ℕ) → by_word bit_of bytes ≡ Ok (bit, rest)
    → IsArgument spaced_bit (λ _. Unit {0}) bytes bit rest
bit_at_back bytes bit rest e =
    let is = by_word_back bit_of bytes bit rest e in
    record {
      fits = tt;
      whole = is.whole ∙ ap (λ (xs : List ℕ). xs ++ rest)
          (bit_back is.word bit (bytes_eq is.word (codes "left")) (bytes_eq is.word (codes "right")) refl refl is.is);
      free = is.free;
    }
