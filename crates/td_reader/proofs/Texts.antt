-- Texts in their quotes: what is written is read, and what is read is what is written of its value.
use Rattle.std.proofs.Common.{◌≡◌, ◌≢◌, ◌<◌, ◌+◌, ℕ, zero, suc, Bool, true, false, not, cond, eqb, ◌&&◌}
use Rattle.std.proofs.Common.{◌||◌, List, [], ◌∷◌, ◌++◌, length, get_or, take, drop, Option, Some, None, refl, sym}
use Rattle.std.proofs.Common.{ap, subst, ◌∙◌, append_assoc, length-append, arith, true≢false}
use Rattle.std.specs.List.{flat_map}
use Rattle.std.specs.Str.{IsUtf8, is_utf8}
use Rattle.std.proofs.lemmas.Bool.{cond-true, cond-false, eq-eqb, eqb-true, ne_eqb, false≢true}
use Rattle.std.proofs.lemmas.Bool.{false_from_ne_true}
use Rattle.std.proofs.lemmas.List.{length-take-le}
use Rattle.std.proofs.lemmas.Option.{none-some, same_Some, some_pair_parts, cond_some}
use Rattle.std.proofs.lemmas.Str.{IsUtf8-append, IsUtf8-from_is_utf8, is_utf8-from_IsUtf8}
use Rattle.td_script.specs.Texts.{escaped}
use Rattle.td_script.proofs.LineLaws.{ascii_by_test}
use Rattle.td_script.proofs.TextWords.{unquoted_there, unquoted_utf8, written_utf8}
use Rattle.td_reader.specs.Arguments.{onto_raw, byte_then, turned, is_escape, raw_at, plain}
use Rattle.td_reader.specs.Arguments.{plain_read, text_at, IsRaw}
use Rattle.td_reader.specs.Reading.{Reading}

-- bytes that were read before what is read from here on
abbrev pub behind_raw : List ℕ → Reading (List ℕ) → Reading (List ℕ)
behind_raw front (Some read) = Some (front ++ read.0, read.1)
behind_raw front None = None

-- ---- what is written is read

raw_onto : (byte : ℕ) (o : Reading (List ℕ)) (raw rest : List ℕ) → o ≡ Some (raw, rest) → onto_raw byte o ≡ Some
    (byte ∷ raw, rest)
raw_onto byte o raw rest e = ap (onto_raw byte) e

escaped_at : (b : ℕ) (x y z : Bool) → eqb b 34 ≡ x → eqb b 92 ≡ y → eqb b 10 ≡ z → (bytes raw rest : List ℕ)
    → raw_at false bytes ≡ Some (raw, rest)
    → raw_at false (cond x (92 ∷ 34 ∷ []) (cond y (92 ∷ 92 ∷ []) (cond z (92 ∷ 110 ∷ []) (b ∷ []))) ++ bytes)
    ≡ Some (cond x (92 ∷ 34 ∷ []) (cond y (92 ∷ 92 ∷ []) (cond z (92 ∷ 110 ∷ []) (b ∷ []))) ++ raw, rest)
escaped_at b true y z e f g bytes raw rest h = ap (λ o. onto_raw 92 (onto_raw 34 o)) h
escaped_at b false true z e f g bytes raw rest h = ap (λ o. onto_raw 92 (onto_raw 92 o)) h
escaped_at b false false true e f g bytes raw rest h = ap (λ o. onto_raw 92 (onto_raw 110 o)) h
escaped_at b false false false e f g bytes raw rest h =
    cond-false (eqb b 34) (Some ([], bytes)) (byte_then b (turned false b) (λ s. raw_at s bytes)) e
    ∙ ap (λ (o : Option Bool). byte_then b o (λ s. raw_at s bytes))
    (cond-false (eqb b 10) None (Some (eqb b 92)) g ∙ ap (λ (s : Bool). Some s) f)
    ∙ ap (onto_raw b) h

pub raw_there : (text rest : List ℕ) → raw_at false (flat_map escaped text ++ 34 ∷ rest) ≡ Some
    (flat_map escaped text, rest)
raw_there [] rest = refl
raw_there (b ∷ text) rest =
    ap (raw_at false) (append_assoc (escaped b) (flat_map escaped text) (34 ∷ rest))
    ∙ escaped_at b (eqb b 34) (eqb b 92) (eqb b 10) refl refl refl (flat_map escaped text ++ 34 ∷ rest)
    (flat_map escaped text) rest (raw_there text rest)

plain_at : (b : ℕ) (x y z : Bool) → eqb b 34 ≡ x → eqb b 92 ≡ y → eqb b 10 ≡ z → (raw : List ℕ)
    → plain false (cond x (92 ∷ 34 ∷ []) (cond y (92 ∷ 92 ∷ []) (cond z (92 ∷ 110 ∷ []) (b ∷ []))) ++ raw) ≡ b
    ∷ plain false raw
plain_at b true y z e f g raw = ap (λ (c : ℕ). c ∷ plain false raw) (sym (eqb-true b 34 e))
plain_at b false true z e f g raw = ap (λ (c : ℕ). c ∷ plain false raw) (sym (eqb-true b 92 f))
plain_at b false false true e f g raw = ap (λ (c : ℕ). c ∷ plain false raw) (sym (eqb-true b 10 g))
plain_at b false false false e f g raw = cond-false (eqb b 92) (plain true raw) (b ∷ plain false raw) f

pub plain_written : (text : List ℕ) → plain false (flat_map escaped text) ≡ text
plain_written [] = refl
plain_written (b ∷ text) =
    plain_at b (eqb b 34) (eqb b 92) (eqb b 10) refl refl refl (flat_map escaped text) ∙ ap (λ (t : List ℕ). b ∷ t)
    (plain_written text)

-- ---- what is read is what is written

-- with the backslash that stands in front of it
abbrev pub pending : Bool → List ℕ → List ℕ
pending true raw = 92 ∷ raw
pending false raw = raw

pub record IsCutRaw (is_escaped : Bool) (bytes raw rest : List ℕ) : Type 0 where
  pub whole : bytes ≡ raw ++ 34 ∷ rest
  pub written : pending is_escaped raw ≡ flat_map escaped (plain is_escaped raw)

plain_step : (b : ℕ) (x y z : Bool) → eqb b 34 ≡ x → eqb b 92 ≡ y → eqb b 10 ≡ z → x ≡ false → z ≡ false →
    (raw : List ℕ)
    → pending (eqb b 92) raw ≡ flat_map escaped (plain (eqb b 92) raw)
    → b ∷ raw ≡ flat_map escaped (cond (eqb b 92) (plain true raw) (b ∷ plain false raw))
plain_step b true y z e f g no_quote no_feed raw ih = absurd (true≢false no_quote)
plain_step b false y true e f g no_quote no_feed raw ih = absurd (true≢false no_feed)
plain_step b false true false e f g no_quote no_feed raw ih =
    subst (λ (s : Bool). b ∷ raw ≡ flat_map escaped (cond s (plain true raw) (b ∷ plain false raw))) (sym f)
    (ap (λ (c : ℕ). c ∷ raw) (eqb-true b 92 f) ∙ subst (λ (s : Bool). pending s raw ≡ flat_map escaped
    (plain s raw)) f ih)
plain_step b false false false e f g no_quote no_feed raw ih =
    let inner : raw ≡ flat_map escaped (plain false raw) = subst
    (λ (s : Bool). pending s raw ≡ flat_map escaped (plain s raw)) f ih in
    let one : escaped b ≡ b ∷ [] = (λ i. cond (e i) (92 ∷ 34 ∷ [])
    (cond (f i) (92 ∷ 92 ∷ []) (cond (g i) (92 ∷ 110 ∷ []) (b ∷ [])))) in
    subst (λ (s : Bool). b ∷ raw ≡ flat_map escaped (cond s (plain true raw) (b ∷ plain false raw))) (sym f)
    (ap (λ (t : List ℕ). b ∷ t) inner ∙ ap (λ (t : List ℕ). t ++ flat_map escaped (plain false raw)) (sym one))

turn_step : (b : ℕ) (x y z : Bool) → eqb b 34 ≡ x → eqb b 92 ≡ y → eqb b 110 ≡ z → (x || y || z) ≡ true →
    (raw : List ℕ)
    → raw ≡ flat_map escaped (plain false raw)
    → 92 ∷ b ∷ raw ≡ flat_map escaped (cond (eqb b 110) 10 b ∷ plain false raw)
turn_step b true y z e f g is raw ih =
    let same : b ≡ 34 = eqb-true b 34 e in
    subst (λ (c : ℕ). 92 ∷ c ∷ raw ≡ flat_map escaped (cond (eqb c 110) 10 c ∷ plain false raw)) (sym same)
    (ap (λ (t : List ℕ). 92 ∷ 34 ∷ t) ih)
turn_step b false true z e f g is raw ih =
    let same : b ≡ 92 = eqb-true b 92 f in
    subst (λ (c : ℕ). 92 ∷ c ∷ raw ≡ flat_map escaped (cond (eqb c 110) 10 c ∷ plain false raw)) (sym same)
    (ap (λ (t : List ℕ). 92 ∷ 92 ∷ t) ih)
turn_step b false false true e f g is raw ih =
    let same : b ≡ 110 = eqb-true b 110 g in
    subst (λ (c : ℕ). 92 ∷ c ∷ raw ≡ flat_map escaped (cond (eqb c 110) 10 c ∷ plain false raw)) (sym same)
    (ap (λ (t : List ℕ). 92 ∷ 110 ∷ t) ih)
turn_step b false false false e f g is raw ih = absurd (false≢true is)

written_step : (is_escaped next : Bool) (b : ℕ) (raw : List ℕ) → (not is_escaped && eqb b 34) ≡ false
    → turned is_escaped b ≡ Some next
    → pending next raw ≡ flat_map escaped (plain next raw)
    → pending is_escaped (b ∷ raw) ≡ flat_map escaped (plain is_escaped (b ∷ raw))
written_step false next b raw no_quote turns ih = at_feed (eqb b 10) refl turns
  where
    at_feed : (z : Bool) → eqb b 10 ≡ z → cond {A = Option Bool} z None (Some (eqb b 92)) ≡ Some next
        → b ∷ raw ≡ flat_map escaped (cond (eqb b 92) (plain true raw) (b ∷ plain false raw))
    at_feed true g t = absurd (none-some next t)
    at_feed false g t =
        let same : eqb b 92 ≡ next = same_Some (eqb b 92) next t in
        plain_step b (eqb b 34) (eqb b 92) (eqb b 10) refl refl refl no_quote g raw
        (subst (λ (s : Bool). pending s raw ≡ flat_map escaped (plain s raw)) (sym same) ih)
written_step true next b raw no_quote turns ih = at_escape (is_escape b) refl turns
  where
    at_escape : (z : Bool) → is_escape b ≡ z → cond {A = Option Bool} z (Some false) None ≡ Some next
        → 92 ∷ b ∷ raw ≡ flat_map escaped (cond (eqb b 110) 10 b ∷ plain false raw)
    at_escape true g t =
        turn_step b (eqb b 34) (eqb b 92) (eqb b 110) refl refl refl g raw
        (subst (λ (s : Bool). pending s raw ≡ flat_map escaped (plain s raw)) (sym (same_Some false next t)) ih)
    at_escape false g t = absurd (none-some next t)

raw_step : (is_escaped : Bool) (b : ℕ) (bs raw rest : List ℕ) (next : Option Bool) → turned is_escaped b ≡ next
    → (not is_escaped && eqb b 34) ≡ false
    → ((s : Bool) (raw rest : List ℕ) → raw_at s bs ≡ Some (raw, rest) → IsCutRaw s bs raw rest)
    → byte_then b next (λ s. raw_at s bs) ≡ Some (raw, rest) → IsCutRaw is_escaped (b ∷ bs) raw rest
raw_step is_escaped b bs raw rest None turns no_quote ih e = absurd (none-some (raw, rest) e)
raw_step is_escaped b bs raw rest (Some next) turns no_quote ih e = at_read (raw_at next bs) refl e
  where
    at_read : (o : Reading (List ℕ)) → raw_at next bs ≡ o → onto_raw b o ≡ Some (raw, rest) → IsCutRaw is_escaped
        (b ∷ bs) raw rest
    at_read None h e = absurd (none-some (raw, rest) e)
    at_read (Some read) h e =
        let inner : IsCutRaw next bs read.0 read.1 = ih next read.0 read.1 h in
        let same = some_pair_parts (b ∷ read.0) raw read.1 rest e in
        subst (λ (r : List ℕ). IsCutRaw is_escaped (b ∷ bs) r rest) same.0
        (subst (λ (r : List ℕ). IsCutRaw is_escaped (b ∷ bs) (b ∷ read.0) r) same.1 (record {
          whole = ap (λ (t : List ℕ). b ∷ t) inner.whole;
          written = written_step is_escaped next b read.0 no_quote turns inner.written;
        }))

pub raw_back : (is_escaped : Bool) (bs raw rest : List ℕ) → raw_at is_escaped bs ≡ Some (raw, rest)
    → IsCutRaw is_escaped bs raw rest
raw_back is_escaped [] raw rest e = absurd (none-some (raw, rest) e)
raw_back is_escaped (b ∷ bs) raw rest e = at_quote is_escaped (not is_escaped && eqb b 34) refl
    (λ s raw rest h. raw_back s bs raw rest h) e
  where
    ends : (s : Bool) → (not s && eqb b 34) ≡ true → [] ≡ raw → bs ≡ rest → IsCutRaw s (b ∷ bs) raw rest
    ends true h first last = absurd (false≢true h)
    ends false h first last =
        subst (λ (r : List ℕ). IsCutRaw false (b ∷ bs) r rest) first
        (record { whole = (λ i. eqb-true b 34 h i ∷ last i); written = refl })

    at_quote : (s z : Bool) → (not s && eqb b 34) ≡ z
        → ((s : Bool) (raw rest : List ℕ) → raw_at s bs ≡ Some (raw, rest) → IsCutRaw s bs raw rest)
        → cond z (Some ([], bs)) (byte_then b (turned s b) (λ s. raw_at s bs)) ≡ Some (raw, rest) → IsCutRaw s
        (b ∷ bs) raw rest
    at_quote s true h ih e = let same = some_pair_parts [] raw bs rest e in ends s h same.0 same.1
    at_quote s false h ih e = raw_step s b bs raw rest (turned s b) refl h ih e

-- ---- UTF-8

raw_utf8 : (text : List ℕ) → IsUtf8 (flat_map escaped text) → IsUtf8 text
raw_utf8 text u =
    unquoted_utf8 (flat_map escaped text ++ 34 ∷ []) text []
    (IsUtf8-append (flat_map escaped text) (34 ∷ []) u (ascii_by_test (34 ∷ []) refl)) (unquoted_there text [])

-- what was read as it stands, and is UTF-8
pub is_raw : (bs raw rest : List ℕ) → raw_at false bs ≡ Some (raw, rest) → IsUtf8 raw → IsRaw raw
is_raw bs raw rest e u =
    let back = raw_back false bs raw rest e in
    record { written = back.written; utf8 = raw_utf8 (plain false raw) (subst IsUtf8 back.written u) }

pub text_at_there : (text rest : List ℕ) → IsUtf8 text → text_at (flat_map escaped text ++ 34 ∷ rest) ≡ Some
    (text, rest)
unfolding text_at
text_at_there text rest u =
    ap plain_read (raw_there text rest)
    ∙ cond-true {A = Reading (List ℕ)} (is_utf8 (flat_map escaped text))
    (Some (plain false (flat_map escaped text), rest)) None
    (is_utf8-from_IsUtf8 (flat_map escaped text) (written_utf8 text u))
    ∙ ap (λ (t : List ℕ). Some (t, rest)) (plain_written text)

pub text_read : (bs raw rest : List ℕ) → raw_at false bs ≡ Some (raw, rest) → IsUtf8 raw → text_at bs ≡ Some
    (plain false raw, rest)
unfolding text_at
text_read bs raw rest e u =
    ap plain_read e ∙ cond-true {A = Reading (List ℕ)} (is_utf8 raw) (Some (plain false raw, rest)) None
    (is_utf8-from_IsUtf8 raw u)

pub no_text_read : (bs raw rest : List ℕ) → raw_at false bs ≡ Some (raw, rest) → ¬ IsUtf8 raw → text_at bs ≡ None
unfolding text_at
no_text_read bs raw rest e none =
    ap plain_read e ∙ cond-false {A = Reading (List ℕ)} (is_utf8 raw) (Some (plain false raw, rest)) None
    (false_from_ne_true (is_utf8 raw) (λ (h : is_utf8 raw ≡ true). none (IsUtf8-from_is_utf8 raw h)))

-- a text that was read
pub record IsText (bytes text rest : List ℕ) : Type 0 where
  pub fits : IsUtf8 text
  pub whole : bytes ≡ flat_map escaped text ++ 34 ∷ rest

pub text_at_back : (bytes text rest : List ℕ) → text_at bytes ≡ Some (text, rest) → IsText bytes text rest
unfolding text_at
text_at_back bytes text rest e = at_raw (raw_at false bytes) refl e
  where
    at_raw : (o : Reading (List ℕ)) → raw_at false bytes ≡ o → plain_read o ≡ Some (text, rest) → IsText bytes text rest
    at_raw None h e = absurd (none-some (text, rest) e)
    at_raw (Some read) h e =
        let got = cond_some (is_utf8 read.0) (plain false read.0, read.1) (text, rest) e in
        let cut = raw_back false bytes read.0 read.1 h in
        let raw = is_raw bytes read.0 read.1 h (IsUtf8-from_is_utf8 read.0 got.0) in
        subst (λ (x : List ℕ × List ℕ). IsText bytes x.0 x.1) got.1
        (record { fits = raw.utf8; whole = cut.whole ∙ ap (λ (r : List ℕ). r ++ 34 ∷ read.1) raw.written })

-- ---- a text that is too long for an atom

pub more_escaped : (raw : List ℕ) (i : ℕ) → i < length raw → 0 < length (plain true (drop i raw))
more_escaped [] i inside = absurd (omega arith)
more_escaped (b ∷ raw) zero inside = omega arith
more_escaped (b ∷ raw) (suc i) inside = more_escaped raw i (omega arith)

pub more_plain : (raw : List ℕ) (i : ℕ) → i < length raw → get_or raw i 0 ≢ 92 → 0 < length (plain false (drop i raw))
more_plain [] i inside other = absurd (omega arith)
more_plain (b ∷ raw) zero inside other =
    subst (λ (t : List ℕ). 0 < length t) (sym (cond-false (eqb b 92) (plain true raw) (b ∷ plain false raw)
    (ne_eqb b 92 other))) (omega arith)
more_plain (b ∷ raw) (suc i) inside other = more_plain raw i (omega arith) other

pub too_long : (bytes raw rest : List ℕ) (len : ℕ) → len ≡ 64 → length bytes ≡ 64 → 0 < length rest
    → take len bytes ++ rest ≡ raw → 64 < length raw
too_long bytes raw rest len full size some whole =
    let front : length (take len bytes) ≡ len = length-take-le len bytes (omega arith) in
    omega (arith, ap length whole, length-append (take len bytes) rest)

-- ---- how long a text is, a byte further

pub start_escape : (raw : List ℕ) (i : ℕ) → i < length raw → get_or raw i 0 ≡ 92
    → length (plain false (drop i raw)) ≡ length (plain true (drop (i + 1) raw))
start_escape [] i inside is = absurd (omega arith)
start_escape (b ∷ raw) zero inside is = ap length (cond-true (eqb b 92) (plain true raw) (b ∷ plain false raw)
    (eq-eqb b 92 is))
start_escape (b ∷ raw) (suc i) inside is =
    let same : suc (i + 1) ≡ suc i + 1 = omega arith in
    start_escape raw i (omega arith) is ∙ ap (λ (n : ℕ). length (plain true (drop n (b ∷ raw)))) same

pub one_plain : (raw : List ℕ) (i : ℕ) → i < length raw → get_or raw i 0 ≢ 92
    → length (plain false (drop i raw)) ≡ 1 + length (plain false (drop (i + 1) raw))
one_plain [] i inside other = absurd (omega arith)
one_plain (b ∷ raw) zero inside other =
    let is = ap length (cond-false (eqb b 92) (plain true raw) (b ∷ plain false raw) (ne_eqb b 92 other)) in
    omega (arith, is)
one_plain (b ∷ raw) (suc i) inside other =
    let same : suc (i + 1) ≡ suc i + 1 = omega arith in
    one_plain raw i (omega arith) other ∙ ap (λ (n : ℕ). 1 + length (plain false (drop n (b ∷ raw)))) same

pub one_escaped : (raw : List ℕ) (i : ℕ) → i < length raw
    → length (plain true (drop i raw)) ≡ 1 + length (plain false (drop (i + 1) raw))
one_escaped [] i inside = absurd (omega arith)
one_escaped (b ∷ raw) zero inside = omega arith
one_escaped (b ∷ raw) (suc i) inside =
    let same : suc (i + 1) ≡ suc i + 1 = omega arith in
    one_escaped raw i (omega arith) ∙ ap (λ (n : ℕ). 1 + length (plain false (drop n (b ∷ raw)))) same
