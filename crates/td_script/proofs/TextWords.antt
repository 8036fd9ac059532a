-- How a text in quotes is read: it is UTF-8 where the line is, and its quoted form is what was read.
use Rattle.std.proofs.Common.{◌≡◌, ◌≢◌, ⊎_elim, zero, ◌≤◌, ◌<◌, ℕ, suc, Bool, true, false, cond, eqb, ◌||◌, List, []}
use Rattle.std.proofs.Common.{◌∷◌, ◌++◌, length, get_or, drop, Option, Some, None, refl, sym, ap, subst, ◌∙◌}
use Rattle.std.proofs.Common.{append_assoc, append-nil, drop-cons, arith, IsUtf8, encode_utf8, encode_utf8_all}
use Rattle.std.proofs.Common.{◌+◌, length-append}
use Rattle.std.proofs.Math.Seq.{drop-append-add}
use Rattle.std.specs.Char.{IsScalar}
use Rattle.std.specs.List.{flat_map}
use Rattle.std.specs.Str.{all_scalars}
use Rattle.std.proofs.lemmas.Option.{none-some, same_Some}
use Rattle.std.proofs.lemmas.Bool.{eqb-true, eqb-false, ne_eqb, cond-false, and_parts, cases_lt}
use Rattle.std.proofs.lemmas.List.Elements.{All-head, All-tail}
use Rattle.std.proofs.lemmas.List.Concat.{flat_map-append}
use Rattle.std.proofs.lemmas.Str.{IsUtf8-append, IsUtf8-encode, IsUtf8-nil, encode_ascii, inside_one, length-encode}
use Rattle.std.proofs.lemmas.Str.{len_utf8_bounds, IsUtf8-from_ascii}
use Rattle.td_script.specs.Texts.{escaped, unescaped, unquoted, onto_text}
use Rattle.td_script.proofs.Splitting.{Lacks}

-- bytes that were read before what is read from here on
abbrev pub onto_read : List ℕ → Option (List ℕ × List ℕ) → Option (List ℕ × List ℕ)
onto_read text (Some read) = Some (text ++ read.0, read.1)
onto_read text None = None

-- a byte in front of a text that was read
record IsOnto (o : Option ℕ) (p : Option (List ℕ × List ℕ)) (text rest : List ℕ) : Type 0 where
  byte : ℕ
  more : List ℕ
  is : o ≡ Some byte
  then_read : p ≡ Some (more, rest)
  whole : text ≡ byte ∷ more

onto_some : (o : Option ℕ) (p : Option (List ℕ × List ℕ)) (text rest : List ℕ) → onto_text o p ≡ Some (text, rest)
    → IsOnto o p text rest
onto_some None p text rest e = absurd (none-some (text, rest) e)
onto_some (Some b) None text rest e = absurd (none-some (text, rest) e)
onto_some (Some b) (Some read) text rest e =
    let same : (b ∷ read.0, read.1) ≡ (text, rest) = same_Some (b ∷ read.0, read.1) (text, rest) e in
    record {
      byte = b;
      more = read.0;
      is = refl;
      then_read =
          ap (λ (r : List ℕ). Some (read.0, r)) (ap (λ (x : List ℕ × List ℕ). x.1) same);
      whole =
          sym (ap (λ (x : List ℕ × List ℕ). x.0) same);
    }

-- what a byte behind no backslash does: it ends the text, turns the next byte, or stands for itself
data Plain (b : ℕ) (bs text rest : List ℕ) : Type 0 where
  ends : b ≡ 34 → text ≡ [] → bs ≡ rest → Plain b bs text rest
  turns : b ≡ 92 → unquoted true bs ≡ Some (text, rest) → Plain b bs text rest
  stands : b ≢ 34 → b ≢ 92 → IsOnto (Some b) (unquoted false bs) text rest → Plain b bs text rest

plain_at : (b : ℕ) (bs text rest : List ℕ) (x y : Bool) → eqb b 34 ≡ x → eqb b 92 ≡ y
    → cond x (Some ([], bs)) (cond y (unquoted true bs) (onto_text (Some b) (unquoted false bs))) ≡ Some (text, rest)
    → Plain b bs text rest
plain_at b bs text rest true y e f h =
    let same : ([], bs) ≡ (text, rest) = same_Some ([], bs) (text, rest) h in
    ends (eqb-true b 34 e) (sym (ap (λ (x : List ℕ × List ℕ). x.0) same)) (ap (λ (x : List ℕ × List ℕ). x.1) same)
plain_at b bs text rest false true e f h = turns (eqb-true b 92 f) h
plain_at b bs text rest false false e f h =
    stands (eqb-false b 34 e) (eqb-false b 92 f) (onto_some (Some b) (unquoted false bs) text rest h)

plain : (b : ℕ) (bs text rest : List ℕ) → unquoted false (b ∷ bs) ≡ Some (text, rest) → Plain b bs text rest
plain b bs text rest h = plain_at b bs text rest (eqb b 34) (eqb b 92) refl refl h

-- a byte behind a backslash, and the byte that both stand for
record IsEscape (b byte : ℕ) : Type 0 where
  written : escaped byte ≡ 92 ∷ b ∷ []
  low : b < 128
  ascii : byte < 128

escape_at : (b byte : ℕ) (x y z : Bool) → eqb b 34 ≡ x → eqb b 92 ≡ y → eqb b 110 ≡ z
    → cond (x || y) (Some b) (cond z (Some 10) None) ≡ Some byte → IsEscape b byte
escape_at b byte true y z e f g h =
    let quote : b ≡ 34 = eqb-true b 34 e in
    let same : byte ≡ 34 = sym (same_Some b byte h) ∙ quote in
    record {
      written = ap escaped same ∙ ap (λ (c : ℕ). 92 ∷ c ∷ []) (sym quote);
      low = omega arith;
      ascii =
          omega arith;
    }
escape_at b byte false true z e f g h =
    let slash : b ≡ 92 = eqb-true b 92 f in
    let same : byte ≡ 92 = sym (same_Some b byte h) ∙ slash in
    record {
      written = ap escaped same ∙ ap (λ (c : ℕ). 92 ∷ c ∷ []) (sym slash);
      low = omega arith;
      ascii =
          omega arith;
    }
escape_at b byte false false true e f g h =
    let letter : b ≡ 110 = eqb-true b 110 g in
    let same : byte ≡ 10 = sym (same_Some 10 byte h) in
    record {
      written = ap escaped same ∙ ap (λ (c : ℕ). 92 ∷ c ∷ []) (sym letter);
      low = omega arith;
      ascii =
          omega arith;
    }
escape_at b byte false false false e f g h = absurd (none-some byte h)

escape : (b byte : ℕ) → unescaped true b ≡ Some byte → IsEscape b byte
escape b byte h = escape_at b byte (eqb b 34) (eqb b 92) (eqb b 110) refl refl refl h

-- bytes of characters that are not ASCII stand for themselves
AreHigh : List ℕ → Type 0
AreHigh hs = (i : ℕ) → i < length hs → 128 ≤ get_or hs i 0

high_read : (hs bs text rest : List ℕ) → AreHigh hs → unquoted false (hs ++ bs) ≡ Some (text, rest)
    → (more : List ℕ) × (unquoted false bs ≡ Some (more, rest)) × (text ≡ hs ++ more)
unfolding AreHigh
high_read [] bs text rest high h = (text, h, refl)
high_read (b ∷ hs) bs text rest high h = go
    (λ more e. high_read hs bs more rest (λ i inside. high (suc i) (omega arith)) e) (plain b (hs ++ bs) text rest h)
  where
    go : ((front : List ℕ) → unquoted false (hs ++ bs) ≡ Some (front, rest)
        → (more : List ℕ) × (unquoted false bs ≡ Some (more, rest)) × (front ≡ hs ++ more))
        → Plain b (hs ++ bs) text rest → (more : List ℕ) × (unquoted false bs ≡ Some (more, rest))
        × (text ≡ b ∷ (hs ++ more))
    go ih (ends e f g) = absurd (omega (arith, high 0 (omega arith)))
    go ih (turns e f) = absurd (omega (arith, high 0 (omega arith)))
    go ih (stands ne ne' onto) =
        let others = ih onto.more onto.then_read in (
          others.0,
          others.1,
          onto.whole ∙ ap (λ (x : ℕ). x ∷ onto.more) (sym (same_Some b onto.byte onto.is))
              ∙ ap (λ (xs : List ℕ). b ∷ xs) others.2,
        )

high_char : (c : ℕ) → 128 ≤ c → AreHigh (encode_utf8 c)
unfolding AreHigh
high_char c high i inside =
    ⊎_elim
    (λ (low : get_or (encode_utf8 c) i 0 < 128). absurd
    (omega (arith, inside_one c [] (encode_utf8 c) i (sym (append-nil (encode_utf8 c))) inside low)))
    (λ (is : 128 ≤ get_or (encode_utf8 c) i 0). is)
    (cases_lt (get_or (encode_utf8 c) i 0) 128)

high_turned : (hs bs text rest : List ℕ) → AreHigh hs → 0 < length hs → unquoted true (hs ++ bs) ≡ Some (text, rest) → ⊥
unfolding AreHigh
high_turned [] bs text rest high some h = absurd (omega arith)
high_turned (b ∷ hs) bs text rest high some h =
    let onto = onto_some (unescaped true b) (unquoted false (hs ++ bs)) text rest h in
    let is : IsEscape b onto.byte = escape b onto.byte onto.is in
    absurd (omega (arith, is.low, high 0 (omega arith)))

ascii_byte : (byte : ℕ) → byte < 128 → (i : ℕ) → get_or (byte ∷ []) i 0 < 128
ascii_byte byte h zero = h
ascii_byte byte h (suc i) = omega arith

byte_in_front : (b : ℕ) (more text : List ℕ) → b < 128 → IsUtf8 more → text ≡ b ∷ more → IsUtf8 text
byte_in_front b more text low h e = subst IsUtf8 (sym e)
    (IsUtf8-append (b ∷ []) more (IsUtf8-from_ascii (b ∷ []) (ascii_byte b low)) h)

-- where these bytes are read as a text, the text is UTF-8
abbrev ReadsUtf8 : List ℕ → Type 0
ReadsUtf8 bs = (is_escaped : Bool) (text rest : List ℕ) → unquoted is_escaped bs ≡ Some (text, rest) → IsUtf8 text

low_step : (c : ℕ) (bs : List ℕ) → c < 128 → ReadsUtf8 bs → ReadsUtf8 (c ∷ bs)
low_step c bs low ih false text rest e = go (plain c bs text rest e)
  where
    go : Plain c bs text rest → IsUtf8 text
    go (ends f g h) = subst IsUtf8 (sym g) IsUtf8-nil
    go (turns f g) = ih true text rest g
    go (stands ne ne' onto) = byte_in_front c onto.more text low (ih false onto.more rest onto.then_read)
        (onto.whole ∙ ap (λ (x : ℕ). x ∷ onto.more) (sym (same_Some c onto.byte onto.is)))
low_step c bs low ih true text rest e =
    let onto = onto_some (unescaped true c) (unquoted false bs) text rest e in
    let is : IsEscape c onto.byte = escape c onto.byte onto.is in
    byte_in_front onto.byte onto.more text is.ascii (ih false onto.more rest onto.then_read) onto.whole

high_step : (c : ℕ) (bs : List ℕ) → 128 ≤ c → IsScalar c → ReadsUtf8 bs → ReadsUtf8 (encode_utf8 c ++ bs)
high_step c bs high scalar ih false text rest e =
    let others = high_read (encode_utf8 c) bs text rest (high_char c high) e in
    subst IsUtf8 (sym others.2) (IsUtf8-append (encode_utf8 c) others.0 (IsUtf8-encode c scalar)
    (ih false others.0 rest others.1))
high_step c bs high scalar ih true text rest e =
    absurd (high_turned (encode_utf8 c) bs text rest (high_char c high)
    (omega (arith, length-encode c, len_utf8_bounds c)) e)

char_step : (c : ℕ) (bs : List ℕ) → IsScalar c → ReadsUtf8 bs → ReadsUtf8 (encode_utf8 c ++ bs)
char_step c bs scalar ih =
    ⊎_elim
    (λ (low : c < 128). subst (λ (hs : List ℕ). ReadsUtf8 (hs ++ bs)) (sym (encode_ascii c low)) (low_step c bs low ih))
    (λ (high : 128 ≤ c). high_step c bs high scalar ih)
    (cases_lt c 128)

text_utf8 : (cs : List ℕ) → all_scalars cs ≡ true → ReadsUtf8 (encode_utf8_all cs)
text_utf8 [] h false text rest e = absurd (none-some (text, rest) e)
text_utf8 [] h true text rest e = absurd (none-some (text, rest) e)
text_utf8 (c ∷ cs) h is_escaped text rest e =
    let parts = and_parts _ _ h in
    char_step c (encode_utf8_all cs) parts.0 (text_utf8 cs parts.1) is_escaped text rest e

-- a text that stands in UTF-8 is UTF-8
pub unquoted_utf8 : (bs text rest : List ℕ) → IsUtf8 bs → unquoted false bs ≡ Some (text, rest) → IsUtf8 text
unquoted_utf8 bs text rest u e = text_utf8 u.0 u.1.0 false text rest (ap (unquoted false) u.1.1 ∙ e)

-- so is what was read up to the closing quote
pub read_to_quote : (bs text : List ℕ) (at : ℕ) (is_escaped : Bool) → IsUtf8 bs → at < length bs → get_or bs at 0 ≡ 34
    → is_escaped ≡ false → unquoted false bs ≡ onto_read text (unquoted is_escaped (drop at bs)) → IsUtf8 text
read_to_quote bs text at is_escaped u inside quote plainly e =
    let left : drop at bs ≡ 34 ∷ drop (suc at) bs = drop-cons bs at 0 inside
    ∙ ap (λ (b : ℕ). b ∷ drop (suc at) bs) quote in
    let closed : unquoted is_escaped (drop at bs) ≡ Some ([], drop (suc at) bs) =
    ap (λ (b : Bool). unquoted b (drop at bs)) plainly ∙ ap (unquoted false) left in
    subst IsUtf8 (append-nil text) (unquoted_utf8 bs (text ++ []) (drop (suc at) bs) u (e ∙ ap (onto_read text) closed))

-- the bytes behind a backslash, with it
abbrev with_backslash : Bool → List ℕ → List ℕ
with_backslash false bs = bs
with_backslash true bs = 92 ∷ bs

plain_written : (b : ℕ) → b ≢ 34 → b ≢ 92 → b ≢ 10 → escaped b ≡ b ∷ []
plain_written b ne ne' ne'' =
    cond-false (eqb b 34) (92 ∷ 34 ∷ []) (cond (eqb b 92) (92 ∷ 92 ∷ []) (cond (eqb b 10) (92 ∷ 110 ∷ []) (b ∷ [])))
    (ne_eqb b 34 ne)
    ∙ cond-false (eqb b 92) (92 ∷ 92 ∷ []) (cond (eqb b 10) (92 ∷ 110 ∷ []) (b ∷ [])) (ne_eqb b 92 ne')
    ∙ cond-false (eqb b 10) (92 ∷ 110 ∷ []) (b ∷ []) (ne_eqb b 10 ne'')

-- what is written of a text, up to the closing quote, and what stands behind it
abbrev written : List ℕ → List ℕ → List ℕ
written text rest = flat_map escaped text ++ 34 ∷ rest

written_more : (b : ℕ) (more text rest : List ℕ) → text ≡ b ∷ more → written text rest ≡ escaped b ++ written more rest
written_more b more text rest e = ap (λ (t : List ℕ). written t rest) e
    ∙ append_assoc (escaped b) (flat_map escaped more) (34 ∷ rest)

written_back : (bs text rest : List ℕ) (is_escaped : Bool) → Lacks 10 bs → unquoted is_escaped bs ≡ Some (text, rest)
    → with_backslash is_escaped bs ≡ written text rest
written_back [] text rest false lacks e = absurd (none-some (text, rest) e)
written_back [] text rest true lacks e = absurd (none-some (text, rest) e)
written_back (b ∷ bs) text rest false lacks e =
    go (λ more is_escaped f. written_back bs more rest is_escaped (All-tail (λ (byte : ℕ). byte ≢ 10) b bs lacks) f)
    (plain b bs text rest e)
  where
    go : ((more : List ℕ) (is_escaped : Bool) → unquoted is_escaped bs ≡ Some (more, rest)
        → with_backslash is_escaped bs ≡ written more rest) → Plain b bs text rest → b ∷ bs ≡ written text rest
    go ih (ends f g h) = ap (λ (x : ℕ). x ∷ bs) f ∙ ap (λ (xs : List ℕ). 34 ∷ xs) h
        ∙ ap (λ (t : List ℕ). written t rest) (sym g)
    go ih (turns f g) = ap (λ (x : ℕ). x ∷ bs) f ∙ ih text true g
    go ih (stands ne ne' onto) =
        let same : text ≡ b ∷ onto.more = onto.whole
        ∙ ap (λ (x : ℕ). x ∷ onto.more) (sym (same_Some b onto.byte onto.is)) in
        let others : bs ≡ written onto.more rest = ih onto.more false onto.then_read in
        let alone : escaped b ≡ b ∷ [] = plain_written b ne ne' (All-head (λ (byte : ℕ). byte ≢ 10) b bs lacks) in
        ap (λ (xs : List ℕ). b ∷ xs) others ∙ ap (λ (xs : List ℕ). xs ++ written onto.more rest) (sym alone)
        ∙ sym (written_more b onto.more text rest same)
written_back (b ∷ bs) text rest true lacks e =
    let onto = onto_some (unescaped true b) (unquoted false bs) text rest e in
    let is : IsEscape b onto.byte = escape b onto.byte onto.is in
    let others : bs ≡ written onto.more rest =
    written_back bs onto.more rest false (All-tail (λ (byte : ℕ). byte ≢ 10) b bs lacks) onto.then_read in
    ap (λ (xs : List ℕ). 92 ∷ b ∷ xs) others ∙ ap (λ (xs : List ℕ). xs ++ written onto.more rest) (sym is.written)
    ∙ sym (written_more onto.byte onto.more text rest onto.whole)

-- what is read as a text is its quoted form
pub unquoted_back : (bs text rest : List ℕ) → Lacks 10 bs → unquoted false bs ≡ Some (text, rest)
    → bs ≡ flat_map escaped text ++ 34 ∷ rest
unquoted_back bs text rest lacks e = written_back bs text rest false lacks e

-- the byte that stands alone, or behind a backslash, is read
byte_there : (b : ℕ) (bs : List ℕ) (x y z : Bool) → eqb b 34 ≡ x → eqb b 92 ≡ y → eqb b 10 ≡ z
    → unquoted false (cond x (92 ∷ 34 ∷ []) (cond y (92 ∷ 92 ∷ []) (cond z (92 ∷ 110 ∷ []) (b ∷ []))) ++ bs) ≡ onto_text
    (Some b) (unquoted false bs)
byte_there b bs true y z e f g = ap (λ (c : ℕ). onto_text (Some c) (unquoted false bs)) (sym (eqb-true b 34 e))
byte_there b bs false true z e f g = ap (λ (c : ℕ). onto_text (Some c) (unquoted false bs)) (sym (eqb-true b 92 f))
byte_there b bs false false true e f g = ap (λ (c : ℕ). onto_text (Some c) (unquoted false bs)) (sym (eqb-true b 10 g))
byte_there b bs false false false e f g =
    cond-false (eqb b 34) (Some ([], bs)) (cond (eqb b 92) (unquoted true bs) (onto_text (Some b) (unquoted false bs)))
    e
    ∙ cond-false (eqb b 92) (unquoted true bs) (onto_text (Some b) (unquoted false bs)) f

-- the quoted form of a text is read as the text
pub unquoted_there : (text rest : List ℕ) → unquoted false (flat_map escaped text ++ 34 ∷ rest) ≡ Some (text, rest)
unquoted_there [] rest = refl
unquoted_there (b ∷ text) rest =
    ap (unquoted false) (append_assoc (escaped b) (flat_map escaped text) (34 ∷ rest))
    ∙ byte_there b (written text rest) (eqb b 34) (eqb b 92) (eqb b 10) refl refl refl
    ∙ ap (onto_text (Some b)) (unquoted_there text rest)

-- a text without escapes is read as it stands, up to the closing quote
stands_alone : (text rest : List ℕ) → Lacks 34 text → Lacks 92 text
    → unquoted false (text ++ 34 ∷ rest) ≡ Some (text, rest)
stands_alone [] rest quote slash = refl
stands_alone (b ∷ text) rest quote slash =
    let bs : List ℕ = text ++ 34 ∷ rest in
    cond-false (eqb b 34) (Some ([], bs)) (cond (eqb b 92) (unquoted true bs) (onto_text (Some b) (unquoted false bs)))
    (ne_eqb b 34 (All-head (λ (byte : ℕ). byte ≢ 34) b text quote))
    ∙ cond-false (eqb b 92) (unquoted true bs) (onto_text (Some b) (unquoted false bs))
    (ne_eqb b 92 (All-head (λ (byte : ℕ). byte ≢ 92) b text slash))
    ∙ ap (onto_text (Some b)) (stands_alone text rest (All-tail (λ (byte : ℕ). byte ≢ 34) b text quote)
    (All-tail (λ (byte : ℕ). byte ≢ 92) b text slash))

pub read_as_it_stands : (bs text rest : List ℕ) → bs ≡ text ++ 34 ∷ rest → Lacks 34 text → Lacks 92 text
    → (length text + 1 ≤ length bs) × (unquoted false bs ≡ Some (text, drop (length text + 1) bs))
read_as_it_stands bs text rest whole quote slash =
    let left : drop (length text + 1) bs ≡ rest =
    ap (drop (length text + 1)) whole ∙ drop-append-add text (34 ∷ rest) 1 in (
      omega (arith, ap length whole, length-append text (34 ∷ rest)),
      ap (unquoted false) whole ∙ stands_alone text rest quote slash ∙ ap (λ (r : List ℕ). Some (text, r)) (sym left),
    )

-- bytes that are not ASCII are written as they are
high_written : (hs : List ℕ) → AreHigh hs → flat_map escaped hs ≡ hs
unfolding AreHigh
high_written [] high = refl
high_written (b ∷ hs) high =
    let least : 128 ≤ b = high 0 (omega arith) in
    let alone : escaped b ≡ b ∷ [] = plain_written b (λ (e : b ≡ 34). absurd (omega arith))
    (λ (e : b ≡ 92). absurd (omega arith)) (λ (e : b ≡ 10). absurd (omega arith)) in
    ap (λ (xs : List ℕ). xs ++ flat_map escaped hs) alone
    ∙ ap (λ (xs : List ℕ). b ∷ xs) (high_written hs (λ i inside. high (suc i) (omega arith)))

pair_ascii : (x y : ℕ) → x < 128 → y < 128 → (i : ℕ) → get_or (x ∷ y ∷ []) i 0 < 128
pair_ascii x y h k zero = h
pair_ascii x y h k (suc i) = ascii_byte y k i

byte_written_utf8 : (b : ℕ) (x y z : Bool) → b < 128
    → IsUtf8 (cond x (92 ∷ 34 ∷ []) (cond y (92 ∷ 92 ∷ []) (cond z (92 ∷ 110 ∷ []) (b ∷ []))))
byte_written_utf8 b true y z low = IsUtf8-from_ascii (92 ∷ 34 ∷ []) (pair_ascii 92 34 (omega arith) (omega arith))
byte_written_utf8 b false true z low = IsUtf8-from_ascii (92 ∷ 92 ∷ []) (pair_ascii 92 92 (omega arith) (omega arith))
byte_written_utf8 b false false true low =
    IsUtf8-from_ascii (92 ∷ 110 ∷ []) (pair_ascii 92 110 (omega arith) (omega arith))
byte_written_utf8 b false false false low = IsUtf8-from_ascii (b ∷ []) (ascii_byte b low)

char_written_utf8 : (c : ℕ) → IsScalar c → IsUtf8 (flat_map escaped (encode_utf8 c))
char_written_utf8 c scalar =
    ⊎_elim
    (λ (low : c < 128). subst (λ (hs : List ℕ). IsUtf8 (flat_map escaped hs)) (sym (encode_ascii c low))
    (subst IsUtf8 (sym (append-nil (escaped c))) (byte_written_utf8 c (eqb c 34) (eqb c 92) (eqb c 10) low)))
    (λ (high : 128 ≤ c). subst IsUtf8 (sym (high_written (encode_utf8 c) (high_char c high))) (IsUtf8-encode c scalar))
    (cases_lt c 128)

chars_written_utf8 : (cs : List ℕ) → all_scalars cs ≡ true → IsUtf8 (flat_map escaped (encode_utf8_all cs))
chars_written_utf8 [] h = IsUtf8-nil
chars_written_utf8 (c ∷ cs) h =
    let parts = and_parts _ _ h in
    subst IsUtf8 (sym (flat_map-append escaped (encode_utf8 c) (encode_utf8_all cs)))
    (IsUtf8-append (flat_map escaped (encode_utf8 c)) (flat_map escaped (encode_utf8_all cs))
    (char_written_utf8 c parts.0) (chars_written_utf8 cs parts.1))

-- a text with its escapes is UTF-8 where the text is
pub written_utf8 : (text : List ℕ) → IsUtf8 text → IsUtf8 (flat_map escaped text)
written_utf8 text u = subst (λ (t : List ℕ). IsUtf8 (flat_map escaped t)) u.1.1 (chars_written_utf8 u.0 u.1.0)
