-- The lines of what came, and what is kept of it.
use Rattle.std.proofs.Common.{◌≡◌, ◌≢◌, ◌<◌, ◌≤◌, ◌+◌, ◌⊎◌, ◌++◌, ◌∷◌, ℕ, zero, suc, List, [], length, take, drop}
use Rattle.std.proofs.Common.{get_or, eqb, eq-eqb, Some}
use Rattle.std.proofs.Common.{refl, sym, ap, subst, ◌∙◌, inl, inr, ⊎_elim, arith, length-append}
use Rattle.std.proofs.lemmas.Bool.{cases_lt, eqb-true, false≢true}
use Rattle.std.proofs.lemmas.List.Quantifiers.{position-Some}
use Rattle.std.specs.List.{position}
use Rattle.std.proofs.lemmas.List.{append-nil, append_assoc, length-take, take_all}
use Rattle.std.proofs.lemmas.List.Concat.{flat_map-append}
use Rattle.std.proofs.lemmas.List.Elements.{All-nil, All-cons, All-head, All-tail}
use Rattle.td_script.specs.declared.script.TheConstants.{MAX_LINE}
use Rattle.td_shell.specs.Lines.{IsInLine, ended, shortened}
use Rattle.td_shell.proofs.ReadAs.{IsKeptOf, IsLong, IsReadAs}

-- ---- lines that are ended

pub ended_more : (lines : List (List ℕ)) (line rest : List ℕ)
    → ended (lines ++ line ∷ []) ++ rest ≡ ended lines ++ (line ++ 10 ∷ rest)
ended_more lines line rest =
    ap (λ (xs : List ℕ). xs ++ rest) (flat_map-append (λ (l : List ℕ). l ++ 10 ∷ []) lines (line ∷ []))
    ∙ append_assoc (ended lines) ((line ++ 10 ∷ []) ++ []) rest
    ∙ ap (λ (xs : List ℕ). ended lines ++ (xs ++ rest)) (append-nil (line ++ 10 ∷ []))
    ∙ ap (λ (xs : List ℕ). ended lines ++ xs) (append_assoc line (10 ∷ []) rest)

-- ---- what is kept

longer : (front rest : List ℕ) → IsLong front → IsLong (front ++ rest)
longer front rest long = omega (arith, long, length-append front rest)

-- bytes that are kept as they are
pub kept_whole : (bytes : List ℕ) → IsKeptOf bytes bytes
kept_whole bytes =
    record {
      front = [];
      part = [];
      rest = bytes;
      bytes_are = refl;
      kept_is = refl;
      in_line = All-nil (λ (byte : ℕ). byte ≢ 10);
      part_in_line = All-nil (λ (byte : ℕ). byte ≢ 10);
      read_as = inl refl;
    }

read_behind : (front part rest : List ℕ) → IsReadAs front part → IsReadAs (front ++ rest) (part ++ rest)
read_behind front part rest (inl same) = inl (ap (λ (xs : List ℕ). xs ++ rest) same)
read_behind front part rest (inr long) = inr (longer part rest long.0, longer front rest long.1)

-- what is kept of a part of a line is read as that
pub read_whole : (bytes kept : List ℕ) → IsKeptOf bytes kept → IsReadAs bytes kept
read_whole bytes kept k =
    let there : IsReadAs (k.front ++ k.rest) (k.part ++ k.rest) = read_behind k.front k.part k.rest k.read_as in
    subst (λ (xs : List ℕ). IsReadAs xs kept) (sym k.bytes_are)
    (subst (λ (xs : List ℕ). IsReadAs (k.front ++ k.rest) xs) (sym k.kept_is) there)

all_of_back : (front rest : List ℕ) → IsInLine (front ++ rest) → IsInLine rest
all_of_back [] rest each = each
all_of_back (b ∷ front) rest each = all_of_back front rest (All-tail (λ (byte : ℕ). byte ≢ 10) b (front ++ rest) each)

both_in_line : (front rest : List ℕ) → IsInLine front → IsInLine rest → IsInLine (front ++ rest)
both_in_line [] rest f r = r
both_in_line (b ∷ front) rest f r =
    All-cons (λ (byte : ℕ). byte ≢ 10) b (front ++ rest) (All-head (λ (byte : ℕ). byte ≢ 10) b front f)
    (both_in_line front rest (All-tail (λ (byte : ℕ). byte ≢ 10) b front f) r)

-- where no LF was kept none came
pub came_in_line : (bytes kept : List ℕ) → IsKeptOf bytes kept → IsInLine kept → IsInLine bytes
came_in_line bytes kept k each =
    subst IsInLine (sym k.bytes_are)
    (both_in_line k.front k.rest k.in_line (all_of_back k.part k.rest (subst IsInLine k.kept_is each)))

short_as : (bytes kept : List ℕ) → IsReadAs bytes kept → (length kept ≤ MAX_LINE + 1) ⊎ IsLong kept
    → IsReadAs bytes (shortened kept)
short_as bytes kept (inl same) (inl few) = inl (take_all (MAX_LINE + 1) kept few ∙ same)
short_as bytes kept (inl same) (inr long) =
    let cut = length-take (MAX_LINE + 1) kept in
    let whole : IsLong bytes = subst IsLong same long in
    inr (omega (arith, cut, long), whole)
short_as bytes kept (inr long) few =
    let cut = length-take (MAX_LINE + 1) kept in
    inr (omega (arith, cut, long.0), long.1)

few_or_long : (kept : List ℕ) → (length kept ≤ MAX_LINE + 1) ⊎ IsLong kept
few_or_long kept =
    ⊎_elim (λ (long : MAX_LINE < length kept). inr long)
    (λ (few : length kept ≤ MAX_LINE). inl (omega arith)) (cases_lt MAX_LINE (length kept))

-- a piece more came
pub filled : (bytes kept piece : List ℕ) → IsKeptOf bytes kept → IsInLine kept
    → IsKeptOf (bytes ++ piece) (shortened kept ++ piece)
filled bytes kept piece k each =
    record {
      front = bytes;
      part = shortened kept;
      rest = piece;
      bytes_are = refl;
      kept_is = refl;
      in_line = came_in_line bytes kept k each;
      part_in_line = cut_in_line (MAX_LINE + 1) kept each;
      read_as = short_as bytes kept (read_whole bytes kept k) (few_or_long kept);
    }
  where
    cut_in_line : (n : ℕ) (xs : List ℕ) → IsInLine xs → IsInLine (take n xs)
    cut_in_line zero xs each = All-nil (λ (byte : ℕ). byte ≢ 10)
    cut_in_line (suc n) [] each = All-nil (λ (byte : ℕ). byte ≢ 10)
    cut_in_line (suc n) (x ∷ xs) each =
        All-cons (λ (byte : ℕ). byte ≢ 10) x (take n xs) (All-head (λ (byte : ℕ). byte ≢ 10) x xs each)
        (cut_in_line n xs (All-tail (λ (byte : ℕ). byte ≢ 10) x xs each))

-- the part of a line behind some bytes
record IsBehind (part rest line more : List ℕ) : Type 0 where
  middle : List ℕ
  rest_is : rest ≡ middle ++ 10 ∷ more
  line_is : line ≡ part ++ middle

heads : (x y : ℕ) (xs ys : List ℕ) → x ∷ xs ≡ y ∷ ys → x ≡ y
heads x y xs ys e = cc

tails : (x y : ℕ) (xs ys : List ℕ) → x ∷ xs ≡ y ∷ ys → xs ≡ ys
tails x y xs ys e = cc

behind_part : (part rest line more : List ℕ) → IsInLine part → part ++ rest ≡ line ++ 10 ∷ more
    → IsBehind part rest line more
behind_part [] rest line more each e = record { middle = line; rest_is = e; line_is = refl }
behind_part (b ∷ part) rest [] more each e =
    absurd (All-head (λ (byte : ℕ). byte ≢ 10) b part each (heads b 10 (part ++ rest) more e))
behind_part (b ∷ part) rest (c ∷ line) more each e =
    let next : IsBehind part rest line more = behind_part part rest line more
    (All-tail (λ (byte : ℕ). byte ≢ 10) b part each) (tails b c (part ++ rest) (line ++ 10 ∷ more) e) in
    record {
      middle = next.middle;
      rest_is = next.rest_is;
      line_is = λ i. sym (heads b c (part ++ rest) (line ++ 10 ∷ more) e) i ∷ next.line_is i;
    }

-- a line that was cut off what is kept
pub record IsLineOf (bytes line more : List ℕ) : Type 0 where
  pub whole : List ℕ
  pub bytes_are : bytes ≡ whole ++ 10 ∷ more
  pub in_line : IsInLine whole
  pub read_as : IsReadAs whole line

pub line_off : (bytes kept line more : List ℕ) → IsKeptOf bytes kept → IsInLine line → kept ≡ line ++ 10 ∷ more
    → IsLineOf bytes line more
line_off bytes kept line more k each e =
    let off : IsBehind k.part k.rest line more =
    behind_part k.part k.rest line more k.part_in_line (sym k.kept_is ∙ e) in
    record {
      whole = k.front ++ off.middle;
      bytes_are = k.bytes_are ∙ ap (λ (xs : List ℕ). k.front ++ xs) off.rest_is
          ∙ sym (append_assoc k.front off.middle (10 ∷ more));
      in_line = both_in_line k.front off.middle k.in_line
          (all_of_back k.part off.middle (subst IsInLine off.line_is each));
      read_as = subst (λ (xs : List ℕ). IsReadAs (k.front ++ off.middle) xs) (sym off.line_is)
          (read_behind k.front k.part off.middle k.read_as);
    }

-- nothing is kept of nothing, and something of something
pub none_came : (bytes kept : List ℕ) → IsKeptOf bytes kept → length kept ≡ 0 → bytes ≡ []
none_came bytes kept k none = at bytes kept (read_whole bytes kept k) none
  where
    at : (bytes kept : List ℕ) → IsReadAs bytes kept → length kept ≡ 0 → bytes ≡ []
    at [] kept same none = refl
    at (b ∷ bytes) kept (inl same) none = let less = ap length same in absurd (omega arith)
    at (b ∷ bytes) kept (inr long) none = let more = long.0 in absurd (omega arith)

pub some_came : (bytes kept : List ℕ) → IsKeptOf bytes kept → 0 < length kept → 0 < length bytes
some_came bytes kept k some = at (read_whole bytes kept k)
  where
    at : IsReadAs bytes kept → 0 < length bytes
    at (inl same) = let less = ap length same in omega (arith, some)
    at (inr long) = let more = long.1 in omega arith

-- ---- a line is cut off at its LF

-- a line, and what stands behind its LF
pub record IsCutOff (bytes line rest : List ℕ) : Type 0 where
  pub in_line : IsInLine line
  pub is : bytes ≡ line ++ 10 ∷ rest

cut_behind : (b : ℕ) (bytes line rest : List ℕ) → b ≢ 10 → IsCutOff bytes line rest
    → IsCutOff (b ∷ bytes) (b ∷ line) rest
cut_behind b bytes line rest other cut =
    record {
      in_line = All-cons (λ (byte : ℕ). byte ≢ 10) b line other cut.in_line;
      is = ap (λ (xs : List ℕ). b ∷ xs) cut.is;
    }

cut_at : (bytes : List ℕ) (place : ℕ) → place < length bytes → get_or bytes place 0 ≡ 10
    → ((k : ℕ) → k < place → get_or bytes k 0 ≢ 10) → IsCutOff bytes (take place bytes) (drop (suc place) bytes)
cut_at [] place within here before = absurd (omega arith)
cut_at (b ∷ bytes) zero within here before =
    record {
      in_line = All-nil (λ (byte : ℕ). byte ≢ 10);
      is = ap (λ (x : ℕ). x ∷ bytes) here;
    }
cut_at (b ∷ bytes) (suc place) within here before =
    cut_behind b bytes (take place bytes) (drop (suc place) bytes) (before 0 (omega arith))
    (cut_at bytes place (omega arith) here (λ k less. before (suc k) (omega arith)))

-- at the first that there is
pub cut_off : (bytes : List ℕ) (place : ℕ) → position (λ byte. eqb byte 10) bytes ≡ Some place
    → IsCutOff bytes (take place bytes) (drop (place + 1) bytes)
cut_off bytes place is =
    let found = position-Some (λ (byte : ℕ). eqb byte 10) bytes place 0 is in
    let next : suc place ≡ place + 1 = omega arith in
    subst (λ (n : ℕ). IsCutOff bytes (take place bytes) (drop n bytes)) next
    (cut_at bytes place found.0 (eqb-true (get_or bytes place 0) 10 found.1)
    (λ k less e. false≢true (sym (found.2 k less) ∙ eq-eqb (get_or bytes k 0) 10 e)))

-- as it was taken
pub cut_so : (all bytes line rest front back : List ℕ) → all ≡ bytes → line ≡ front → rest ≡ back
    → IsCutOff bytes front back → IsInLine line × (all ≡ line ++ 10 ∷ rest)
cut_so all bytes line rest front back all_is line_is rest_is cut = (
  subst IsInLine (sym line_is) cut.in_line,
  all_is ∙ cut.is ∙ (λ i. sym line_is i ++ 10 ∷ sym rest_is i),
)
