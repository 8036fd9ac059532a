-- The records of a journal, one after another: a record is read exactly, and no bytes are two journals.
use Rattle.std.proofs.Common.{◌≡◌, ◌≢◌, ℕ, ◌+◌, ◌<◌, ◌≤◌, ◌^◌, List, [], ◌∷◌, ◌++◌}
use Rattle.std.proofs.Common.{length, take, drop, refl, sym, ◌∙◌, ap, arith, append_assoc}
use Rattle.std.proofs.Common.{length-take, length-drop}
use Rattle.std.specs.Prelude.{Option, None, Some, IfNone}
use Rattle.std.specs.Int.{w16, to_be_bytes}
use Rattle.std.specs.List.{AllByRecursion}
use Rattle.std.proofs.lemmas.List.{append-nil, take_at, drop_at}
use Rattle.td_op.specs.declared.input.Input.{Input}
use Rattle.td_records.specs.Records.{record_of, IsShort}
use Rattle.td_records.proofs.Unique.{first_same, record_same}
use Rattle.td_input.specs.Spelling.{input_bytes, CanWrite}
use Rattle.td_input.proofs.Whole.{one_input, input_short}
use Rattle.td_journal.specs.declared.format.Format.{Format}
use Rattle.td_journal.specs.declared.format.Format.TheVariants.{Plain, Checked}
use Rattle.td_journal.specs.Journal.{first_check, head_bytes, body_bytes, next_check, record_bytes}
use Rattle.td_journal.specs.Journal.{records_bytes, last_check, journal_bytes, journal_check, IsJournal}
use Rattle.td_journal.specs.Bad.{format_in, Begins}

pub if_none : {A : Type 0} {P : Type 0} (o : Option A) → P → IfNone o P
if_none None p = p
if_none (Some x) p = tt

pub none_some : {A : Type 0} (x : A) → ◌≡◌ {A = Option A} None (Some x) → ⊥
none_some x e = cc

pub input_is_short : (input : Input) → CanWrite input → IsShort (input_bytes input)
input_is_short input can = omega (arith, input_short input can)

-- a record, and what stands behind it, behind its check
pub parts : (f : Format) (before : List ℕ) (input : Input) (rest : List ℕ)
    → record_bytes f before input ++ rest ≡ record_of (input_bytes input) ++ (next_check f before input ++ rest)
parts f before input rest = append_assoc (record_of (input_bytes input)) (next_check f before input) rest

-- ---- one record

module _ (bytes : List ℕ) (len : ℕ) (within : 3 + len ≤ length bytes)
    (is : bytes ≡ record_of (take len (drop 3 bytes)) ++ drop (3 + len) bytes) where
  body : List ℕ
  body = take len (drop 3 bytes)

  long : length body ≡ len
  unfolding body
  long = omega (arith, length-take len (drop 3 bytes), length-drop 3 bytes, within)

  front : take (3 + len) bytes ≡ record_of (take len (drop 3 bytes))
  front =
      ap (take (3 + len)) is
      ∙ take_at (record_of (take len (drop 3 bytes))) (drop (3 + len) bytes) (3 + len)
      (omega (arith, length-take len (drop 3 bytes), length-drop 3 bytes, within))

  pub third : drop 3 (take (3 + len) bytes) ≡ take len (drop 3 bytes)
  third = ap (drop 3) front

  pub first : drop 1 (take (3 + len) bytes) ≡ to_be_bytes w16 (length (take len (drop 3 bytes)))
      ++ take len (drop 3 bytes)
  first = ap (drop 1) front

  -- what stands in a record that has these bytes
  pub body_is : (input : Input) → drop 3 (take (3 + len) bytes) ≡ input_bytes input
      → drop 1 (take (3 + len) bytes) ≡ body_bytes input
  body_is input e =
      first ∙ ap (λ (l : List ℕ). to_be_bytes w16 (length l) ++ l) (sym third ∙ e)

  pub record_is : (f : Format) (before : List ℕ) (input : Input) (next rest : List ℕ) → drop 3 (take (3 + len) bytes)
      ≡ input_bytes input
      → next ≡ next_check f before input → drop (3 + len) bytes ≡ next ++ rest → bytes ≡ record_bytes f before input
      ++ rest
  record_is f before input next rest e next_is behind =
      is ∙ ap (λ (l : List ℕ). record_of l ++ drop (3 + len) bytes) (sym third ∙ e)
      ∙ ap (λ (l : List ℕ). record_of (input_bytes input) ++ l) (behind ∙ ap (λ (l : List ℕ). l ++ rest) next_is)
      ∙ sym (parts f before input rest)

  -- a record at the front is this one
  pub same_record : (f : Format) (before : List ℕ) (input : Input) → CanWrite input → len < 2 ^ 16
      → (b : Begins (record_bytes f before input) bytes)
      → (drop 3 (take (3 + len) bytes) ≡ input_bytes input) × (drop (3 + len) bytes ≡ next_check f before input ++ b.0)
  same_record f before input can small b =
      let same = record_same (take len (drop 3 bytes)) (input_bytes input) (drop (3 + len) bytes)
      (next_check f before input ++ b.0)
      (omega (arith, small, length-take len (drop 3 bytes))) (input_is_short input can)
      (sym is ∙ b.1 ∙ parts f before input b.0) in
      (third ∙ same.0, same.1)

-- ---- all records

-- of inputs that stand behind these, what is left
pub record Left (f : Format) (before : List ℕ) (ks ls : List Input) (rest : List ℕ) (tail : List ℕ) : Type 0 where
  pub more : List Input
  pub can : AllByRecursion CanWrite more
  pub all : ls ≡ ks ++ more
  pub is : rest ≡ records_bytes f (last_check f before ks) more ++ tail

same_first : (f : Format) (before : List ℕ) (a b : Input) (xs ys : List ℕ) → CanWrite a → CanWrite b
    → record_bytes f before a ++ xs ≡ record_bytes f before b ++ ys → (a ≡ b) × (xs ≡ ys)
same_first f before a b xs ys p q e =
    let same = record_same (input_bytes a) (input_bytes b) (next_check f before a ++ xs) (next_check f before b ++ ys)
    (input_is_short a p) (input_is_short b q) (sym (parts f before a xs) ∙ e ∙ parts f before b ys) in
    let one : a ≡ b = one_input a b p q same.0 in
    let behind : next_check f before a ++ xs ≡ next_check f before a ++ ys = same.1
    ∙ ap (λ (i : Input). next_check f before i ++ ys) (sym one) in
    let n : ℕ = length (next_check f before a) in (
      one,
      sym (drop_at (next_check f before a) xs n refl) ∙ ap (drop n) behind
          ∙ drop_at (next_check f before a) ys n refl,
    )

split_first : (f : Format) (before : List ℕ) (a : Input) (ks : List Input) (rest : List ℕ)
    → records_bytes f before (a ∷ ks) ++ rest ≡ record_bytes f before a
    ++ (records_bytes f (next_check f before a) ks ++ rest)
split_first f before a ks rest = append_assoc (record_bytes f before a) (records_bytes f (next_check f before a) ks)
    rest

pub strip : (f : Format) (before : List ℕ) (ks ls : List Input) (rest : List ℕ) (gate : ℕ) (tail : List ℕ)
    → AllByRecursion CanWrite ks → AllByRecursion CanWrite ls → gate ≢ 1
    → records_bytes f before ks ++ rest ≡ records_bytes f before ls ++ gate ∷ tail
    → Left f before ks ls rest (gate ∷ tail)
strip f before [] ls rest gate tail p q shut e = record { more = ls; can = q; all = refl; is = e }
strip f before (a ∷ ks) [] rest gate tail p q shut e =
    absurd (shut (first_same gate 1 tail ((body_bytes a ++ next_check f before a)
    ++ (records_bytes f (next_check f before a) ks ++ rest))
    (sym e ∙ split_first f before a ks rest)))
strip f before (a ∷ ks) (b ∷ ls) rest gate tail p q shut e =
    let same = same_first f before a b (records_bytes f (next_check f before a) ks ++ rest)
    (records_bytes f (next_check f before b) ls ++ gate ∷ tail)
    p.0 q.0 (sym (split_first f before a ks rest) ∙ e ∙ split_first f before b ls (gate ∷ tail)) in
    let behind : records_bytes f (next_check f before a) ks ++ rest ≡ records_bytes f (next_check f before a) ls
    ++ gate ∷ tail =
    same.1 ∙ ap (λ (i : Input). records_bytes f (next_check f before i) ls ++ gate ∷ tail) (sym same.0) in
    let left = strip f (next_check f before a) ks ls rest gate tail p.1 q.1 shut behind in
    record { more = left.more; can = left.can; all = (λ i. sym same.0 i ∷ left.all i); is = left.is }

-- ---- journals

format_is : (f : Format) (site n : ℕ) (rest : List ℕ) → format_in (head_bytes f site n ++ rest) ≡ f
format_is Plain site n rest = refl
format_is Checked site n rest = refl

pub format_of_journal : (f : Format) (site n : ℕ) (inputs : List Input) (bytes rest : List ℕ) → bytes
    ≡ journal_bytes f site n inputs ++ rest
    → format_in bytes ≡ f
format_of_journal f site n inputs bytes rest e =
    ap format_in (e ∙ append_assoc (head_bytes f site n) (records_bytes f (first_check f site n) inputs) rest)
    ∙ format_is f site n (records_bytes f (first_check f site n) inputs ++ rest)

-- a journal, of which these inputs were read
pub left_of_journal : (f g : Format) (site n : ℕ) (ks ls : List Input) (bytes rest : List ℕ)
    → AllByRecursion CanWrite ks → AllByRecursion CanWrite ls → bytes ≡ journal_bytes f site n ks ++ rest
    → (j : IsJournal g site n ls bytes) → (f ≡ g) × Left f (first_check f site n) ks ls rest (j.gate ∷ j.rest)
left_of_journal f g site n ks ls bytes rest p q e j =
    let same : f ≡ g = sym (format_of_journal f site n ks bytes rest e)
    ∙ format_of_journal g site n ls bytes (j.gate ∷ j.rest) j.is in
    let start : List ℕ = first_check f site n in
    let head : List ℕ = head_bytes f site n in
    let both : head ++ (records_bytes f start ks ++ rest) ≡ head ++ (records_bytes f start ls ++ j.gate ∷ j.rest) =
    sym (append_assoc head (records_bytes f start ks) rest) ∙ sym e ∙ j.is
    ∙ ap (λ (h : Format). journal_bytes h site n ls ++ j.gate ∷ j.rest) (sym same)
    ∙ append_assoc head (records_bytes f start ls) (j.gate ∷ j.rest) in
    let n_head : ℕ = length head in
    let behind : records_bytes f start ks ++ rest ≡ records_bytes f start ls ++ j.gate ∷ j.rest =
    sym (drop_at head (records_bytes f start ks ++ rest) n_head refl) ∙ ap (drop n_head) both
    ∙ drop_at head (records_bytes f start ls ++ j.gate ∷ j.rest) n_head refl in
    (same, strip f start ks ls rest j.gate j.rest p q j.shut behind)

-- no bytes are two journals
ends : (f : Format) (before : List ℕ) (ks ls : List Input) (gate : ℕ) (rest tail : List ℕ) → gate ≢ 1
    → Left f before ks ls (gate ∷ rest) tail → ks ≡ ls
ends f before ks ls gate rest tail shut left = by_more left.more left.all left.is
  where
    by_more : (more : List Input) → ls ≡ ks ++ more → gate ∷ rest ≡ records_bytes f (last_check f before ks) more
        ++ tail → ks ≡ ls
    by_more [] all is = sym (all ∙ append-nil ks)
    by_more (i ∷ more) all is =
        let last : List ℕ = last_check f before ks in
        absurd (shut (first_same gate 1 rest ((body_bytes i ++ next_check f last i)
        ++ (records_bytes f (next_check f last i) more ++ tail)) (is ∙ split_first f last i more tail)))

pub one_journal : (f g : Format) (site n : ℕ) (ks ls : List Input) (bytes : List ℕ) → AllByRecursion CanWrite ks
    → AllByRecursion CanWrite ls
    → IsJournal f site n ks bytes → IsJournal g site n ls bytes → (f ≡ g) × (ks ≡ ls)
one_journal f g site n ks ls bytes p q j k =
    let left = left_of_journal f g site n ks ls bytes (j.gate ∷ j.rest) p q j.is k in
    (left.0, ends f (first_check f site n) ks ls j.gate j.rest (k.gate ∷ k.rest) j.shut left.1)

-- where no record and no closed gate stands behind some inputs, the bytes are no journal
pub no_journal : (f g : Format) (site n : ℕ) (ks ls : List Input) (bytes rest : List ℕ) → AllByRecursion CanWrite ks
    → AllByRecursion CanWrite ls
    → bytes ≡ journal_bytes f site n ks ++ rest
    → ((input : Input) → CanWrite input → ¬ Begins (record_bytes f (journal_check f site n ks) input) rest)
    → ((gate : ℕ) (more : List ℕ) → gate ≢ 1 → rest ≢ gate ∷ more) → ¬ IsJournal g site n ls bytes
no_journal f g site n ks ls bytes rest p q e no_record no_gate j = by_more left.more left.can left.is
  where
    left : Left f (first_check f site n) ks ls rest (j.gate ∷ j.rest)
    left = (left_of_journal f g site n ks ls bytes rest p q e j).1

    by_more : (more : List Input) → AllByRecursion CanWrite more → rest
        ≡ records_bytes f (journal_check f site n ks) more ++ j.gate ∷ j.rest → ⊥
    by_more [] can is = no_gate j.gate j.rest j.shut is
    by_more (i ∷ more) can is =
        let last : List ℕ = journal_check f site n ks in
        no_record i can.0 (
          records_bytes f (next_check f last i) more ++ j.gate ∷ j.rest,
          is
              ∙ split_first f last i more (j.gate ∷ j.rest),
        )
