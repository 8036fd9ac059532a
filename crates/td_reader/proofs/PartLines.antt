-- Where the parts of a trace begin, and which lines stand there.
use Rattle.std.proofs.Common.{◌≡◌, ◌<◌, ◌≤◌, ◌+◌, ◌-◌, ℕ, zero, suc, true, List, [], ◌∷◌, ◌++◌, length, map, take}
use Rattle.std.proofs.Common.{◌≢◌, Option, None, Some, refl, sym, ap, subst, ◌∙◌, append_assoc, append-nil, arith}
use Rattle.std.proofs.Common.{length-append}
use Rattle.std.specs.Prelude.{MatchOption, get_or, is_some, option_and_then, option_map, slice_get, unwrap_or}
use Rattle.std.proofs.lemmas.List.{length-map}
use Rattle.std.proofs.lemmas.Option.{none-some, same_Some, slice_get-map}
use Rattle.std.proofs.lemmas.Option.{slice_get_within}
use Rattle.td_base.proofs.Elements.{get_front}
use Rattle.td_base.proofs.Places.{some_at}
use Rattle.td_trace.specs.declared.entry.TraceEntry.{TraceEntry}
use Rattle.td_trace.specs.declared.log.Did.{Did}
use Rattle.td_trace.specs.declared.log.Did.TheVariants.{Call, Look}
use Rattle.td_trace.specs.declared.log.EditorLog.{EditorLog}
use Rattle.td_report.specs.Trace.{did_said, entry_said, history_said, log_said, numbered, text_said}
use Rattle.td_report.specs.TraceLines.{TraceLine, EntryIs, EditorAt, TextIs, Ended}
use Rattle.td_reader.specs.Form.{said}
use Rattle.td_reader.specs.LineNumbers.{LinesAreNumbered, did_count, history_lines, line_of_end, log_lines, part_lines}
use Rattle.td_reader.specs.Parts.{begins_of, part_sizes}
use Rattle.td_reader.specs.Said.{did_in, entry_in, home_in, text_in}
use Rattle.td_reader.specs.Values.{TraceValue, IsTraceValue}

-- ---- lists

get_behind : {X : Type 0} (xs ys : List X) (k : ℕ) → slice_get (xs ++ ys) (length xs + k) ≡ slice_get ys k
get_behind [] ys k = let same : 0 + k ≡ k = omega arith in ap (slice_get ys) same
get_behind (x ∷ xs) ys k =
    let same : suc (length xs) + k ≡ suc (length xs + k) = omega arith in
    ap (slice_get (x ∷ xs ++ ys)) same ∙ get_behind xs ys k

take_front_of : {X : Type 0} (xs ys : List X) (k : ℕ) → k ≤ length xs → take k (xs ++ ys) ≡ take k xs
take_front_of xs ys zero h = refl
take_front_of [] ys (suc k) h = absurd (omega arith)
take_front_of (x ∷ xs) ys (suc k) h = ap (λ t. x ∷ t) (take_front_of xs ys k (omega arith))

take_behind : {X : Type 0} (xs ys : List X) (k : ℕ) → take (length xs + k) (xs ++ ys) ≡ xs ++ take k ys
take_behind [] ys k = let same : 0 + k ≡ k = omega arith in ap (λ n. take n ys) same
take_behind (x ∷ xs) ys k =
    let same : suc (length xs) + k ≡ suc (length xs + k) = omega arith in
    ap (λ n. take n (x ∷ xs ++ ys)) same ∙ ap (λ t. x ∷ t) (take_behind xs ys k)

take_map : {X Y : Type 0} (f : X → Y) (xs : List X) (k : ℕ) → take k (map f xs) ≡ map f (take k xs)
take_map f xs zero = refl
take_map f [] (suc k) = refl
take_map f (x ∷ xs) (suc k) = ap (λ t. f x ∷ t) (take_map f xs k)

-- ---- how many lines there are in front

-- that many lines below the first
abbrev pub as_many : ℕ → ℕ
as_many size = size

pub lines_mapped : {X : Type 0} (below : X → ℕ) (xs : List X) → part_lines as_many (map below xs) ≡ part_lines below xs
lines_mapped below [] = refl
lines_mapped below (x ∷ xs) = ap (λ (n : ℕ). 1 + below x + n) (lines_mapped below xs)

pub lines_behind : {X : Type 0} (below : X → ℕ) (xs ys : List X)
    → part_lines below (xs ++ ys) ≡ part_lines below xs + part_lines below ys
lines_behind below [] ys = omega arith
lines_behind below (x ∷ xs) ys = omega (arith, lines_behind below xs ys)

begins_at : (at : ℕ) (sizes : List ℕ) (k : ℕ) → k ≤ length sizes
    → slice_get (begins_of at sizes) k ≡ Some (at + part_lines as_many (take k sizes))
begins_at at [] zero h = let same : at ≡ at + 0 = omega arith in ap (λ (n : ℕ). Some n) same
begins_at at [] (suc k) h = absurd (omega arith)
begins_at at (size ∷ sizes) zero h = let same : at ≡ at + 0 = omega arith in ap (λ (n : ℕ). Some n) same
begins_at at (size ∷ sizes) (suc k) h =
    let front : ℕ = part_lines as_many (take k sizes) in
    let same : at + 1 + size + front ≡ at + (1 + size + front) = omega arith in
    begins_at (at + 1 + size) sizes k (omega arith) ∙ ap (λ (n : ℕ). Some n) same

pub begins_length : (at : ℕ) (sizes : List ℕ) → length (begins_of at sizes) ≡ length sizes + 1
begins_length at [] = refl
begins_length at (size ∷ sizes) = omega (arith, begins_length (at + 1 + size) sizes)

-- what is said of a part has a first line, and so many below it
abbrev SaysBelow : {X Y : Type 0} → (ℕ → X → List Y) → (X → ℕ) → Type 0
SaysBelow {X} {Y} say below = (n : ℕ) (x : X) → length (say n x) ≡ 1 + below x

numbered_length : {X Y : Type 0} (say : ℕ → X → List Y) (below : X → ℕ) → SaysBelow say below → (n : ℕ) (xs : List X)
    → length (numbered say n xs) ≡ part_lines below xs
numbered_length say below each n [] = refl
numbered_length say below each n (x ∷ xs) =
    omega (
      arith,
      length-append (say n x) (numbered say (n + 1) xs),
      each n x,
      numbered_length say below each (n + 1) xs,
    )

-- the line so far below the first of a part
line_below : {X Y : Type 0} (say : ℕ → X → List Y) (below : X → ℕ) → SaysBelow say below → (n : ℕ) (xs : List X)
    (rest : List Y) (k j : ℕ) (x : X) → slice_get xs k ≡ Some x → j ≤ below x
    → slice_get (numbered say n xs ++ rest) (part_lines below (take k xs) + j) ≡ slice_get (say (n + k) x) j
line_below say below each n [] rest k j x e h = absurd (none-some x e)
line_below {X} {Y} say below each n (y ∷ xs) rest zero j x e h =
    let others : List Y = numbered say (n + 1) xs in
    let same : y ≡ x = same_Some y x e in
    let few : j ≤ below y = subst (λ (z : X). j ≤ below z) (sym same) h in
    let place : 0 + j ≡ j = omega arith in
    let number : n ≡ n + 0 = omega arith in
    ap (slice_get ((say n y ++ others) ++ rest)) place
    ∙ ap (λ (ys : List Y). slice_get ys j) (append_assoc (say n y) others rest)
    ∙ get_front (say n y) (others ++ rest) j (omega (arith, each n y))
    ∙ (λ i. slice_get (say (number i) (same i)) j)
line_below {X} {Y} say below each n (y ∷ xs) rest (suc k) j x e h =
    let others : List Y = numbered say (n + 1) xs in
    let front : ℕ = part_lines below (take k xs) in
    let count : length (say n y) ≡ 1 + below y = each n y in
    let place : 1 + below y + front + j ≡ length (say n y) + (front + j) = omega arith in
    let number : n + 1 + k ≡ n + suc k = omega arith in
    ap (slice_get ((say n y ++ others) ++ rest)) place
    ∙ ap (λ (ys : List Y). slice_get ys (length (say n y) + (front + j))) (append_assoc (say n y) others rest)
    ∙ get_behind (say n y) (others ++ rest) (front + j)
    ∙ line_below say below each (n + 1) xs rest k j x e h
    ∙ ap (λ (m : ℕ). slice_get (say m x) j) number

-- one line each
single_at : {X Y : Type 0} (say : ℕ → X → Y) (n : ℕ) (xs : List X) (rest : List Y) (k : ℕ) (x : X)
    → slice_get xs k ≡ Some x
    → slice_get (numbered (λ m y. say m y ∷ []) n xs ++ rest) k ≡ Some (say (n + k) x)
single_at say n [] rest k x e = absurd (none-some x e)
single_at say n (y ∷ xs) rest zero x e =
    let number : n ≡ n + 0 = omega arith in
    let same = same_Some y x e in
    (λ i. Some (say (number i) (same i)))
single_at say n (y ∷ xs) rest (suc k) x e =
    let number : n + 1 + k ≡ n + suc k = omega arith in
    single_at say (n + 1) xs rest k x e ∙ ap (λ (m : ℕ). Some (say m x)) number

single_length : {X Y : Type 0} (say : ℕ → X → Y) (n : ℕ) (xs : List X)
    → length (numbered (λ m y. say m y ∷ []) n xs) ≡ length xs
single_length say n [] = refl
single_length say n (x ∷ xs) = ap suc (single_length say (n + 1) xs)

-- ---- the parts of a trace

history_below : SaysBelow history_said length
history_below n history = omega (arith, single_length EntryIs 1 history)

log_below : SaysBelow log_said did_count
log_below n log = omega (arith, length-map {A = Did} {B = TraceLine} log.did did_said)

mapped_length : {X : Type 0} (f : X → ℕ) (xs : List X) → length (map f xs) ≡ length xs
mapped_length {X} f xs = length-map {A = X} {B = ℕ} xs f

pub part_count : (t : TraceValue) → length (part_sizes t) ≡ length t.histories + length t.logs
part_count t = omega (
  arith,
  length-append (map length t.histories) (map did_count t.logs),
  mapped_length length t.histories,
  mapped_length did_count t.logs,
)

-- where the history at this place begins
pub history_begins : (t : TraceValue) (k : ℕ) → k < length t.histories
    → slice_get (begins_of 1 (part_sizes t)) k ≡ Some (1 + history_lines (take k t.histories))
history_begins t k h =
    let count = part_count t in
    let few : k ≤ length (map length t.histories) = omega (arith, mapped_length length t.histories) in
    begins_at 1 (part_sizes t) k (omega arith)
    ∙ ap (λ (sizes : List ℕ). Some (1 + part_lines as_many sizes))
    (take_front_of (map length t.histories) (map did_count t.logs) k few ∙ take_map length t.histories k)
    ∙ ap (λ (n : ℕ). Some (1 + n)) (lines_mapped length (take k t.histories))

-- where what the editor at this place did begins, and behind the last the texts
pub log_begins : (t : TraceValue) (k : ℕ) → k ≤ length t.logs
    → slice_get (begins_of 1 (part_sizes t)) (length t.histories + k) ≡ Some
    (1 + history_lines t.histories + log_lines (take k t.logs))
log_begins t k h =
    let count = part_count t in
    let front : List ℕ = map length t.histories in
    let back : List ℕ = map did_count t.logs in
    let place : length t.histories + k ≡ length front + k = omega (arith, mapped_length length t.histories) in
    let lines : part_lines as_many (front ++ take k back) ≡ history_lines t.histories + log_lines (take k t.logs) =
    lines_behind as_many front (take k back)
    ∙ (λ i. lines_mapped length t.histories i + part_lines as_many (take_map did_count t.logs k i))
    ∙ ap (λ (n : ℕ). history_lines t.histories + n) (lines_mapped did_count (take k t.logs)) in
    let sum : 1 + (history_lines t.histories + log_lines (take k t.logs)) ≡ 1 + history_lines t.histories + log_lines
    (take k t.logs) = omega arith in
    begins_at 1 (part_sizes t) (length t.histories + k) (omega arith)
    ∙ ap (λ (n : ℕ). Some (1 + part_lines as_many (take n (front ++ back)))) place
    ∙ ap (λ (sizes : List ℕ). Some (1 + part_lines as_many sizes)) (take_behind front back k)
    ∙ ap (λ (n : ℕ). Some (1 + n)) lines ∙ ap (λ (n : ℕ). Some n) sum

take_all_of : {X : Type 0} (xs : List X) → take (length xs) xs ≡ xs
take_all_of [] = refl
take_all_of (x ∷ xs) = ap (λ t. x ∷ t) (take_all_of xs)

pub texts_begin : (t : TraceValue) (part : ℕ) → part ≡ length (part_sizes t)
    → slice_get (begins_of 1 (part_sizes t)) part ≡ Some (1 + history_lines t.histories + log_lines t.logs)
texts_begin t part e =
    let place : part ≡ length t.histories + length t.logs = omega (arith, part_count t) in
    ap (slice_get (begins_of 1 (part_sizes t))) place ∙ log_begins t (length t.logs) (omega arith)
    ∙ ap (λ (logs : List EditorLog). Some (1 + history_lines t.histories + log_lines logs)) (take_all_of t.logs)

pub log_size : (t : TraceValue) (part k : ℕ) → part ≡ length t.histories + k
    → slice_get (part_sizes t) part ≡ option_map did_count (slice_get t.logs k)
log_size t part k e =
    let place : part ≡ length (map length t.histories) + k = omega (arith, mapped_length length t.histories) in
    ap (slice_get (part_sizes t)) place ∙ get_behind (map length t.histories) (map did_count t.logs) k
    ∙ slice_get-map did_count t.logs k

-- how many lines a part has below its first, by where it and the next begin
pub record IsSized (sizes : List ℕ) (part begin end : ℕ) : Type 0 where
  pub further : begin + 1 ≤ end
  pub size : slice_get sizes part ≡ Some (end - begin - 1)

first_begin : (at : ℕ) (sizes : List ℕ) → slice_get (begins_of at sizes) 0 ≡ Some at
first_begin at [] = refl
first_begin at (size ∷ sizes) = refl

pub sized : (at : ℕ) (sizes : List ℕ) (part begin end : ℕ) → slice_get (begins_of at sizes) part ≡ Some begin
    → slice_get (begins_of at sizes) (part + 1) ≡ Some end → IsSized sizes part begin end
sized at [] zero begin end e f = absurd (none-some end f)
sized at [] (suc part) begin end e f = absurd (none-some begin e)
sized at (size ∷ sizes) zero begin end e f =
    let from : at ≡ begin = same_Some at begin e in
    let to : at + 1 + size ≡ end = same_Some (at + 1 + size) end (sym (first_begin (at + 1 + size) sizes) ∙ f) in
    let is : size ≡ end - begin - 1 = omega arith in
    record { further = omega arith; size = ap (λ (n : ℕ). Some n) is }
sized at (size ∷ sizes) (suc part) begin end e f =
    let place : suc (part + 1) ≡ suc part + 1 = omega arith in
    let rest = sized (at + 1 + size) sizes part begin end e
    (ap (slice_get (begins_of at (size ∷ sizes))) place ∙ f) in
    record { further = rest.further; size = rest.size }

-- ---- the lines of a trace

-- the entry at this place, in the history at this place
pub entry_there : (t : TraceValue) (k j : ℕ) (history : List TraceEntry) (entry : TraceEntry)
    → slice_get t.histories k ≡ Some history → slice_get history j ≡ Some entry
    → slice_get (said t) (1 + history_lines (take k t.histories) + 1 + j) ≡ Some (EntryIs (1 + j) entry)
entry_there t k j history entry e f =
    let front : ℕ = history_lines (take k t.histories) in
    let rest : List TraceLine = numbered log_said 1 t.logs ++ (numbered text_said 1 t.texts ++ Ended ∷ []) in
    let within : j < length history = slice_get_within history j entry f in
    let place : 1 + front + 1 + j ≡ suc (front + suc j) = omega arith in
    ap (slice_get (said t)) place
    ∙ line_below history_said length (λ n h. history_below n h) 1 t.histories rest k (suc j) history e (omega arith)
    ∙ sym (ap (λ (lines : List TraceLine). slice_get lines j) (append-nil (numbered entry_said 1 history)))
    ∙ single_at EntryIs 1 history [] j entry f

-- behind the histories
behind_front : (t : TraceValue) (n : ℕ)
    → slice_get (said t) (1 + history_lines t.histories + n) ≡ slice_get
    (numbered log_said 1 t.logs ++ (numbered text_said 1 t.texts ++ Ended ∷ [])) n
behind_front t n =
    let front : List TraceLine = numbered history_said 1 t.histories in
    let rest : List TraceLine = numbered log_said 1 t.logs ++ (numbered text_said 1 t.texts ++ Ended ∷ []) in
    let count : length front ≡ history_lines t.histories = numbered_length history_said length
    (λ n h. history_below n h) 1 t.histories in
    let place : 1 + history_lines t.histories + n ≡ suc (length front + n) = omega arith in
    ap (slice_get (said t)) place ∙ get_behind front rest n

-- behind what the editors did
behind_all : (t : TraceValue) (n : ℕ)
    → slice_get (said t) (1 + history_lines t.histories + log_lines t.logs + n) ≡ slice_get
    (numbered text_said 1 t.texts ++ Ended ∷ []) n
behind_all t n =
    let logs : List TraceLine = numbered log_said 1 t.logs in
    let count : length logs ≡ log_lines t.logs = numbered_length log_said did_count (λ n l. log_below n l) 1 t.logs in
    let place : 1 + history_lines t.histories + log_lines t.logs + n ≡ 1 + history_lines t.histories +
    (length logs + n) = omega arith in
    ap (slice_get (said t)) place ∙ behind_front t (length logs + n) ∙ get_behind logs
    (numbered text_said 1 t.texts ++ Ended ∷ []) n

-- the editor at this place
pub editor_there : (t : TraceValue) (k : ℕ) (log : EditorLog) → slice_get t.logs k ≡ Some log
    → slice_get (said t) (1 + history_lines t.histories + log_lines (take k t.logs)) ≡ Some (EditorAt (1 + k) log.home)
editor_there t k log e =
    let front : ℕ = log_lines (take k t.logs) in
    let place : 1 + history_lines t.histories + front ≡ 1 + history_lines t.histories + (front + 0) = omega arith in
    ap (slice_get (said t)) place ∙ behind_front t (front + 0)
    ∙ line_below log_said did_count (λ n l. log_below n l) 1 t.logs (numbered text_said 1 t.texts ++ Ended ∷ []) k 0
    log e (omega arith)

-- what the editor at this place did, at this place
pub did_there : (t : TraceValue) (k j : ℕ) (log : EditorLog) (did : Did) → slice_get t.logs k ≡ Some log
    → slice_get log.did j ≡ Some did
    → slice_get (said t) (1 + history_lines t.histories + log_lines (take k t.logs) + 1 + j) ≡ Some (did_said did)
did_there t k j log did e f =
    let front : ℕ = log_lines (take k t.logs) in
    let within : j < length log.did = slice_get_within log.did j did f in
    let place : 1 + history_lines t.histories + front + 1 + j ≡ 1 + history_lines t.histories + (front + suc j) =
    omega arith in
    ap (slice_get (said t)) place ∙ behind_front t (front + suc j)
    ∙ line_below log_said did_count (λ n l. log_below n l) 1 t.logs (numbered text_said 1 t.texts ++ Ended ∷ []) k
    (suc j) log e (omega arith)
    ∙ slice_get-map did_said log.did j ∙ ap (option_map did_said) f

-- the text at this place
pub text_there : (t : TraceValue) (k : ℕ) (text : List ℕ) → slice_get t.texts k ≡ Some text
    → slice_get (said t) (1 + history_lines t.histories + log_lines t.logs + k) ≡ Some (TextIs (1 + k) text)
text_there t k text e = behind_all t k ∙ single_at TextIs 1 t.texts (Ended ∷ []) k text e

pub end_there : (t : TraceValue)
    → slice_get (said t) (1 + history_lines t.histories + log_lines t.logs + length t.texts) ≡ Some Ended
end_there t =
    let texts : List TraceLine = numbered text_said 1 t.texts in
    let place : length t.texts ≡ length texts + 0 = omega (arith, single_length TextIs 1 t.texts) in
    behind_all t (length t.texts) ∙ ap (slice_get (texts ++ Ended ∷ [])) place ∙ get_behind texts (Ended ∷ []) 0

pub said_length : (t : TraceValue) → length (said t) ≡ line_of_end t
said_length t =
    let front : List TraceLine = numbered history_said 1 t.histories in
    let logs : List TraceLine = numbered log_said 1 t.logs in
    let texts : List TraceLine = numbered text_said 1 t.texts in
    let first : length front ≡ history_lines t.histories = numbered_length history_said length
    (λ n h. history_below n h) 1 t.histories in
    let second : length logs ≡ log_lines t.logs = numbered_length log_said did_count (λ n l. log_below n l) 1 t.logs in
    let third : length texts ≡ length t.texts = single_length TextIs 1 t.texts in
    omega (
      arith,
      length-append front (logs ++ (texts ++ Ended ∷ [])),
      length-append logs (texts ++ Ended ∷ []),
      length-append texts (Ended ∷ []),
    )

-- ---- by their numbers

some_there : {X : Type 0} (xss : List (List X)) (k j : ℕ) (x : X) → slice_get (get_or xss k []) j ≡ Some x
    → slice_get xss k ≡ Some (get_or xss k [])
some_there [] k j x e = absurd (none-some x e)
some_there (xs ∷ xss) zero j x e = refl
some_there (xs ∷ xss) (suc k) j x e = some_there xss k j x e

pub numbered_lines : (t : TraceValue) → LinesAreNumbered t
numbered_lines t = record {
  entries = λ site k entry s p e.
      let front : ℕ = history_lines (take (site - 1) t.histories) in
      let place : 1 + front + 1 + k - 1 ≡ 1 + front + 1 + (k - 1) = omega arith in
      let number : 1 + (k - 1) ≡ k = omega arith in
      ap (slice_get (said t)) place
      ∙ entry_there t (site - 1) (k - 1) (get_or t.histories (site - 1) []) entry
      (some_there t.histories (site - 1) (k - 1) entry e) e
      ∙ ap (λ (n : ℕ). Some (EntryIs n entry)) number;
  dids = λ editor j log did s p e f.
      let front : ℕ = log_lines (take (editor - 1) t.logs) in
      let place : 1 + history_lines t.histories + front + 1 + j - 1 ≡ 1 + history_lines t.histories + front + 1 +
      (j - 1) = omega arith in
      ap (slice_get (said t)) place ∙ did_there t (editor - 1) (j - 1) log did e f;
  texts = λ site text s e.
      let place : 1 + history_lines t.histories + log_lines t.logs + site - 1 ≡ 1 + history_lines t.histories +
      log_lines t.logs + (site - 1) = omega arith in
      let number : 1 + (site - 1) ≡ site = omega arith in
      ap (slice_get (said t)) place ∙ text_there t (site - 1) text e ∙ ap (λ (n : ℕ). Some (TextIs n text)) number;
  end =
      let place : line_of_end t - 1 ≡ 1 + history_lines t.histories + log_lines t.logs + length t.texts = omega arith in
      ap (slice_get (said t)) place ∙ end_there t;
}

-- ---- as the code has it

pub begin_is : (at : ℕ) (sizes : List ℕ) (part : ℕ) → part ≤ length sizes
    → slice_get (begins_of at sizes) part ≢ None
begin_is at sizes part h e = none-some (at + part_lines as_many (take part sizes)) (sym e ∙ begins_at at sizes part h)

pub is_found : {X : Type 0} (o : Option X) (x : X) → o ≡ Some x → is_some o ≡ true
is_found o x e = ap is_some e

some_within : {X : Type 0} (xss : List (List X)) (k : ℕ) → 0 < length (get_or xss k []) → k < length xss
some_within [] k h = absurd (omega arith)
some_within (xs ∷ xss) zero h = omega arith
some_within (xs ∷ xss) (suc k) h = omega (arith, some_within xss k h)

-- where the history of a site begins
pub history_found : (t : TraceValue) (site part : ℕ) (o : Option ℕ) → part ≡ site - 1
    → 0 < length (get_or t.histories (site - 1) []) → o ≡ slice_get (begins_of 1 (part_sizes t)) part
    → o ≡ Some (1 + history_lines (take (site - 1) t.histories))
history_found t site part o place some e =
    e ∙ ap (slice_get (begins_of 1 (part_sizes t))) place ∙ history_begins t (site - 1)
    (some_within t.histories (site - 1) some)

-- where what an editor did begins
pub log_found : (t : TraceValue) (part k : ℕ) (o : Option ℕ) → part ≡ length t.histories + k → k < length t.logs
    → o ≡ slice_get (begins_of 1 (part_sizes t)) part
    → o ≡ Some (1 + history_lines t.histories + log_lines (take k t.logs))
log_found t part k o place some e =
    e ∙ ap (slice_get (begins_of 1 (part_sizes t))) place ∙ log_begins t k (omega arith)

-- the entry of a site at a place, and its line
pub record HasEntry (t : TraceValue) (site k begin : ℕ) : Type 0 where
  pub entry : TraceEntry
  pub is : slice_get (get_or t.histories (site - 1) []) k ≡ Some entry
  pub there : slice_get (said t) (begin + 1 + k) ≡ Some (EntryIs (1 + k) entry)
  pub within : begin + 1 + k < length (said t)

pub has_entry : (t : TraceValue) (site k begin : ℕ) → k < length (get_or t.histories (site - 1) [])
    → begin ≡ 1 + history_lines (take (site - 1) t.histories) → HasEntry t site k begin
has_entry t site k begin some e =
    let history : List TraceEntry = get_or t.histories (site - 1) [] in
    let found = some_at history k some in
    let there = ap (λ (n : ℕ). slice_get (said t) (n + 1 + k)) e
    ∙ entry_there t (site - 1) k history found.0 (some_there t.histories (site - 1) k found.0 found.1) found.1 in
    record {
      entry = found.0;
      is = found.1;
      there = there;
      within = slice_get_within (said t) (begin + 1 + k) (EntryIs (1 + k) found.0) there;
    }

pub entry_read : (t : TraceValue) (site k begin : ℕ) (line : TraceLine) (o : Option TraceEntry)
    → HasEntry t site k begin → slice_get (said t) (begin + 1 + k) ≡ Some line → o ≡ entry_in line
    → o ≡ slice_get (get_or t.histories (site - 1) []) k
entry_read t site k begin line o h e is =
    is ∙ ap entry_in (same_Some line (EntryIs (1 + k) h.entry) (sym e ∙ h.there)) ∙ sym h.is

-- an editor, and its line
pub record HasEditor (t : TraceValue) (k begin : ℕ) : Type 0 where
  pub log : EditorLog
  pub is : slice_get t.logs k ≡ Some log
  pub there : slice_get (said t) begin ≡ Some (EditorAt (1 + k) log.home)

pub has_editor : (t : TraceValue) (k begin : ℕ) → k < length t.logs
    → begin ≡ 1 + history_lines t.histories + log_lines (take k t.logs) → HasEditor t k begin
has_editor t k begin some e =
    let found = some_at t.logs k some in
    record {
      log = found.0;
      is = found.1;
      there = ap (slice_get (said t)) e ∙ editor_there t k found.0 found.1;
    }

pub home_read : (t : TraceValue) (k begin : ℕ) (line : TraceLine) (o : Option ℕ) → HasEditor t k begin
    → slice_get (said t) begin ≡ Some line → o ≡ home_in line
    → o ≡ option_map (λ (log : EditorLog). log.home) (slice_get t.logs k)
home_read t k begin line o h e is =
    is ∙ ap home_in (same_Some line (EditorAt (1 + k) h.log.home) (sym e ∙ h.there))
    ∙ sym (ap (option_map (λ (log : EditorLog). log.home)) h.is)

-- how many calls and looks an editor did, where there is one
abbrev pub did_count_at : TraceValue → ℕ → ℕ
did_count_at t k = unwrap_or (option_map did_count (slice_get t.logs k)) 0

-- what an editor did at a place, and its line
pub record HasDid (t : TraceValue) (k j begin : ℕ) : Type 0 where
  pub did : Did
  pub is : option_and_then (λ (log : EditorLog). slice_get log.did j) (slice_get t.logs k) ≡ Some did
  pub there : slice_get (said t) (begin + 1 + j) ≡ Some (did_said did)
  pub within : begin + 1 + j < length (said t)

pub has_did : (t : TraceValue) (k j begin : ℕ) → j < did_count_at t k
    → begin ≡ 1 + history_lines t.histories + log_lines (take k t.logs) → HasDid t k j begin
has_did t k j begin some e = at_log (slice_get t.logs k) refl some
  where
    at_log : (o : Option EditorLog) → slice_get t.logs k ≡ o → j < unwrap_or (option_map did_count o) 0
        → HasDid t k j begin
    at_log None f few = absurd (omega arith)
    at_log (Some log) f few =
        let found = some_at log.did j few in
        let there = ap (λ (n : ℕ). slice_get (said t) (n + 1 + j)) e ∙ did_there t k j log found.0 f found.1 in
        record {
          did = found.0;
          is = ap (option_and_then (λ (log : EditorLog). slice_get log.did j)) f ∙ found.1;
          there = there;
          within = slice_get_within (said t) (begin + 1 + j) (did_said found.0) there;
        }

did_in_said : (did : Did) → did_in (did_said did) ≡ Some did
did_in_said (Call call entry) = refl
did_in_said (Look calls upto text) = refl

pub did_read : (t : TraceValue) (k j begin : ℕ) (line : TraceLine) (o : Option Did) → HasDid t k j begin
    → slice_get (said t) (begin + 1 + j) ≡ Some line → o ≡ did_in line
    → o ≡ option_and_then (λ (log : EditorLog). slice_get log.did j) (slice_get t.logs k)
did_read t k j begin line o h e is =
    is ∙ ap did_in (same_Some line (did_said h.did) (sym e ∙ h.there)) ∙ did_in_said h.did ∙ sym h.is

-- the text of a site, and its line
pub record HasText (t : TraceValue) (site place : ℕ) : Type 0 where
  pub text : List ℕ
  pub is : slice_get t.texts (site - 1) ≡ Some text
  pub there : slice_get (said t) place ≡ Some (TextIs (1 + (site - 1)) text)

pub has_text : (t : TraceValue) (site place : ℕ) → IsTraceValue t → 1 ≤ site → site ≤ t.sites
    → place ≡ 1 + history_lines t.histories + log_lines t.logs + (site - 1) → HasText t site place
has_text t site place h least most e =
    let found = some_at t.texts (site - 1) (omega (arith, h.each_text)) in
    record {
      text = found.0;
      is = found.1;
      there = ap (slice_get (said t)) e ∙ text_there t (site - 1) found.0 found.1;
    }

pub text_read : (t : TraceValue) (site place : ℕ) (line : TraceLine) (o : Option (List ℕ)) → HasText t site place
    → slice_get (said t) place ≡ Some line → o ≡ text_in line → slice_get t.texts (site - 1) ≡ o
text_read t site place line o h e is =
    h.is ∙ sym (is ∙ ap text_in (same_Some line (TextIs (1 + (site - 1)) h.text) (sym e ∙ h.there)))

-- the line of each text is one of the lines
pub texts_within : (t : TraceValue) (site : ℕ) → IsTraceValue t → site ≤ t.sites
    → 1 + history_lines t.histories + log_lines t.logs + site < length (said t)
texts_within t site h most = omega (arith, said_length t, h.each_text)

pub match_found : {X : Type 0} (o found : Option X) → found ≡ o → MatchOption o (found ≡ None) (λ x. found ≡ Some x)
match_found None found e = e
match_found (Some x) found e = e
