-- Lines that were read up to some place: the bytes are a trace, or a line is the first that is not of the form.
use Rattle.std.proofs.Common.{◌≡◌, ◌≢◌, ◌<◌, ◌≤◌, ◌+◌, ◌-◌, ◌⊎◌, inl, inr, ℕ, zero, suc, true, false}
use Rattle.std.proofs.Common.{eqb, List, [], ◌∷◌, ◌++◌, length, map, take, drop, Some, None, refl, sym, ap}
use Rattle.std.proofs.Common.{subst, ◌∙◌, append_assoc, append-nil, length-append, arith, true≢false}
use Rattle.std.specs.List.{AllByRecursion, concat}
use Rattle.std.specs.Option.{option_and_then}
use Rattle.std.specs.Prelude.{slice_get}
use Rattle.std.proofs.Math.Seq.{drop-append-add}
use Rattle.std.proofs.lemmas.Bool.{eqb-true}
use Rattle.std.proofs.lemmas.List.{length-map, nil_from_length}
use Rattle.std.proofs.lemmas.List.Concat.{flat_map-append}
use Rattle.std.proofs.lemmas.Option.{none-some, same_Some, slice_get_past, some_pair_parts}
use Rattle.td_base.proofs.Passing.{all_append}
use Rattle.td_report.specs.Trace.{all_written}
use Rattle.td_report.specs.TraceLines.{TraceLine, written}
use Rattle.td_reader.specs.declared.reached.Reached.{Reached}
use Rattle.td_reader.specs.Form.{IsBeginning, IsFaultyForm, IsTraceOf, cut_lines, said, trace_bytes, trace_lines}
use Rattle.td_reader.specs.Lines.{line_at}
use Rattle.td_reader.specs.Places.{HasLinesAt, starts_of}
use Rattle.td_reader.specs.Reached.{nothing_read, reached_by}
use Rattle.td_reader.specs.Values.{TraceValue, IsTraceValue}
use Rattle.td_reader.proofs.Feeds.{cut_written, first_piece, pieces_whole, written_some}
use Rattle.td_reader.proofs.Fitting.{trace_fits}
use Rattle.td_reader.proofs.LineLaws.{FitsLine, line_back, line_there}
use Rattle.td_reader.proofs.Reaching.{IsAt, at_first, at_line, run, run_behind}
use Rattle.td_reader.proofs.Running.{AreWhole, can_end, nothing_begins, trace_run, whole_lines}

-- nothing was read, or lines that can follow each other
abbrev pub Opened : Reached → List TraceLine → Type 0
Opened r lines = ((r ≡ nothing_read) × (lines ≡ [])) ⊎ IsAt r lines

-- the lines in front of the rest were read, and begin at these places
pub record HasRead (bytes rest starts : List ℕ) (r : Reached) : Type 0 where
  pub lines : List TraceLine
  pub opened : Opened r lines
  pub fit : AllByRecursion FitsLine lines
  pub placed : starts ≡ starts_of 0 lines
  pub whole : bytes ≡ all_written lines ++ rest

opened_by : (r s : Reached) (lines : List TraceLine) (line : TraceLine) → Opened r lines → FitsLine line
    → reached_by r line ≡ Some s
    → IsAt s (lines ++ line ∷ [])
opened_by r s lines line (inl h) fits e =
    subst (λ (ls : List TraceLine). IsAt s (ls ++ line ∷ [])) (sym h.1)
    (at_first s line fits (ap (λ (t : Reached). reached_by t line) (sym h.0) ∙ e))
opened_by r s lines line (inr h) fits e = at_line r s lines line h fits e

opened_run : (r : Reached) (lines : List TraceLine) → Opened r lines → run nothing_read lines ≡ Some r
opened_run r lines (inl h) = ap (run nothing_read) h.1 ∙ ap (λ (t : Reached). Some t) (sym h.0)
opened_run r lines (inr h) = h.reached

opened_begins : (r : Reached) (lines : List TraceLine) → Opened r lines → IsBeginning (map written lines)
opened_begins r lines (inl h) = subst (λ (ls : List TraceLine). IsBeginning (map written ls)) (sym h.1) nothing_begins
opened_begins r lines (inr h) = can_end r lines h

starts_more : (at : ℕ) (lines : List TraceLine) (line : TraceLine)
    → starts_of at (lines ++ line ∷ []) ≡ starts_of at lines ++ (at + length (all_written lines)) ∷ []
starts_more at [] line = let same : at ≡ at + 0 = omega arith in ap (λ (n : ℕ). n ∷ []) same
starts_more at (l ∷ lines) line =
    let same : at + length (written l) + length (all_written lines) ≡ at + length (all_written (l ∷ lines)) =
    omega (arith, length-append (written l) (all_written lines)) in
    ap (λ (t : List ℕ). at ∷ t) (starts_more (at + length (written l)) lines line
    ∙ ap (λ (n : ℕ). starts_of (at + length (written l)) lines ++ n ∷ []) same)

pub read_more : (bytes rest starts behind : List ℕ) (r s : Reached) (line : TraceLine) (start : ℕ)
    (h : HasRead bytes rest starts r)
    → line_at rest ≡ Some (line, behind) → reached_by r line ≡ Some s → start ≡ length bytes - length rest
    → (next : HasRead bytes behind (starts ++ start ∷ []) s) × (next.lines ≡ h.lines ++ line ∷ [])
read_more bytes rest starts behind r s line start h e step is =
    let back = line_back rest line behind e in
    let place : start ≡ 0 + length (all_written h.lines) = omega
    (arith, ap length h.whole, length-append (all_written h.lines) rest) in (
      record {
        lines = h.lines ++ line ∷ [];
        opened = inr (opened_by r s h.lines line h.opened back.fits step);
        fit = all_append FitsLine h.lines (line ∷ []) h.fit (back.fits, tt);
        placed = (λ i. h.placed i ++ place i ∷ []) ∙ sym (starts_more 0 h.lines line);
        whole = h.whole ∙ ap (λ (t : List ℕ). all_written h.lines ++ t) back.whole
            ∙ sym (append_assoc (all_written h.lines) (written line) behind)
            ∙ ap (λ (t : List ℕ). t ++ behind) (sym (flat_map-append written h.lines (line ∷ [])
            ∙ ap (λ (t : List ℕ). all_written h.lines ++ t) (append-nil (written line))));
      },
      refl,
    )

-- ---- no bytes are two lines

heads : {X : Type 0} (x y : X) (xs ys : List X) → x ∷ xs ≡ y ∷ ys → x ≡ y
heads x y xs ys e = cc

tails : {X : Type 0} (x y : X) (xs ys : List X) → x ∷ xs ≡ y ∷ ys → xs ≡ ys
tails x y xs ys e = cc

no_cons : {X : Type 0} (y : X) (ys : List X) → ◌≢◌ {A = List X} [] (y ∷ ys)
no_cons y ys e = cc

pub same_written : (a b : TraceLine) → FitsLine a → FitsLine b → written a ≡ written b → a ≡ b
same_written a b h k e =
    (some_pair_parts a b [] [] (sym (line_there a [] h) ∙ ap (λ (t : List ℕ). line_at (t ++ [])) e
    ∙ line_there b [] k)).0

-- lines behind lines, by how they are written
pub record SplitsWritten (xs lines : List TraceLine) (tail : List (List ℕ)) : Type 0 where
  pub more : List TraceLine
  pub splits : xs ≡ lines ++ more
  pub written_are : map written more ≡ tail
  pub fit : AllByRecursion FitsLine more

pub split_written : (xs lines : List TraceLine) (tail : List (List ℕ)) → AllByRecursion FitsLine xs
    → AllByRecursion FitsLine lines
    → map written xs ≡ map written lines ++ tail → SplitsWritten xs lines tail
split_written xs [] tail h k e = record { more = xs; splits = refl; written_are = e; fit = h }
split_written [] (l ∷ lines) tail h k e = absurd (no_cons (written l) (map written lines ++ tail) e)
split_written (x ∷ xs) (l ∷ lines) tail h k e =
    let same : x ≡ l = same_written x l h.0 k.0 (heads (written x) (written l) (map written xs)
    (map written lines ++ tail) e) in
    let others = split_written xs lines tail h.1 k.1 (tails (written x) (written l) (map written xs)
    (map written lines ++ tail) e) in
    record {
      more = others.more;
      splits = (λ i. same i ∷ others.splits i);
      written_are = others.written_are;
      fit =
          others.fit;
    }

pub trace_cut : (t : TraceValue) → IsTraceValue t → cut_lines (trace_bytes t) ≡ trace_lines t
trace_cut t h =
    ap cut_lines (sym (append-nil (trace_bytes t))) ∙ cut_written (said t) [] (trace_fits t h) ∙ append-nil
    (map written (said t))

-- no bytes are the traces of two values: their lines are the same
pub same_said : (t u : TraceValue) → IsTraceValue t → IsTraceValue u → trace_bytes t ≡ trace_bytes u → said t ≡ said u
same_said t u h k e =
    let first : cut_lines (trace_bytes t) ≡ map written (said t) =
    ap cut_lines (sym (append-nil (trace_bytes t))) ∙ cut_written (said t) [] (trace_fits t h) ∙ append-nil
    (map written (said t)) in
    let second : cut_lines (trace_bytes u) ≡ map written (said u) ++ [] =
    ap cut_lines (sym (append-nil (trace_bytes u))) ∙ cut_written (said u) [] (trace_fits u k) in
    let split = split_written (said t) (said u) [] (trace_fits t h) (trace_fits u k)
    (sym first ∙ ap cut_lines e ∙ second) in
    at_more split.more split.splits split.written_are
  where
    at_more : (more : List TraceLine) → said t ≡ said u ++ more → map written more ≡ [] → said t ≡ said u
    at_more [] splits none = splits ∙ append-nil (said u)
    at_more (l ∷ more) splits none = absurd (no_cons (written l) (map written more) (sym none))

-- ---- faults

take_front : {X : Type 0} (xs ys : List X) (n : ℕ) → n ≡ length xs → take n (xs ++ ys) ≡ xs
take_front [] ys zero e = refl
take_front [] ys (suc n) e = absurd (omega arith)
take_front (x ∷ xs) ys zero e = absurd (omega arith)
take_front (x ∷ xs) ys (suc n) e = ap (λ t. x ∷ t) (take_front xs ys n (omega arith))

split_one : {X : Type 0} (xs : List X) (y : X) (ys : List X) → xs ++ y ∷ ys ≡ (xs ++ y ∷ []) ++ ys
split_one xs y ys = sym (append_assoc xs (y ∷ []) ys)

pub count_of : (lines : List TraceLine) (starts : List ℕ) (at : ℕ) → starts ≡ starts_of at lines
    → length starts ≡ length lines
count_of lines starts at e = ap length e ∙ counted lines at
  where
    counted : (ls : List TraceLine) (n : ℕ) → length (starts_of n ls) ≡ length ls
    counted [] n = refl
    counted (l ∷ ls) n = ap suc (counted ls (n + length (written l)))

good_front : (bytes rest starts : List ℕ) (r : Reached) (h : HasRead bytes rest starts r) → IsBeginning
    (take (length starts) (cut_lines bytes))
good_front bytes rest starts r h =
    let cut : cut_lines bytes ≡ map written h.lines ++ cut_lines rest = ap cut_lines h.whole
    ∙ cut_written h.lines rest h.fit in
    let count : length starts ≡ length (map written h.lines) = count_of h.lines starts 0 h.placed ∙ sym
    (length-map {A = TraceLine} {B = List ℕ} h.lines written) in
    subst IsBeginning (sym (ap (take (length starts)) cut ∙ take_front (map written h.lines) (cut_lines rest)
    (length starts) count)) (opened_begins r h.lines h.opened)

-- the next line is none, or cannot be the next
abbrev pub CannotFollow : Reached → List ℕ → Type 0
CannotFollow r rest = (line : TraceLine) (behind : List ℕ) → line_at rest ≡ Some (line, behind)
    → reached_by r line ≡ None

cannot_begin : (r : Reached) (rest : List ℕ) (lines : List TraceLine) (piece : List ℕ) (others behind : List (List ℕ))
    → Opened r lines
    → AllByRecursion FitsLine lines → cut_lines rest ≡ piece ∷ others → CannotFollow r rest
    → (t : TraceValue) → IsTraceValue t → map written (said t) ≡ map written lines ++ piece ∷ behind → ⊥
cannot_begin r rest lines piece others behind opened fit are cannot t is e =
    let split = split_written (said t) lines (piece ∷ behind) (trace_fits t is) fit e in
    at_more split.more split.splits split.written_are split.fit
  where
    at_more : (more : List TraceLine) → said t ≡ lines ++ more → map written more ≡ piece ∷ behind
        → AllByRecursion FitsLine more → ⊥
    at_more [] splits e fits = no_cons piece behind e
    at_more (l ∷ more) splits e fits =
        let first : written l ≡ piece = heads (written l) piece (map written more) behind e in
        let whole : rest ≡ written l ++ concat others = sym (pieces_whole rest) ∙ ap concat are ∙ ap
        (λ (p : List ℕ). p ++ concat others) (sym first) in
        let none : reached_by r l ≡ None = cannot l (concat others)
        (ap line_at whole ∙ line_there l (concat others) fits.0) in
        let runs = trace_run t is in
        none-some runs.final (sym (ap (option_and_then (λ n. run n more)) none) ∙ sym
        (run_behind nothing_read lines r (l ∷ more) (opened_run r lines opened))
        ∙ ap (run nothing_read) (sym splits) ∙ runs.reached)

pub faulty_line : (bytes : List ℕ) (b : ℕ) (bs starts : List ℕ) (r : Reached) → HasRead bytes (b ∷ bs) starts r
    → CannotFollow r (b ∷ bs)
    → IsFaultyForm (cut_lines bytes) (length starts + 1)
faulty_line bytes b bs starts r h cannot =
    let first = first_piece b bs in
    let front : List (List ℕ) = map written h.lines in
    let cut : cut_lines bytes ≡ front ++ first.piece ∷ first.others =
    ap cut_lines h.whole ∙ cut_written h.lines (b ∷ bs) h.fit ∙ ap (λ (t : List (List ℕ)). front ++ t) first.are in
    let count : length starts ≡ length front = count_of h.lines starts 0 h.placed ∙ sym
    (length-map {A = TraceLine} {B = List ℕ} h.lines written) in
    let one_more : length (front ++ first.piece ∷ []) ≡ length front + 1 = length-append front (first.piece ∷ []) in
    let taken : take (length starts + 1) (cut_lines bytes) ≡ front ++ first.piece ∷ [] =
    ap (take (length starts + 1)) (cut ∙ split_one front first.piece first.others)
    ∙ take_front (front ++ first.piece ∷ []) first.others (length starts + 1) (omega arith) in
    record {
      before = length starts;
      is = refl;
      good = good_front bytes (b ∷ bs) starts r h;
      bad = inl (
        omega (arith, ap length cut, length-append front (first.piece ∷ first.others)),
        λ (begins : IsBeginning (take (length starts + 1) (cut_lines bytes))).
            cannot_begin r (b ∷ bs) h.lines first.piece first.others begins.behind h.opened h.fit first.are cannot
            begins.whole begins.is
            (begins.splits ∙ ap (λ (t : List (List ℕ)). t ++ begins.behind) taken ∙ append_assoc front
            (first.piece ∷ []) begins.behind),
      );
    }

-- the end is missing
pub missing_end : (bytes rest starts : List ℕ) (r : Reached) → HasRead bytes rest starts r → rest ≡ []
    → r.is_ended ≡ false
    → IsFaultyForm (cut_lines bytes) (length starts + 1)
missing_end bytes rest starts r h none open_end =
    let front : List (List ℕ) = map written h.lines in
    let cut : cut_lines bytes ≡ front ++ [] = ap cut_lines h.whole ∙ cut_written h.lines rest h.fit ∙ ap
    (λ (t : List ℕ). front ++ cut_lines t) none in
    let count : length starts ≡ length front = count_of h.lines starts 0 h.placed ∙ sym
    (length-map {A = TraceLine} {B = List ℕ} h.lines written) in
    record {
      before = length starts;
      is = refl;
      good = good_front bytes rest starts r h;
      bad = inr (count ∙ sym (ap length (cut ∙ append-nil front)), λ t is e. ended t is (e ∙ cut));
    }
  where
    ended : (t : TraceValue) → IsTraceValue t → trace_lines t ≡ map written h.lines ++ [] → ⊥
    ended t is e =
        let split = split_written (said t) h.lines [] (trace_fits t is) h.fit e in
        at_more split.more split.splits split.written_are
      where
        at_more : (more : List TraceLine) → said t ≡ h.lines ++ more → map written more ≡ [] → ⊥
        at_more [] splits none =
            let runs = trace_run t is in
            let final : runs.final ≡ r =
            same_Some runs.final r (sym runs.reached ∙ ap (run nothing_read) splits
            ∙ run_behind nothing_read h.lines r [] (opened_run r h.lines h.opened)) in
            true≢false (sym runs.ended ∙ ap (λ (f : Reached). f.is_ended) final ∙ open_end)
        at_more (l ∷ more) splits none = no_cons (written l) (map written more) (sym none)

-- all was read
pub whole_read : (bytes rest starts : List ℕ) (r : Reached) (h : HasRead bytes rest starts r) → r.is_ended ≡ true
    → AreWhole r h.lines
whole_read bytes rest starts r h ended = at_opened h.opened
  where
    at_opened : Opened r h.lines → AreWhole r h.lines
    at_opened (inl o) = absurd (true≢false (sym ended ∙ ap (λ (f : Reached). f.is_ended) o.0))
    at_opened (inr at) = whole_lines r h.lines at ended

-- ---- how many lines there are

lines_are_few : (lines : List TraceLine) → AllByRecursion FitsLine lines → length lines ≤ length (all_written lines)
lines_are_few [] h = omega arith
lines_are_few (l ∷ lines) h =
    omega (arith, written_some l h.0, lines_are_few lines h.1, length-append (written l) (all_written lines))

pub starts_are_few : (bytes rest starts : List ℕ) (r : Reached) → HasRead bytes rest starts r
    → length starts + length rest ≤ length bytes
starts_are_few bytes rest starts r h =
    omega (
      arith,
      count_of h.lines starts 0 h.placed,
      lines_are_few h.lines h.fit,
      ap length h.whole,
      length-append
          (all_written h.lines) rest,
    )

-- a line that was read had a byte
pub line_shorter : (rest behind : List ℕ) (line : TraceLine) → line_at rest ≡ Some (line, behind)
    → length behind < length rest
line_shorter rest behind line e =
    let back = line_back rest line behind e in
    omega (arith, ap length back.whole, length-append (written line) behind, written_some line back.fits)

-- ---- a line is read again

pub record IsLineAt (bytes : List ℕ) (lines : List TraceLine) (k start : ℕ) : Type 0 where
  pub line : TraceLine
  pub more : List ℕ
  pub is : slice_get lines k ≡ Some line
  pub within : start ≤ length bytes
  pub reads : line_at (drop start bytes) ≡ Some (line, more)

record IsPlacedAt (lines : List TraceLine) (at k start : ℕ) : Type 0 where
  line : TraceLine
  more : List ℕ
  is : slice_get lines k ≡ Some line
  from : at ≤ start
  within : start ≤ at + length (all_written lines)
  there : drop (start - at) (all_written lines) ≡ written line ++ more
  fits : FitsLine line

placed_at : (lines : List TraceLine) (at k start : ℕ) → AllByRecursion FitsLine lines → slice_get
    (starts_of at lines) k ≡ Some start
    → IsPlacedAt lines at k start
placed_at [] at k start h e = absurd (none-some start e)
placed_at (l ∷ lines) at zero start h e =
    let same : at ≡ start = same_Some at start e in
    let none : start - at ≡ 0 = omega arith in
    record {
      line = l;
      more = all_written lines;
      is = refl;
      from = omega arith;
      within = omega arith;
      there = ap (λ (n : ℕ). drop n (all_written (l ∷ lines))) none;
      fits = h.0;
    }
placed_at (l ∷ lines) at (suc k) start h e =
    let rest = placed_at lines (at + length (written l)) k start h.1 e in
    let from : at + length (written l) ≤ start = rest.from in
    let split : start - at ≡ length (written l) + (start - (at + length (written l))) = omega arith in
    record {
      line = rest.line;
      more = rest.more;
      is = rest.is;
      from = omega arith;
      within = omega (arith, rest.within, length-append (written l) (all_written lines));
      there = ap (λ (n : ℕ). drop n (written l ++ all_written lines)) split
          ∙ drop-append-add (written l) (all_written lines) (start - (at + length (written l))) ∙ rest.there;
      fits = rest.fits;
    }

pub line_placed : (bytes starts : List ℕ) (h : HasLinesAt bytes starts) (k start : ℕ) → slice_get starts k ≡ Some start
    → IsLineAt bytes (said h.value) k start
line_placed bytes starts h k start e =
    let at = placed_at (said h.value) 0 k start (trace_fits h.value h.is)
    (sym (ap (λ (xs : List ℕ). slice_get xs k) h.placed) ∙ e) in
    let same : start - 0 ≡ start = omega arith in
    record {
      line = at.line;
      more = at.more;
      is = at.is;
      within = omega (arith, at.within, ap length h.whole);
      reads = ap (λ (bs : List ℕ). line_at (drop start bs)) h.whole
          ∙ ap line_at (ap (λ (n : ℕ). drop n (all_written (said h.value))) (sym same) ∙ at.there)
          ∙ line_there at.line at.more at.fits;
    }

none_placed : (lines : List TraceLine) (at k : ℕ) → slice_get (starts_of at lines) k ≡ None → slice_get lines k ≡ None
none_placed [] at k e = refl
none_placed (l ∷ lines) at zero e = absurd (none-some at (sym e))
none_placed (l ∷ lines) at (suc k) e = none_placed lines (at + length (written l)) k e

pub no_line_placed : (bytes starts : List ℕ) (h : HasLinesAt bytes starts) (k : ℕ) → slice_get starts k ≡ None
    → slice_get (said h.value) k ≡ None
no_line_placed bytes starts h k e = none_placed (said h.value) 0 k
    (sym (ap (λ (xs : List ℕ). slice_get xs k) h.placed) ∙ e)

-- the lines of the value are those of each value that the bytes are the trace of
pub said_again : (bytes starts : List ℕ) (h : HasLinesAt bytes starts) (t : TraceValue) → IsTraceOf bytes t
    → said t ≡ said h.value
said_again bytes starts h t is = same_said t h.value is.0 h.is (sym is.1 ∙ h.whole)

-- ---- as the code has it

pub no_line_follows : (r : Reached) (rest : List ℕ) → line_at rest ≡ None → CannotFollow r rest
no_line_follows r rest none = λ line behind e. absurd (none-some (line, behind) (sym none ∙ e))

pub bad_line_follows : (r : Reached) (rest behind : List ℕ) (line : TraceLine) → line_at rest ≡ Some (line, behind)
    → reached_by r line ≡ None
    → CannotFollow r rest
bad_line_follows r rest behind line is none = λ other more e.
    let same = some_pair_parts line other behind more (sym is ∙ e) in sym (ap (reached_by r) same.0) ∙ none

pub faulty_rest : (bytes rest starts : List ℕ) (r : Reached) (number : ℕ) → HasRead bytes rest starts r → eqb
    (length rest) 0 ≡ false → CannotFollow r rest
    → number ≡ length starts + 1 → IsFaultyForm (cut_lines bytes) number
faulty_rest bytes [] starts r number h some cannot e = absurd (true≢false some)
faulty_rest bytes (b ∷ bs) starts r number h some cannot e =
    subst (IsFaultyForm (cut_lines bytes)) (sym e) (faulty_line bytes b bs starts r h cannot)

pub missing_rest : (bytes rest starts : List ℕ) (r : Reached) (number : ℕ) → HasRead bytes rest starts r → eqb
    (length rest) 0 ≡ true → r.is_ended ≡ false
    → number ≡ length starts + 1 → IsFaultyForm (cut_lines bytes) number
missing_rest bytes rest starts r number h none open_end e =
    subst (IsFaultyForm (cut_lines bytes)) (sym e) (missing_end bytes rest starts r h
    (nil_from_length rest (eqb-true (length rest) 0 none)) open_end)

pub line_is : (bytes starts rest : List ℕ) (h : HasLinesAt bytes starts) (k start : ℕ) (line : TraceLine)
    (more : List ℕ) → slice_get starts k ≡ Some start
    → rest ≡ drop start bytes → line_at rest ≡ Some (line, more) → (t : TraceValue) → IsTraceOf bytes t → slice_get
    (said t) k ≡ Some line
line_is bytes starts rest h k start line more e whole is t trace =
    let at = line_placed bytes starts h k start e in
    let same = some_pair_parts at.line line at.more more (sym at.reads ∙ sym (ap line_at whole) ∙ is) in
    ap (λ (ls : List TraceLine). slice_get ls k) (said_again bytes starts h t trace) ∙ at.is ∙ ap
    (λ (l : TraceLine). Some l) same.0

pub line_is_there : (bytes starts rest : List ℕ) (h : HasLinesAt bytes starts) (k start : ℕ)
    → slice_get starts k ≡ Some start
    → rest ≡ drop start bytes → line_at rest ≢ None
line_is_there bytes starts rest h k start e whole none =
    let at = line_placed bytes starts h k start e in
    none-some (at.line, at.more) (sym none ∙ ap line_at whole ∙ at.reads)

pub start_within : (bytes starts : List ℕ) (h : HasLinesAt bytes starts) (k start : ℕ) → slice_get starts k ≡ Some start
    → start ≤ length bytes
start_within bytes starts h k start e = (line_placed bytes starts h k start e).within

pub no_line_is : (bytes starts : List ℕ) (h : HasLinesAt bytes starts) (k : ℕ) → length starts ≤ k → (t : TraceValue)
    → IsTraceOf bytes t
    → slice_get (said t) k ≡ None
no_line_is bytes starts h k past t trace =
    ap (λ (ls : List TraceLine). slice_get ls k) (said_again bytes starts h t trace) ∙ no_line_placed bytes starts h k
    (slice_get_past starts k past)
