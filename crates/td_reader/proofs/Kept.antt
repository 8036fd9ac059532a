-- Where the parts begin of the lines that were read, and what is told by the lines that stand where they are kept.
use Rattle.std.proofs.Common.{◌≡◌, ◌<◌, ◌≤◌, ◌+◌, ◌-◌, ◌^◌, inl, ℕ, Bool, true, false, cond, eqb, List, [], ◌∷◌}
use Rattle.std.proofs.Common.{◌++◌}
use Rattle.std.proofs.Common.{length, map, drop, Some, refl, sym, ap, subst, ◌∙◌, append_assoc, append-nil}
use Rattle.std.proofs.Common.{length-append, arith}
use Rattle.std.specs.List.{AllByRecursion}
use Rattle.std.proofs.Math.Seq.{drop-append-add}
use Rattle.std.proofs.lemmas.Bool.{eqb-true}
use Rattle.std.proofs.lemmas.List.{nil_from_length}
use Rattle.td_trace.specs.declared.entry.TraceEntry.{TraceEntry}
use Rattle.td_trace.specs.declared.log.Did.{Did}
use Rattle.td_trace.specs.declared.log.Did.TheVariants.{Call, Look}
use Rattle.td_report.specs.Trace.{all_written, did_said, entry_said, history_said, log_said, numbered, text_said}
use Rattle.td_report.specs.TraceLines.{TraceLine, Ended, written}
use Rattle.td_reader.specs.declared.reached.Reached.{Reached}
use Rattle.td_reader.specs.Collected.{told_by}
use Rattle.td_reader.specs.Form.{IsTraceOf, said}
use Rattle.td_reader.specs.LineNumbers.{did_count, history_lines, log_lines, part_lines}
use Rattle.td_reader.specs.Lines.{line_at}
use Rattle.td_reader.specs.Parts.{begins_of, is_heading, part_sizes}
use Rattle.td_reader.specs.Places.{HasPartsAt, HasLinesAt, lines_at, onto_lines, starts_of, value_at}
use Rattle.td_reader.specs.Reached.{nothing_read, reached_by}
use Rattle.td_reader.specs.Values.{TraceValue}
use Rattle.td_reader.proofs.Collecting.{value_again}
use Rattle.td_reader.proofs.Faults.{HasRead, count_of, read_more, whole_read}
use Rattle.td_reader.proofs.Fitting.{trace_fits}
use Rattle.td_reader.proofs.LineLaws.{FitsLine, line_there}
use Rattle.td_reader.proofs.PartLines.{as_many, lines_mapped, lines_behind, said_length}

-- ---- what is told at the places that are kept

lines_again : (bytes front : List ℕ) (at : ℕ) (lines : List TraceLine) → AllByRecursion FitsLine lines
    → at ≡ length front → bytes ≡ front ++ all_written lines → lines_at bytes (starts_of at lines) ≡ lines
lines_again bytes front at [] h e whole = refl
lines_again bytes front at (l ∷ lines) h e whole =
    let place : at ≡ length front + 0 = omega arith in
    let there : drop at bytes ≡ written l ++ all_written lines =
    (λ i. drop (place i) (whole i)) ∙ drop-append-add front (written l ++ all_written lines) 0 in
    let reads : line_at (drop at bytes) ≡ Some (l, all_written lines) =
    ap line_at there ∙ line_there l (all_written lines) h.0 in
    let next : at + length (written l) ≡ length (front ++ written l) = omega
    (arith, length-append front (written l)) in
    ap (λ o. onto_lines o (lines_at bytes (starts_of (at + length (written l)) lines))) reads
    ∙ ap (λ (ls : List TraceLine). l ∷ ls) (lines_again bytes (front ++ written l) (at + length (written l)) lines h.1
    next (whole ∙ sym (append_assoc front (written l) (all_written lines))))

pub told_there : (bytes starts : List ℕ) (h : HasLinesAt bytes starts) → value_at bytes starts ≡ h.value
unfolding value_at
told_there bytes starts h =
    ap (λ (places : List ℕ). told_by (lines_at bytes places)) h.placed
    ∙ ap told_by (lines_again bytes [] 0 (said h.value) (trace_fits h.value h.is) refl h.whole) ∙ value_again h.value

-- the trace as it is seen
pub record IsSeen (bytes starts parts : List ℕ) (sites : ℕ) (t : TraceValue) : Type 0 where
  pub is : IsTraceOf bytes t
  pub count : length starts ≡ length (said t)
  pub parts_are : parts ≡ begins_of 1 (part_sizes t)
  pub sites_are : sites ≡ t.sites
  pub few : length (said t) < 2 ^ 32

pub seen : (bytes starts parts : List ℕ) (sites : ℕ) (t : TraceValue) → HasPartsAt bytes starts parts sites
    → value_at bytes starts ≡ t → IsSeen bytes starts parts sites t
seen bytes starts parts sites t h e =
    subst (IsSeen bytes starts parts sites) (sym (told_there bytes starts h.lines) ∙ e) (record {
      is = (h.lines.is, h.lines.whole);
      count = count_of (said h.lines.value) starts 0 h.lines.placed;
      parts_are = h.parts_are;
      sites_are = h.sites_are;
      few = h.few;
    })

-- ---- at which lines parts begin

abbrev pub onto : Bool → ℕ → List ℕ → List ℕ
onto true number numbers = number ∷ numbers
onto false number numbers = numbers

-- at which of these lines, the first of which has this number, parts begin
abbrev pub headings_from : ℕ → List TraceLine → List ℕ
headings_from at [] = []
headings_from at (line ∷ lines) = onto (is_heading line) at (headings_from (at + 1) lines)

onto_behind : (b : Bool) (number : ℕ) (xs ys : List ℕ) → onto b number (xs ++ ys) ≡ onto b number xs ++ ys
onto_behind true number xs ys = refl
onto_behind false number xs ys = refl

headings_more : (at : ℕ) (lines : List TraceLine) (line : TraceLine)
    → headings_from at (lines ++ line ∷ []) ≡ headings_from at lines ++ onto (is_heading line) (at + length lines) []
headings_more at [] line =
    let same : at ≡ at + 0 = omega arith in ap (λ (n : ℕ). onto (is_heading line) n []) same
headings_more at (l ∷ lines) line =
    let same : at + 1 + length lines ≡ at + length (l ∷ lines) = omega arith in
    ap (onto (is_heading l) at) (headings_more (at + 1) lines line)
    ∙ onto_behind (is_heading l) at (headings_from (at + 1) lines) (onto (is_heading line) (at + 1 + length lines) [])
    ∙ ap (λ (n : ℕ). headings_from at (l ∷ lines) ++ onto (is_heading line) n []) same

noted : (b : Bool) (parts : List ℕ) (number : ℕ) → cond b (parts ++ number ∷ []) parts ≡ parts ++ onto b number []
noted true parts number = refl
noted false parts number = sym (append-nil parts)

-- the lines in front of the rest were read: they begin at these places, and parts at these lines
pub record HasParted (bytes rest starts parts : List ℕ) (r : Reached) : Type 0 where
  pub read : HasRead bytes rest starts r
  pub headed : parts ≡ headings_from 0 read.lines

pub parted_none : (bytes starts parts : List ℕ) (r : Reached) → starts ≡ [] → parts ≡ [] → r ≡ nothing_read
    → HasParted bytes bytes starts parts r
parted_none bytes starts parts r e f g = record {
  read = record { lines = []; opened = inl (g, refl); fit = tt; placed = e; whole = refl };
  headed = f;
}

pub parted_more : (bytes rest starts parts behind more : List ℕ) (r s : Reached) (line : TraceLine) (start number : ℕ)
    → HasParted bytes rest starts parts r → line_at rest ≡ Some (line, behind) → reached_by r line ≡ Some s
    → start ≡ length bytes - length rest → number ≡ length starts
    → more ≡ cond (is_heading line) (parts ++ number ∷ []) parts
    → HasParted bytes behind (starts ++ start ∷ []) more s
parted_more bytes rest starts parts behind more r s line start number h e step is count note =
    let next = read_more bytes rest starts behind r s line start h.read e step is in
    let place : number ≡ 0 + length h.read.lines = omega (arith, count_of h.read.lines starts 0 h.read.placed) in
    record {
      read = next.0;
      headed = note ∙ noted (is_heading line) parts number
          ∙ (λ i. h.headed i ++ onto (is_heading line) (place i) [])
          ∙ sym (ap (headings_from 0) next.1 ∙ headings_more 0 h.read.lines line);
    }

-- ---- of a whole trace

-- where parts with so many lines below their first begin, the first part at this line
abbrev firsts : ℕ → List ℕ → List ℕ
firsts at [] = []
firsts at (size ∷ sizes) = at ∷ firsts (at + 1 + size) sizes

closed : (at : ℕ) (sizes : List ℕ) → begins_of at sizes ≡ firsts at sizes ++ (at + part_lines as_many sizes) ∷ []
closed at [] = let same : at ≡ at + 0 = omega arith in ap (λ (n : ℕ). n ∷ []) same
closed at (size ∷ sizes) =
    let same : at + 1 + size + part_lines as_many sizes ≡ at + (1 + size + part_lines as_many sizes) = omega arith in
    ap (λ (ns : List ℕ). at ∷ ns) (closed (at + 1 + size) sizes
    ∙ ap (λ (n : ℕ). firsts (at + 1 + size) sizes ++ n ∷ []) same)

firsts_behind : (at : ℕ) (xs ys : List ℕ) → firsts at (xs ++ ys) ≡ firsts at xs ++ firsts
    (at + part_lines as_many xs) ys
firsts_behind at [] ys = let same : at ≡ at + 0 = omega arith in ap (λ (n : ℕ). firsts n ys) same
firsts_behind at (x ∷ xs) ys =
    let same : at + 1 + x + part_lines as_many xs ≡ at + (1 + x + part_lines as_many xs) = omega arith in
    ap (λ (ns : List ℕ). at ∷ ns) (firsts_behind (at + 1 + x) xs ys
    ∙ ap (λ (n : ℕ). firsts (at + 1 + x) xs ++ firsts n ys) same)

headings_numbered : {X : Type 0} (say : ℕ → X → List TraceLine) (below : X → ℕ)
    → ((at n : ℕ) (x : X) (rest : List TraceLine)
    → headings_from at (say n x ++ rest) ≡ at ∷ headings_from (at + 1 + below x) rest)
    → (at n : ℕ) (xs : List X) (rest : List TraceLine)
    → headings_from at (numbered say n xs ++ rest) ≡ firsts at (map below xs) ++ headings_from
    (at + part_lines below xs) rest
headings_numbered say below each at n [] rest =
    let same : at ≡ at + 0 = omega arith in ap (λ (m : ℕ). headings_from m rest) same
headings_numbered say below each at n (x ∷ xs) rest =
    let others : List TraceLine = numbered say (n + 1) xs in
    let next : ℕ = at + 1 + below x in
    let same : next + part_lines below xs ≡ at + (1 + below x + part_lines below xs) = omega arith in
    ap (headings_from at) (append_assoc (say n x) others rest) ∙ each at n x (others ++ rest)
    ∙ ap (λ (ns : List ℕ). at ∷ ns) (headings_numbered say below each next (n + 1) xs rest
    ∙ ap (λ (m : ℕ). firsts next (map below xs) ++ headings_from m rest) same)

entries_head_none : (at n : ℕ) (es : List TraceEntry) (rest : List TraceLine)
    → headings_from at (numbered entry_said n es ++ rest) ≡ headings_from (at + length es) rest
entries_head_none at n [] rest = let same : at ≡ at + 0 = omega arith in ap (λ (m : ℕ). headings_from m rest) same
entries_head_none at n (e ∷ es) rest =
    let same : at + 1 + length es ≡ at + length (e ∷ es) = omega arith in
    entries_head_none (at + 1) (n + 1) es rest ∙ ap (λ (m : ℕ). headings_from m rest) same

no_did_heads : (did : Did) → is_heading (did_said did) ≡ false
no_did_heads (Call call entry) = refl
no_did_heads (Look calls upto text) = refl

dids_head_none : (at : ℕ) (ds : List Did) (rest : List TraceLine)
    → headings_from at (map did_said ds ++ rest) ≡ headings_from (at + length ds) rest
dids_head_none at [] rest = let same : at ≡ at + 0 = omega arith in ap (λ (m : ℕ). headings_from m rest) same
dids_head_none at (d ∷ ds) rest =
    let same : at + 1 + length ds ≡ at + length (d ∷ ds) = omega arith in
    ap (λ (b : Bool). onto b at (headings_from (at + 1) (map did_said ds ++ rest))) (no_did_heads d)
    ∙ dids_head_none (at + 1) ds rest ∙ ap (λ (m : ℕ). headings_from m rest) same

texts_head_none : (at n : ℕ) (xs : List (List ℕ)) → headings_from at (numbered text_said n xs ++ Ended ∷ []) ≡ []
texts_head_none at n [] = refl
texts_head_none at n (x ∷ xs) = texts_head_none (at + 1) (n + 1) xs

trace_headings : (t : TraceValue) → headings_from 0 (said t) ≡ firsts 1 (part_sizes t)
trace_headings t =
    let texts : List TraceLine = numbered text_said 1 t.texts ++ Ended ∷ [] in
    let rest : List TraceLine = numbered log_said 1 t.logs ++ texts in
    let front : ℕ = 1 + history_lines t.histories in
    headings_numbered history_said length (λ at n h rest. ap (λ (ns : List ℕ). at ∷ ns)
    (entries_head_none (at + 1) 1 h rest)) 1 1 t.histories rest
    ∙ ap (λ (ns : List ℕ). firsts 1 (map length t.histories) ++ ns)
    (headings_numbered log_said did_count (λ at n log rest. ap (λ (ns : List ℕ). at ∷ ns)
    (dids_head_none (at + 1) log.did rest)) front 1 t.logs texts
    ∙ ap (λ (ns : List ℕ). firsts front (map did_count t.logs) ++ ns)
    (texts_head_none (front + log_lines t.logs) 1 t.texts)
    ∙ append-nil (firsts front (map did_count t.logs)))
    ∙ sym (firsts_behind 1 (map length t.histories) (map did_count t.logs)
    ∙ ap (λ (n : ℕ). firsts 1 (map length t.histories) ++ firsts (1 + n) (map did_count t.logs))
    (lines_mapped length t.histories))

part_lines_of : (t : TraceValue) → part_lines as_many (part_sizes t) ≡ history_lines t.histories + log_lines t.logs
part_lines_of t =
    lines_behind as_many (map length t.histories) (map did_count t.logs)
    ∙ (λ i. lines_mapped length t.histories i + lines_mapped did_count t.logs i)

-- all was read, and where the texts begin
pub record IsAllRead (bytes starts parts : List ℕ) (sites : ℕ) : Type 0 where
  pub lines : HasLinesAt bytes starts
  pub headed : parts ≡ firsts 1 (part_sizes lines.value)
  pub sites_are : sites ≡ lines.value.sites
  pub count : length starts ≡ length (said lines.value)
  pub less : sites + 1 ≤ length starts

pub all_read : (bytes rest starts parts : List ℕ) (r : Reached) (sites : ℕ) → HasParted bytes rest starts parts r
    → eqb (length rest) 0 ≡ true → r.is_ended ≡ true → sites ≡ r.sites → IsAllRead bytes starts parts sites
all_read bytes rest starts parts r sites h none ended e =
    let whole = whole_read bytes rest starts r h.read ended in
    let v : TraceValue = whole.value in
    let empty : rest ≡ [] = nil_from_length rest (eqb-true (length rest) 0 none) in
    let count : length starts ≡ length (said v) =
    count_of h.read.lines starts 0 h.read.placed ∙ ap length whole.lines_are in
    record {
      lines = record {
        value = v;
        is = whole.is;
        whole = h.read.whole ∙ ap (λ (t : List ℕ). all_written h.read.lines ++ t) empty
            ∙ append-nil (all_written h.read.lines)
            ∙ ap all_written whole.lines_are;
        placed = h.read.placed ∙ ap (starts_of 0) whole.lines_are;
      };
      headed = h.headed ∙ ap (headings_from 0) whole.lines_are ∙ trace_headings v;
      sites_are = e ∙ whole.sites_are;
      count = count;
      less = omega (arith, said_length v, whole.is.each_text, whole.sites_are);
    }

pub kept : (bytes starts parts all : List ℕ) (sites texts : ℕ) → IsAllRead bytes starts parts sites
    → length starts < 2 ^ 32 → texts ≡ length starts - sites - 1 → all ≡ parts ++ texts ∷ []
    → HasPartsAt bytes starts all sites
kept bytes starts parts all sites texts h few e closes =
    let v : TraceValue = h.lines.value in
    let place : texts ≡ 1 + part_lines as_many (part_sizes v) = omega
    (arith, h.count, said_length v, h.lines.is.each_text, h.sites_are, part_lines_of v) in
    record {
      lines = h.lines;
      parts_are = closes ∙ (λ i. h.headed i ++ place i ∷ []) ∙ sym (closed 1 (part_sizes v));
      sites_are = h.sites_are;
      few = omega (arith, h.count);
    }
