-- The numbers in a trace of so many bytes: there are no more entries than bytes, and no more calls of an editor than
-- entries.
use Rattle.std.proofs.Common.{◌≡◌, ◌<◌, ◌≤◌, ◌+◌, ◌++◌, ℕ, zero, suc, List, [], ◌∷◌, true, length, refl, sym, ap}
use Rattle.std.proofs.Common.{subst, inl, inr, arith}
use Rattle.std.specs.Prelude.{codes}
use Rattle.std.specs.Fmt.{decimal}
use Rattle.std.specs.List.{AllByRecursion}
use Rattle.std.specs.Str.{IsUtf8}
use Rattle.std.proofs.lemmas.List.{length-append}
use Rattle.td_base.specs.Lists.{In}
use Rattle.td_reader.specs.Values.{IsLong, FitsDid}
use Rattle.td_report.specs.Trace.{numbered, entry_said, history_said, log_said, text_said, trace_said, all_written}
use Rattle.td_report.specs.Trace.{trace}
use Rattle.td_report.specs.TraceLines.{TraceLine, SitesAre, HistoryOf, EntryIs, EditorAt, CallIs, LookIs, TextIs}
use Rattle.td_report.specs.TraceLines.{Ended, told_part, reply_part, entry_line, written}
use Rattle.td_script.specs.Characters.{line_feed}
use Rattle.td_trace.specs.declared.entry.TraceEntry.{TraceEntry}
use Rattle.td_trace.specs.declared.log.Did.{Did}
use Rattle.td_trace.specs.declared.log.Did.TheVariants.{Call, Look}
use Rattle.td_trace.specs.declared.log.EditorLog.{EditorLog}
use Rattle.td_trace.specs.Entries.{is_request_at}
use Rattle.td_trace.specs.Editors.{Sofar, further, AreDid}

-- ---- no line is empty

entry_some : (number : ℕ) (entry : TraceEntry) → 0 < length (entry_line number entry)
entry_some number entry =
    let end : List ℕ = codes " ->" ++ (reply_part entry.reply ++ line_feed ∷ []) in
    let some : 0 < length end = omega arith in
    let outer : length (entry_line number entry) ≡ length (decimal number) + length (told_part entry.told ++ end) =
    length-append (decimal number) (told_part entry.told ++ end) in
    let inner : length (told_part entry.told ++ end) ≡ length (told_part entry.told) + length end =
    length-append (told_part entry.told) end in
    omega (arith, some, outer, inner)

line_some : (line : TraceLine) → 0 < length (written line)
line_some (SitesAre n) = omega arith
line_some (HistoryOf site) = omega arith
line_some (EntryIs number entry) = entry_some number entry
line_some (EditorAt number site) = omega arith
line_some (CallIs number entry) = omega arith
line_some (LookIs calls upto text) = omega arith
line_some (TextIs site text) = omega arith
line_some Ended = omega arith

written_long : (lines : List TraceLine) → length lines ≤ length (all_written lines)
written_long [] = omega arith
written_long (line ∷ lines) =
    let some : 0 < length (written line) = line_some line in
    let rest : length lines ≤ length (all_written lines) = written_long lines in
    let parts : length (all_written (line ∷ lines)) ≡ length (written line) + length (all_written lines) =
    length-append (written line) (all_written lines) in
    omega (arith, some, rest, parts)

-- ---- a line for each entry

entry_lines : (number : ℕ) (entries : List TraceEntry)
    → length (numbered entry_said number entries) ≡ length entries
entry_lines number [] = refl
entry_lines number (entry ∷ entries) =
    let rest : length (numbered entry_said (number + 1) entries) ≡ length entries = entry_lines (number + 1) entries in
    omega (arith, rest)

history_lines : (number : ℕ) (histories : List (List TraceEntry)) (entries : List TraceEntry) → In entries histories
    → length entries ≤ length (numbered history_said number histories)
history_lines number [] entries i = absurd i
history_lines number (first ∷ histories) entries i = at i (history_lines (number + 1) histories entries)
  where
    own : length first ≤ length (history_said number first)
    own =
        let lines : length (numbered entry_said 1 first) ≡ length first = entry_lines 1 first in omega (arith, lines)

    parts : length (numbered history_said number (first ∷ histories))
        ≡ length (history_said number first) + length (numbered history_said (number + 1) histories)
    parts = length-append (history_said number first) (numbered history_said (number + 1) histories)

    at : In entries (first ∷ histories)
        → (In entries histories → length entries ≤ length (numbered history_said (number + 1) histories))
        → length entries ≤ length (numbered history_said number (first ∷ histories))
    at (inl e) ih =
        let same : length entries ≡ length first = ap (λ (l : List TraceEntry). length l) e in
        omega (arith, same, own, parts)
    at (inr j) ih = let less = ih j in omega (arith, less, parts)

-- a history has no more entries than the trace has bytes
pub entries_few : (sites : ℕ) (histories : List (List TraceEntry)) (logs : List EditorLog) (texts : List (List ℕ))
    (entries : List TraceEntry) → In entries histories → length entries ≤ length (trace sites histories logs texts)
entries_few sites histories logs texts entries i =
    let rest : List TraceLine =
    numbered log_said 1 logs ++ (numbered text_said 1 texts ++ Ended ∷ []) in
    let own : length entries ≤ length (numbered history_said 1 histories) = history_lines 1 histories entries i in
    let parts : length (numbered history_said 1 histories ++ rest)
    ≡ length (numbered history_said 1 histories) + length rest =
    length-append (numbered history_said 1 histories) rest in
    below (length entries) (length (numbered history_said 1 histories ++ rest))
    (length (trace sites histories logs texts)) (omega (arith, own, parts))
    (written_long (trace_said sites histories logs texts))
  where
    below : (a b c : ℕ) → a ≤ b → suc b ≤ c → a ≤ c
    below a b c h k = omega (arith, h, k)

-- ---- what an editor did

request_within : (entries : List TraceEntry) (k : ℕ) → is_request_at entries k ≡ true → k ≤ length entries
request_within entries zero e = omega arith
request_within [] (suc k) e = absurd cc
request_within (entry ∷ entries) (suc zero) e = omega arith
request_within (entry ∷ entries) (suc (suc k)) e =
    let less : suc k ≤ length entries = request_within entries (suc k) e in omega (arith, less)

-- each call is an entry of its own, so there are no more calls than entries
pub did_fits : (entries : List TraceEntry) (text_at : ℕ → List ℕ) → IsLong (length entries)
    → ((k : ℕ) → IsUtf8 (text_at k)) → (s : Sofar) → s.calls ≤ s.entry → s.entry ≤ length entries
    → (did : List Did) → AreDid entries text_at s did → AllByRecursion FitsDid did
did_fits entries text_at few utf8 s calls within [] are = tt
did_fits entries text_at few utf8 s calls within (Call call entry ∷ rest) are =
    let number : call ≡ s.calls + 1 = are.0.0 in
    let past : s.entry < entry = are.0.1 in
    let there : entry ≤ length entries = request_within entries entry are.0.2 in (
      (omega (arith, number, past, there, few, calls), omega (arith, there, few)),
      did_fits entries text_at few utf8 (further s (Call call entry)) (omega (arith, calls, past)) there rest are.1,
    )
did_fits entries text_at few utf8 s calls within (Look count upto text ∷ rest) are =
    let number : count ≡ s.calls = are.0.0 in
    let there : upto ≤ length entries = are.0.1 in (
      (
        omega (arith, number, calls, within, few),
        omega (arith, there, few),
        subst (λ (bytes : List ℕ). IsUtf8 bytes) (sym are.0.4) (utf8 upto),
      ),
      did_fits entries text_at few utf8 (further s (Look count upto text)) calls within rest are.1,
    )
