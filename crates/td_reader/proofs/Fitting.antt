-- Each line of a trace has its parts in the range of their fields.
use Rattle.std.proofs.Common.{◌≤◌, ◌+◌, ◌^◌, ℕ, List, [], ◌∷◌, length, map, arith}
use Rattle.std.specs.List.{AllByRecursion}
use Rattle.std.specs.Str.{IsUtf8}
use Rattle.td_base.specs.declared.site.TheConstants.{MAX_SITE}
use Rattle.td_base.proofs.Passing.{all_append}
use Rattle.td_trace.specs.declared.entry.TraceEntry.{TraceEntry}
use Rattle.td_trace.specs.declared.log.Did.{Did}
use Rattle.td_trace.specs.declared.log.Did.TheVariants.{Call, Look}
use Rattle.td_trace.specs.declared.log.EditorLog.{EditorLog}
use Rattle.td_report.specs.Trace.{did_said, entry_said, history_said, log_said, numbered, text_said}
use Rattle.td_reader.specs.Form.{said}
use Rattle.td_reader.specs.Values.{TraceValue, IsTraceValue, FitsEntry, FitsHistory, FitsDid, FitsLog}
use Rattle.td_reader.proofs.LineLaws.{FitsLine}

entries_fit : (n : ℕ) (xs : List TraceEntry) → n + length xs ≤ 2 ^ 64 → AllByRecursion FitsEntry xs
    → AllByRecursion FitsLine (numbered entry_said n xs)
entries_fit n [] few h = tt
entries_fit n (x ∷ xs) few h = ((omega arith, h.0), entries_fit (n + 1) xs (omega arith) h.1)

histories_fit : (n : ℕ) (hs : List (List TraceEntry)) → 1 ≤ n → n + length hs ≤ MAX_SITE + 1
    → AllByRecursion FitsHistory hs
    → AllByRecursion FitsLine (numbered history_said n hs)
histories_fit n [] some few h = tt
histories_fit n (x ∷ hs) some few h = (
  record { least = some; greatest = omega arith },
  all_append FitsLine (numbered entry_said 1 x) (numbered history_said (n + 1) hs)
      (entries_fit 1 x (omega (arith, h.0.few)) h.0.each)
      (histories_fit (n + 1) hs (omega arith) (omega arith) h.1),
)

did_fits : (d : Did) → FitsDid d → FitsLine (did_said d)
did_fits (Call call entry) h = h
did_fits (Look calls upto text) h = h

dids_fit : (ds : List Did) → AllByRecursion FitsDid ds → AllByRecursion FitsLine (map did_said ds)
dids_fit [] h = tt
dids_fit (d ∷ ds) h = (did_fits d h.0, dids_fit ds h.1)

logs_fit : (sites n : ℕ) (ls : List EditorLog) → sites ≤ MAX_SITE → n + length ls ≤ 2 ^ 32 → AllByRecursion
    (FitsLog sites) ls
    → AllByRecursion FitsLine (numbered log_said n ls)
logs_fit sites n [] few small h = tt
logs_fit sites n (log ∷ ls) few small h = (
  (omega arith, record { least = h.0.some; greatest = omega (arith, h.0.within) }),
  all_append FitsLine (map did_said log.did) (numbered log_said (n + 1) ls) (dids_fit log.did h.0.did)
      (logs_fit sites (n + 1) ls few (omega arith) h.1),
)

texts_fit : (n : ℕ) (xs : List (List ℕ)) → 1 ≤ n → n + length xs ≤ MAX_SITE + 1 → AllByRecursion IsUtf8 xs
    → AllByRecursion FitsLine (numbered text_said n xs)
texts_fit n [] some few h = tt
texts_fit n (x ∷ xs) some few h =
    ((record { least = some; greatest = omega arith }, h.0), texts_fit (n + 1) xs (omega arith) (omega arith) h.1)

pub trace_fits : (t : TraceValue) → IsTraceValue t → AllByRecursion FitsLine (said t)
trace_fits t h = (
  h.few,
  all_append FitsLine (numbered history_said 1 t.histories) _
      (histories_fit 1 t.histories (omega arith) (omega (arith, h.few, h.each_history)) h.histories)
      (all_append FitsLine (numbered log_said 1 t.logs) _ (logs_fit t.sites 1 t.logs h.few
      (omega (arith, h.few_logs)) h.logs)
      (all_append FitsLine (numbered text_said 1 t.texts) _ (texts_fit 1 t.texts (omega arith)
      (omega (arith, h.few, h.each_text)) h.texts) (tt, tt))),
)
