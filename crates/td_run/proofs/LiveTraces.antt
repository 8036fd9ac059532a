-- What is printed of a live family of a script is a trace: each part is in the range of its field.
use Rattle.std.proofs.Common.{◌≡◌, ◌<◌, ◌≤◌, ◌-◌, ℕ, zero, suc, List, [], ◌∷◌, length, map, take, Some, refl, sym}
use Rattle.std.proofs.Common.{subst, inl, inr, arith}
use Rattle.std.specs.Prelude.{slice_get}
use Rattle.std.specs.List.{AllByRecursion, AllZip}
use Rattle.std.specs.Str.{IsUtf8}
use Rattle.std.proofs.lemmas.List.{length-map}
use Rattle.std.proofs.lemmas.Option.{same_Some}
use Rattle.td_base.specs.Lists.{In}
use Rattle.td_base.proofs.Lists.{In-map, all_in, all_of}
use Rattle.td_doc.specs.Document.{text_of}
use Rattle.td_live.specs.Following.{FollowsLines}
use Rattle.td_machine.specs.History.{History, Family, IsFamily, IsLegalFrom, IsReached, history, history_at, machine}
use Rattle.td_machine.specs.History.{machine_after}
use Rattle.td_machine.specs.Machine.{Machine, start}
use Rattle.td_machine.specs.Step.{step}
use Rattle.td_machine.proofs.Induction.{reached_start}
use Rattle.td_op.specs.declared.entry.Entry.{Entry}
use Rattle.td_op.specs.declared.input.Input.{Input}
use Rattle.td_op.specs.declared.input.Input.TheVariants.{Local, Take, Next}
use Rattle.td_op.specs.declared.message.Message.TheVariants.{Op, Vote}
use Rattle.td_op.specs.declared.request.Request.{Request}
use Rattle.td_op.specs.Input.{IsInput}
use Rattle.td_reader.specs.Form.{trace_bytes}
use Rattle.td_reader.specs.Values.{IsShortNumber, IsLong, IsIndexed, FitsTold, FitsEntry}
use Rattle.td_reader.specs.Values.{FitsHistory, FitsLog, TraceValue}
use Rattle.td_reader.specs.Values.{IsTraceValue}
use Rattle.td_script.specs.declared.live.editor_line.EditorLine.{EditorLine}
use Rattle.td_trace.specs.declared.entry.TraceEntry.{TraceEntry}
use Rattle.td_trace.specs.declared.log.EditorLog.{EditorLog}
use Rattle.td_trace.specs.Editors.{nothing_yet}
use Rattle.td_trace.specs.Entries.{traced, traced_history, traced_family, told_of}
use Rattle.td_trace.specs.Family.{IsLiveFamily, IsLogOf, AreTexts, text_past}
use Rattle.td_run.proofs.ReplyRanges.{legal_fits}
use Rattle.td_run.proofs.RequestRanges.{FitLines, indexes_fit}
use Rattle.td_run.proofs.ShownAtoms.{text_utf8}
use Rattle.td_run.proofs.TraceCounts.{entries_few, did_fits}

-- ---- lists

-- what holds at each place of a family holds of each of what is told of it
each_place : {X : Type 0} (P : X → Type 0) (f : History → X) (family : Family)
    → ((k : ℕ) → k < length family → P (f (history_at family k))) → AllByRecursion P (map f family)
each_place P f [] h = tt
each_place P f (x ∷ family) h =
    (h 0 (omega arith), each_place P f family (λ k less. h (suc k) (omega (arith, less))))

each_entry : (P : TraceEntry → Type 0) (entries : History) → ((e : Entry) → In e entries → P (traced e))
    → AllByRecursion P (traced_history entries)
each_entry P [] h = tt
each_entry P (e ∷ entries) h = (h e (inl refl), each_entry P entries (λ x i. h x (inr i)))

each_text : (texts : List (List ℕ))
    → ((k : ℕ) → k < length texts → (t : List ℕ) × (slice_get texts k ≡ Some t) × IsUtf8 t)
    → AllByRecursion IsUtf8 texts
each_text [] h = tt
each_text (text ∷ texts) h = (at (h 0 (omega arith)), each_text texts (λ k less. h (suc k) (omega (arith, less))))
  where
    at : (t : List ℕ) × (Some text ≡ Some t) × IsUtf8 t → IsUtf8 text
    at q = subst (λ (t : List ℕ). IsUtf8 t) (sym (same_Some text q.0 q.1)) q.2

history_in : (family : Family) (k : ℕ) → k < length family → In (history_at family k) family
history_in [] k less = absurd (omega (arith, less))
history_in (h ∷ family) zero less = inl refl
history_in (h ∷ family) (suc k) less = inr (history_in family k (omega (arith, less)))

-- ---- machines on the way

legal_take : (k : ℕ) (m : Machine) (entries : History) → IsLegalFrom m entries → IsLegalFrom m (take k entries)
legal_take zero m entries l = tt
legal_take (suc k) m [] l = tt
legal_take (suc k) m (e ∷ entries) l = (l.0, l.1, legal_take k (step m e.input).machine entries l.2)

module _ (family : Family) (is : IsFamily family) where
  reached_at : (site k : ℕ) → 0 < site → site ≤ length family
      → IsReached (machine_after family site (take k (history family site)))
  reached_at site k some within =
      record {
        site = site;
        size = length family;
        some = some;
        within = within;
        few = is.few;
        entries = take k (history family site);
        legal = legal_take k (start site (length family)) (history family site) (is.legal site some within);
        is = refl;
      }

  past_utf8 : (site k : ℕ) → 0 < site → site ≤ length family → IsUtf8 (text_past family site k)
  past_utf8 site k some within =
      text_utf8 (machine_after family site (take k (history family site))) (reached_at site k some within)

  end_utf8 : (site : ℕ) → 0 < site → site ≤ length family → IsUtf8 (text_of (machine family site).doc)
  end_utf8 site some within =
      text_utf8 (machine family site)
      (record {
        site = site;
        size = length family;
        some = some;
        within = within;
        few = is.few;
        entries = history family site;
        legal = is.legal site some within;
        is = refl;
      })

-- ---- the value

told_fits : (input : Input) → IsInput input → ((request : Request) → input ≡ Local request → IsIndexed request)
    → FitsTold (told_of input)
told_fits (Local request) v index = (v, index request refl)
told_fits (Take (Op x)) v index = v.dot
told_fits (Take (Vote vote)) v index = v
told_fits Next v index = tt

-- what is printed of a family, of what its editors did and of its texts
abbrev pub value_of : Family → List EditorLog → List (List ℕ) → TraceValue
value_of family logs texts =
    record { sites = length family; histories = traced_family family; logs = logs; texts = texts }

module _ (family : Family) (logs : List EditorLog) (texts : List (List ℕ)) (live : IsLiveFamily family logs)
    (short : length (trace_bytes (value_of family logs texts)) ≤ 536870912) where
  is_family : IsFamily family
  is_family = live.settled.consistent.legal

  few_entries : (entries : List TraceEntry) → In entries (traced_family family) → IsLong (length entries)
  few_entries entries i =
      let few : length entries ≤ length (trace_bytes (value_of family logs texts)) =
      entries_few (length family) (traced_family family) logs texts entries i in
      below (length entries) (length (trace_bytes (value_of family logs texts))) few short
    where
      below : (a b : ℕ) → a ≤ b → b ≤ 536870912 → IsLong a
      below a b h k = omega (arith, h, k)

  history_few : (k : ℕ) → k < length family → IsLong (length (traced_history (history_at family k)))
  history_few k less =
      few_entries (traced_history (history_at family k))
      (In-map traced_history (history_at family k) family (history_in family k less))

  site_few : (site : ℕ) → 0 < site → site ≤ length family
      → IsLong (length (traced_history (history family site)))
  site_few site some within = history_few (site - 1) (omega (arith, some, within))

  log_fits : (log : EditorLog) → IsLogOf family log → FitsLog (length family) log
  log_fits log is =
      record {
        some = is.some;
        within = is.within;
        did =
            did_fits (traced_history (history family log.home)) (text_past family log.home)
            (site_few log.home is.some is.within) (λ k. past_utf8 family is_family log.home k is.some is.within)
            nothing_yet (omega arith) (omega arith) log.did is.did;
      }

  text_fits : AreTexts family texts → (k : ℕ) → k < length texts
      → (t : List ℕ) × (slice_get texts k ≡ Some t) × IsUtf8 t
  text_fits are k less =
      let each : length texts ≡ length family = are.each in
      let within : suc k ≤ length family = omega (arith, each, less) in
      let place : suc k - 1 ≡ k = omega arith in (
        text_of (machine family (suc k)).doc,
        subst (λ (j : ℕ). slice_get texts j ≡ Some (text_of (machine family (suc k)).doc)) place
            (are.text (suc k) (omega arith) within),
        end_utf8 family is_family (suc k) (omega arith) within,
      )

  module _ (lines : List (List EditorLine)) (fit : FitLines lines)
      (followed : AllZip (λ (own : List EditorLine) (log : EditorLog). FollowsLines (history family log.home) own
      log.did) lines logs) where
    entry_fits : (site : ℕ) → 0 < site → site ≤ length family → (e : Entry) → In e (history family site)
        → FitsEntry (traced e)
    entry_fits site some within e i =
        let f =
        legal_fits (start site (length family))
        (reached_start site (length family) some within is_family.few) (history family site)
        (is_family.legal site some within) e i in
        (told_fits e.input f.0 (indexes_fit family lines logs fit followed live.calls site some within e i), f.1)

    history_fits : (k : ℕ) → k < length family → FitsHistory (traced_history (history_at family k))
    history_fits k less =
        let place : suc k - 1 ≡ k = omega arith in
        record {
          each = each_entry FitsEntry (history_at family k)
              (λ e i. entry_fits (suc k) (omega arith) (omega (arith, less)) e
              (subst (λ (j : ℕ). In e (history_at family j)) (sym place) i));
          few = history_few k less;
        }

    pub is_value : IsShortNumber (length logs) → AreTexts family texts → IsTraceValue (value_of family logs texts)
    is_value few are =
        record {
          few = is_family.few;
          each_history = length-map family traced_history;
          histories = each_place FitsHistory traced_history family history_fits;
          logs = all_of (FitsLog (length family)) logs
              (λ log i. log_fits log (all_in (IsLogOf family) logs live.logs_are log i));
          few_logs = few;
          each_text = are.each;
          texts = each_text texts (text_fits are);
        }
