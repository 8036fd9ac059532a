-- The lines of a trace follow each other to the end; and lines that follow each other so far can go on to the end of
-- some trace.
use Rattle.std.proofs.Common.{◌≡◌, ◌<◌, ◌≤◌, ◌+◌, ◌-◌, ⊎_elim, ℕ, suc, Bool, true, false}
use Rattle.std.proofs.Common.{eqb, ltb, leb, ◌&&◌, List, [], ◌∷◌, ◌++◌, length, map, replicate, Option, Some}
use Rattle.std.proofs.Common.{None, refl, sym, ap, ◌∙◌, append_assoc, append-nil, length-append, arith}
use Rattle.std.specs.List.{AllByRecursion}
use Rattle.std.specs.Option.{option_and_then}
use Rattle.std.specs.Str.{IsUtf8}
use Rattle.std.proofs.lemmas.Bool.{cond-true, and_from, eq-eqb, le-leb, lt-ltb, cases_lt}
use Rattle.std.proofs.lemmas.List.{length-replicate, nil_from_length}
use Rattle.std.proofs.lemmas.Str.{IsUtf8-nil}
use Rattle.td_base.proofs.Passing.{all_append}
use Rattle.td_trace.specs.declared.entry.TraceEntry.{TraceEntry}
use Rattle.td_trace.specs.declared.log.Did.{Did}
use Rattle.td_trace.specs.declared.log.Did.TheVariants.{Call, Look}
use Rattle.td_trace.specs.declared.log.EditorLog.{EditorLog}
use Rattle.td_report.specs.Trace.{did_said, entry_said, history_said, log_said, numbered, text_said}
use Rattle.td_report.specs.TraceLines.{TraceLine, SitesAre, HistoryOf, EntryIs, EditorAt, TextIs}
use Rattle.td_report.specs.TraceLines.{Ended, written}
use Rattle.td_reader.specs.declared.reached.Reached.{Reached}
use Rattle.td_reader.specs.Form.{IsBeginning, said}
use Rattle.td_reader.specs.Reached.{nothing_read, reached_by}
use Rattle.td_reader.specs.Values.{TraceValue, IsTraceValue, FitsHistory, FitsLog}
use Rattle.td_reader.proofs.Lasts.{all_same, numbered_behind}
use Rattle.td_reader.proofs.Openings.{opening, map_behind}
use Rattle.td_reader.proofs.Reaching.{IsAt, run}

-- ---- the lines of a trace

entries_run : (xs : List TraceEntry) (r : Reached) (rest : List TraceLine) → 0 < r.site → r.editors ≡ 0 → r.texts ≡ 0
    → run r (numbered entry_said (r.entries + 1) xs ++ rest) ≡ run (record r { entries = r.entries + length xs }) rest
entries_run [] r rest some e t =
    let same : r.entries ≡ r.entries + 0 = omega arith in ap (λ (n : ℕ). run (record r { entries = n }) rest) same
entries_run (x ∷ xs) r rest some e t =
    let next : Reached = record r { entries = r.entries + 1 } in
    let step : reached_by r (EntryIs (r.entries + 1) x) ≡ Some next =
    cond-true {A = Option Reached} (eqb (r.entries + 1) (r.entries + 1) &&
    (ltb 0 r.site && (eqb r.editors 0 && eqb r.texts 0))) (Some next) None
    (and_from (eqb (r.entries + 1) (r.entries + 1)) (ltb 0 r.site && (eqb r.editors 0 && eqb r.texts 0))
    (eq-eqb (r.entries + 1) (r.entries + 1) refl)
    (and_from (ltb 0 r.site) (eqb r.editors 0 && eqb r.texts 0) (lt-ltb 0 r.site some)
    (and_from (eqb r.editors 0) (eqb r.texts 0) (eq-eqb r.editors 0 e) (eq-eqb r.texts 0 t)))) in
    let same : r.entries + 1 + length xs ≡ r.entries + suc (length xs) = omega arith in
    ap (option_and_then (λ n. run n (numbered entry_said (r.entries + 1 + 1) xs ++ rest))) step
    ∙ entries_run xs next rest some e t
    ∙ ap (λ (n : ℕ). run (record r { entries = n }) rest) same

histories_run : (hs : List (List TraceEntry)) (r : Reached) (rest : List TraceLine) → r.editors ≡ 0 → r.texts ≡ 0
    → r.site + length hs ≤ r.sites
    → (e : ℕ) × (run r (numbered history_said (r.site + 1) hs ++ rest) ≡ run
    (record r { site = r.site + length hs; entries = e }) rest)
histories_run [] r rest e t room =
    let same : r.site ≡ r.site + 0 = omega arith in (r.entries, ap (λ (n : ℕ). run (record r { site = n }) rest) same)
histories_run (h ∷ hs) r rest e t room =
    let next : Reached = record r { site = r.site + 1; entries = 0 } in
    let behind : List TraceLine = numbered history_said (r.site + 1 + 1) hs in
    let step : reached_by r (HistoryOf (r.site + 1)) ≡ Some next =
    cond-true {A = Option Reached} (eqb (r.site + 1) (r.site + 1) && leb (r.site + 1) r.sites) (Some next) None
    (and_from (eqb (r.site + 1) (r.site + 1)) (leb (r.site + 1) r.sites) (eq-eqb (r.site + 1) (r.site + 1) refl)
    (le-leb (r.site + 1) r.sites (omega arith))) in
    let then : Reached = record next { entries = 0 + length h } in
    let others = histories_run hs then rest e t (omega arith) in
    let same : r.site + 1 + length hs ≡ r.site + suc (length hs) = omega arith in (
      others.0,
      ap (option_and_then (λ n. run n ((numbered entry_said 1 h ++ behind) ++ rest))) step
          ∙ ap (run next) (append_assoc (numbered entry_said 1 h) behind rest)
          ∙ entries_run h next (behind ++ rest) (omega arith) e t
          ∙ others.1
          ∙ ap (λ (n : ℕ). run (record r { site = n; entries = others.0 }) rest) same,
    )

did_run : (d : Did) (r : Reached) → 0 < r.editors → r.texts ≡ 0 → reached_by r (did_said d) ≡ Some r
did_run (Call call entry) r some t =
    cond-true {A = Option Reached} (ltb 0 r.editors && eqb r.texts 0) (Some r) None
    (and_from (ltb 0 r.editors) (eqb r.texts 0) (lt-ltb 0 r.editors some) (eq-eqb r.texts 0 t))
did_run (Look calls upto text) r some t =
    cond-true {A = Option Reached} (ltb 0 r.editors && eqb r.texts 0) (Some r) None
    (and_from (ltb 0 r.editors) (eqb r.texts 0) (lt-ltb 0 r.editors some) (eq-eqb r.texts 0 t))

dids_run : (ds : List Did) (r : Reached) (rest : List TraceLine) → 0 < r.editors → r.texts ≡ 0 → run r
    (map did_said ds ++ rest) ≡ run r rest
dids_run [] r rest some t = refl
dids_run (d ∷ ds) r rest some t =
    ap (option_and_then (λ n. run n (map did_said ds ++ rest))) (did_run d r some t) ∙ dids_run ds r rest some t

logs_run : (ls : List EditorLog) (r : Reached) (rest : List TraceLine) → r.site ≡ r.sites → r.texts ≡ 0
    → AllByRecursion (FitsLog r.sites) ls
    → run r (numbered log_said (r.editors + 1) ls ++ rest) ≡ run (record r { editors = r.editors + length ls }) rest
logs_run [] r rest full t h =
    let same : r.editors ≡ r.editors + 0 = omega arith in ap (λ (n : ℕ). run (record r { editors = n }) rest) same
logs_run (log ∷ ls) r rest full t h =
    let next : Reached = record r { editors = r.editors + 1 } in
    let behind : List TraceLine = numbered log_said (r.editors + 1 + 1) ls in
    let step : reached_by r (EditorAt (r.editors + 1) log.home) ≡ Some next =
    cond-true {A = Option Reached} (eqb (r.editors + 1) (r.editors + 1) &&
    (leb log.home r.sites && (eqb r.site r.sites && eqb r.texts 0))) (Some next) None
    (and_from (eqb (r.editors + 1) (r.editors + 1)) (leb log.home r.sites && (eqb r.site r.sites && eqb r.texts 0))
    (eq-eqb (r.editors + 1) (r.editors + 1) refl)
    (and_from (leb log.home r.sites) (eqb r.site r.sites && eqb r.texts 0) (le-leb log.home r.sites h.0.within)
    (and_from (eqb r.site r.sites) (eqb r.texts 0) (eq-eqb r.site r.sites full) (eq-eqb r.texts 0 t)))) in
    let same : r.editors + 1 + length ls ≡ r.editors + suc (length ls) = omega arith in
    ap (option_and_then (λ n. run n ((map did_said log.did ++ behind) ++ rest))) step
    ∙ ap (run next) (append_assoc (map did_said log.did) behind rest)
    ∙ dids_run log.did next (behind ++ rest) (omega arith) t
    ∙ logs_run ls next rest full t h.1
    ∙ ap (λ (n : ℕ). run (record r { editors = n }) rest) same

texts_run : (xs : List (List ℕ)) (r : Reached) (rest : List TraceLine) → r.site ≡ r.sites
    → r.texts + length xs ≤ r.sites
    → run r (numbered text_said (r.texts + 1) xs ++ rest) ≡ run (record r { texts = r.texts + length xs }) rest
texts_run [] r rest full room =
    let same : r.texts ≡ r.texts + 0 = omega arith in ap (λ (n : ℕ). run (record r { texts = n }) rest) same
texts_run (x ∷ xs) r rest full room =
    let next : Reached = record r { texts = r.texts + 1 } in
    let step : reached_by r (TextIs (r.texts + 1) x) ≡ Some next =
    cond-true {A = Option Reached} (eqb (r.texts + 1) (r.texts + 1) &&
    (leb (r.texts + 1) r.sites && eqb r.site r.sites)) (Some next) None
    (and_from (eqb (r.texts + 1) (r.texts + 1)) (leb (r.texts + 1) r.sites && eqb r.site r.sites)
    (eq-eqb (r.texts + 1) (r.texts + 1) refl)
    (and_from (leb (r.texts + 1) r.sites) (eqb r.site r.sites) (le-leb (r.texts + 1) r.sites (omega arith))
    (eq-eqb r.site r.sites full))) in
    let same : r.texts + 1 + length xs ≡ r.texts + suc (length xs) = omega arith in
    ap (option_and_then (λ n. run n (numbered text_said (r.texts + 1 + 1) xs ++ rest))) step
    ∙ texts_run xs next rest full (omega arith)
    ∙ ap (λ (n : ℕ). run (record r { texts = n }) rest) same

-- the lines of a trace were all read
pub record RunsToEnd (lines : List TraceLine) : Type 0 where
  pub final : Reached
  pub reached : run nothing_read lines ≡ Some final
  pub ended : final.is_ended ≡ true

pub trace_run : (t : TraceValue) → IsTraceValue t → RunsToEnd (said t)
trace_run t h =
    let zero_plus : (n : ℕ) → 0 + n ≡ n = λ n. omega arith in
    let r0 : Reached = record nothing_read { is_begun = true; sites = t.sites } in
    let last : List TraceLine = Ended ∷ [] in
    let back : List TraceLine = numbered text_said 1 t.texts ++ last in
    let first = histories_run t.histories r0 (numbered log_said 1 t.logs ++ back) refl refl
    (omega (arith, h.each_history)) in
    let r1 : Reached = record r0 { site = 0 + length t.histories; entries = first.0 } in
    let full : 0 + length t.histories ≡ t.sites = zero_plus (length t.histories) ∙ h.each_history in
    let second = logs_run t.logs r1 back full refl h.logs in
    let r2 : Reached = record r1 { editors = 0 + length t.logs } in
    let third = texts_run t.texts r2 last full (omega (arith, h.each_text)) in
    let r3 : Reached = record r2 { texts = 0 + length t.texts } in
    let all : 0 + length t.texts ≡ t.sites = zero_plus (length t.texts) ∙ h.each_text in
    let step : reached_by r3 Ended ≡ Some (record r3 { is_ended = true }) =
    cond-true {A = Option Reached} (eqb (0 + length t.histories) t.sites && eqb (0 + length t.texts) t.sites)
    (Some (record r3 { is_ended = true })) None
    (and_from (eqb (0 + length t.histories) t.sites) (eqb (0 + length t.texts) t.sites)
    (eq-eqb (0 + length t.histories) t.sites full) (eq-eqb (0 + length t.texts) t.sites all)) in
    record {
      final = record r3 { is_ended = true };
      reached = first.1 ∙ second ∙ third ∙ ap (option_and_then (λ n. run n [])) step;
      ended = refl;
    }

-- ---- on to the end

front_split : {X : Type 0} (a b l t u e : List X) → l ≡ [] → t ≡ []
    → (a ++ b) ++ (l ++ ((t ++ u) ++ e)) ≡ (a ++ (l ++ (t ++ []))) ++ (b ++ (u ++ e))
front_split a b l t u e f g =
    (λ i. (a ++ b) ++ (f i ++ ((g i ++ u) ++ e)))
    ∙ append_assoc a b (u ++ e) ∙ ap (λ s. s ++ (b ++ (u ++ e))) (sym (append-nil a))
    ∙ sym (λ i. (a ++ (f i ++ (g i ++ []))) ++ (b ++ (u ++ e)))

back_split : {X : Type 0} (a l t u e : List X) → a ++ (l ++ ((t ++ u) ++ e)) ≡ (a ++ (l ++ (t ++ []))) ++ (u ++ e)
back_split a l t u e =
    sym (append_assoc a (l ++ (t ++ [])) (u ++ e)
    ∙ ap (λ s. a ++ s) (append_assoc l (t ++ []) (u ++ e)
    ∙ ap (λ s. l ++ s) (ap (λ s. s ++ (u ++ e)) (append-nil t) ∙ sym (append_assoc t u e))))

beginning_by : (lines behind : List TraceLine) (t : TraceValue) → IsTraceValue t → said t ≡ lines ++ behind
    → IsBeginning (map written lines)
beginning_by lines behind t h e = record {
  whole = t;
  is = h;
  behind = map written behind;
  splits = ap (map written) e ∙ map_behind written lines behind;
}

abbrev no_entries : List TraceEntry
no_entries = []

abbrev no_text : List ℕ
no_text = []

begins_early : (r : Reached) (lines : List TraceLine) (h : IsAt r lines) → r.is_ended ≡ false
    → length h.value.histories < h.value.sites
    → IsBeginning (map written lines)
begins_early r lines h still early =
    let v : TraceValue = h.value in
    let m : ℕ = v.sites - length v.histories in
    let k : ℕ = v.sites - length v.texts in
    let none = h.first early in
    let histories : List (List TraceEntry) = v.histories ++ replicate m no_entries in
    let texts : List (List ℕ) = v.texts ++ replicate k no_text in
    let t : TraceValue = record v { histories = histories; texts = texts } in
    let a : List TraceLine = numbered history_said 1 v.histories in
    let b : List TraceLine = numbered history_said (1 + length v.histories) (replicate m no_entries) in
    let c : List TraceLine = numbered text_said 1 v.texts in
    let d : List TraceLine = numbered text_said (1 + length v.texts) (replicate k no_text) in
    let valid : IsTraceValue t = record {
      few = h.few;
      each_history = omega (arith, length-append v.histories (replicate m no_entries), length-replicate m no_entries);
      histories = all_append FitsHistory v.histories (replicate m no_entries) h.histories
          (all_same FitsHistory m no_entries (record { each = tt; few = omega arith }));
      logs = h.logs;
      few_logs = h.few_logs;
      each_text = omega (
        arith,
        h.texts_within,
        length-append v.texts
            (replicate k no_text),
        length-replicate k no_text,
      );
      texts = all_append IsUtf8 v.texts (replicate k no_text) h.utf8 (all_same IsUtf8 k no_text IsUtf8-nil);
    } in
    beginning_by lines (b ++ (d ++ Ended ∷ [])) t valid
    (ap (λ (s : List TraceLine). SitesAre v.sites ∷ s)
    ((λ i. numbered_behind history_said 1 v.histories (replicate m no_entries) i
    ++ (numbered log_said 1 v.logs ++ (numbered_behind text_said 1 v.texts (replicate k no_text) i ++ Ended ∷ [])))
    ∙ front_split a b (numbered log_said 1 v.logs) c d (Ended ∷ [])
    (ap (numbered log_said 1) (nil_from_length v.logs none.0))
    (ap (numbered text_said 1) (nil_from_length v.texts none.1)))
    ∙ ap (λ (s : List TraceLine). s ++ (b ++ (d ++ Ended ∷ []))) (sym (h.said ∙ ap (opening v) still)))

begins_late : (r : Reached) (lines : List TraceLine) (h : IsAt r lines) → r.is_ended ≡ false
    → h.value.sites ≤ length h.value.histories
    → IsBeginning (map written lines)
begins_late r lines h still late =
    let v : TraceValue = h.value in
    let k : ℕ = v.sites - length v.texts in
    let t : TraceValue = record v { texts = v.texts ++ replicate k no_text } in
    let a : List TraceLine = numbered history_said 1 v.histories in
    let c : List TraceLine = numbered text_said 1 v.texts in
    let d : List TraceLine = numbered text_said (1 + length v.texts) (replicate k no_text) in
    let valid : IsTraceValue t = record {
      few = h.few;
      each_history = omega (arith, h.within);
      histories = h.histories;
      logs = h.logs;
      few_logs = h.few_logs;
      each_text = omega (
        arith,
        h.texts_within,
        length-append v.texts
            (replicate k no_text),
        length-replicate k no_text,
      );
      texts = all_append IsUtf8 v.texts (replicate k no_text) h.utf8 (all_same IsUtf8 k no_text IsUtf8-nil);
    } in
    beginning_by lines (d ++ Ended ∷ []) t valid
    (ap (λ (s : List TraceLine). SitesAre v.sites ∷ s)
    ((λ i. a ++ (numbered log_said 1 v.logs ++ (numbered_behind text_said 1 v.texts (replicate k no_text) i ++ Ended
    ∷ [])))
    ∙ back_split a (numbered log_said 1 v.logs) c d (Ended ∷ []))
    ∙ ap (λ (s : List TraceLine). s ++ (d ++ Ended ∷ [])) (sym (h.said ∙ ap (opening v) still)))

-- lines that were all read are those of a trace
pub record AreWhole (r : Reached) (lines : List TraceLine) : Type 0 where
  pub value : TraceValue
  pub is : IsTraceValue value
  pub sites_are : r.sites ≡ value.sites
  pub lines_are : lines ≡ said value

pub whole_lines : (r : Reached) (lines : List TraceLine) → IsAt r lines → r.is_ended ≡ true → AreWhole r lines
whole_lines r lines h ended = record {
  value = h.value;
  is = record {
    few = h.few;
    each_history = (h.ended ended).0;
    histories = h.histories;
    logs = h.logs;
    few_logs = h.few_logs;
    each_text = (h.ended ended).1;
    texts = h.utf8;
  };
  sites_are = h.sites;
  lines_are = h.said ∙ ap (opening h.value) ended;
}

pub can_end : (r : Reached) (lines : List TraceLine) → IsAt r lines → IsBeginning (map written lines)
can_end r lines h = at_end r.is_ended refl
  where
    at_end : (b : Bool) → r.is_ended ≡ b → IsBeginning (map written lines)
    at_end true e =
        let whole = whole_lines r lines h e in
        beginning_by lines [] whole.value whole.is (sym (append-nil lines ∙ whole.lines_are))
    at_end false e =
        ⊎_elim (λ (early : length h.value.histories < h.value.sites). begins_early r lines h e early)
        (λ (late : h.value.sites ≤ length h.value.histories). begins_late r lines h e late)
        (cases_lt (length h.value.histories) h.value.sites)

pub nothing_begins : IsBeginning []
nothing_begins =
    let none : TraceValue = record { sites = 0; histories = []; logs = []; texts = [] } in
    beginning_by [] (said none) none (record {
      few = omega arith;
      each_history = refl;
      histories = tt;
      logs = tt;
      few_logs = omega arith;
      each_text = refl;
      texts = tt;
    }) refl
