-- The value that lines tell, collected from the last one on: so no lines are those of two values.
use Rattle.std.proofs.Common.{◌≡◌, ◌<◌, ◌+◌, ⊎_elim, ℕ, List, [], ◌∷◌, ◌++◌, length, map, take, drop}
use Rattle.std.proofs.Common.{zero, suc, refl, sym, ap, subst, ◌∙◌, append_assoc, append-nil}
use Rattle.td_trace.specs.declared.entry.TraceEntry.{TraceEntry}
use Rattle.td_trace.specs.declared.log.Did.{Did}
use Rattle.td_trace.specs.declared.log.Did.TheVariants.{Call, Look}
use Rattle.td_trace.specs.declared.log.EditorLog.{EditorLog}
use Rattle.td_report.specs.Trace.{did_said, entry_said, history_said, log_said, numbered, text_said}
use Rattle.td_report.specs.TraceLines.{TraceLine, HistoryOf, EditorAt}
use Rattle.td_report.specs.TraceLines.{Ended}
use Rattle.td_reader.specs.Collected.{Collected, collect, told_by}
use Rattle.td_reader.specs.Form.{IsBeginning, IsFaultyForm, IsTraceOf, IsUnended, cut_lines, said}
use Rattle.td_reader.specs.Form.{trace_lines}
use Rattle.td_reader.specs.Values.{TraceValue, IsTraceValue}
use Rattle.td_reader.proofs.Faults.{same_said, trace_cut}

entries_collected : (n : ℕ) (xs : List TraceEntry) (rest : List TraceLine)
    → collect (numbered entry_said n xs ++ rest) ≡ record (collect rest) { entries = xs ++ (collect rest).entries }
entries_collected n [] rest = refl
entries_collected n (x ∷ xs) rest = ap (λ (c : Collected). record c { entries = x ∷ c.entries })
    (entries_collected (n + 1) xs rest)

histories_collected : (n : ℕ) (hs : List (List TraceEntry)) (rest : List TraceLine) → (collect rest).entries ≡ []
    → collect (numbered history_said n hs ++ rest) ≡ record (collect rest) {
      entries = [];
      histories = hs ++
          (collect rest).histories;
    }
histories_collected n [] rest e = λ i. record (collect rest) { entries = e i }
histories_collected n (h ∷ hs) rest e =
    let behind : List TraceLine = numbered history_said (n + 1) hs in
    ap (λ (lines : List TraceLine). collect (HistoryOf n ∷ lines))
    (append_assoc (numbered entry_said 1 h) behind rest)
    ∙ ap (λ (c : Collected). record c { entries = []; histories = c.entries ∷ c.histories })
    (entries_collected 1 h (behind ++ rest)
    ∙ ap (λ (c : Collected). record c { entries = h ++ c.entries }) (histories_collected (n + 1) hs rest e)
    ∙ ap (λ (es : List TraceEntry). record (collect rest) {
      entries = es;
      histories = hs ++
          (collect rest).histories;
    }) (append-nil h))

dids_collected : (ds : List Did) (rest : List TraceLine)
    → collect (map did_said ds ++ rest) ≡ record (collect rest) { dids = ds ++ (collect rest).dids }
dids_collected [] rest = refl
dids_collected (Call call entry ∷ ds) rest = ap (λ (c : Collected). record c { dids = Call call entry ∷ c.dids })
    (dids_collected ds rest)
dids_collected (Look calls upto text ∷ ds) rest = ap (λ (c : Collected). record c {
  dids = Look calls upto text
      ∷ c.dids;
}) (dids_collected ds rest)

logs_collected : (n : ℕ) (ls : List EditorLog) (rest : List TraceLine) → (collect rest).dids ≡ []
    → collect (numbered log_said n ls ++ rest) ≡ record (collect rest) { dids = []; logs = ls ++ (collect rest).logs }
logs_collected n [] rest e = λ i. record (collect rest) { dids = e i }
logs_collected n (log ∷ ls) rest e =
    let behind : List TraceLine = numbered log_said (n + 1) ls in
    ap (λ (lines : List TraceLine). collect (EditorAt n log.home ∷ lines))
    (append_assoc (map did_said log.did) behind rest)
    ∙ ap (λ (c : Collected). record c { dids = []; logs = record { home = log.home; did = c.dids } ∷ c.logs })
    (dids_collected log.did (behind ++ rest)
    ∙ ap (λ (c : Collected). record c { dids = log.did ++ c.dids }) (logs_collected (n + 1) ls rest e)
    ∙ ap (λ (ds : List Did). record (collect rest) { dids = ds; logs = ls ++ (collect rest).logs })
    (append-nil log.did))

texts_collected : (n : ℕ) (xs : List (List ℕ)) (rest : List TraceLine)
    → collect (numbered text_said n xs ++ rest) ≡ record (collect rest) { texts = xs ++ (collect rest).texts }
texts_collected n [] rest = refl
texts_collected n (x ∷ xs) rest = ap (λ (c : Collected). record c { texts = x ∷ c.texts })
    (texts_collected (n + 1) xs rest)

pub value_again : (t : TraceValue) → told_by (said t) ≡ t
unfolding told_by
value_again t =
    let last : List TraceLine = Ended ∷ [] in
    let back : List TraceLine = numbered text_said 1 t.texts ++ last in
    let middle : List TraceLine = numbered log_said 1 t.logs ++ back in
    let third = texts_collected 1 t.texts last in
    let second = logs_collected 1 t.logs back (ap (λ (c : Collected). c.dids) third) in
    let no_entries = ap (λ (c : Collected). c.entries) second ∙ ap (λ (c : Collected). c.entries) third in
    let first = histories_collected 1 t.histories middle no_entries in
    ap (λ (c : Collected). record { sites = t.sites; histories = c.histories; logs = c.logs; texts = c.texts })
    (first ∙ ap (λ (c : Collected). record c { entries = []; histories = t.histories ++ c.histories })
    (second ∙ ap (λ (c : Collected). record c { dids = []; logs = t.logs ++ c.logs }) third))
    ∙ (λ i. record {
      sites = t.sites;
      histories = append-nil t.histories i;
      logs = append-nil t.logs i;
      texts = append-nil t.texts i;
    })

-- no bytes are the traces of two values
pub one_value : (bytes : List ℕ) (t u : TraceValue) → IsTraceOf bytes t → IsTraceOf bytes u → t ≡ u
one_value bytes t u h k =
    sym (value_again t) ∙ ap (λ (lines : List TraceLine). told_by lines)
    (same_said t u h.0 k.0 (sym h.1 ∙ k.1)) ∙ value_again u

-- ---- no line of a trace is faulty

take_drop : {X : Type 0} (n : ℕ) (xs : List X) → xs ≡ take n xs ++ drop n xs
take_drop zero xs = refl
take_drop (suc n) [] = refl
take_drop (suc n) (x ∷ xs) = ap (λ t. x ∷ t) (take_drop n xs)

front_begins : (t : TraceValue) (n : ℕ) → IsTraceValue t → IsBeginning (take n (trace_lines t))
front_begins t n h = record {
  whole = t;
  is = h;
  behind = drop n (trace_lines t);
  splits = take_drop n
      (trace_lines t);
}

pub no_fault : (bytes : List ℕ) (t : TraceValue) (line : ℕ) → IsTraceOf bytes t → ¬ IsFaultyForm
    (cut_lines bytes) line
no_fault bytes t line h fault =
    let cut : cut_lines bytes ≡ trace_lines t = ap cut_lines h.1 ∙ trace_cut t h.0 in
    ⊎_elim (λ (bad : (fault.before < length (cut_lines bytes)) × ¬ IsBeginning
    (take (fault.before + 1) (cut_lines bytes))).
    bad.1 (subst (λ (lines : List (List ℕ)). IsBeginning (take (fault.before + 1) lines)) (sym cut)
    (front_begins t (fault.before + 1) h.0)))
    (λ (bad : (fault.before ≡ length (cut_lines bytes)) × IsUnended (cut_lines bytes)). bad.1 t h.0 (sym cut))
    fault.bad
