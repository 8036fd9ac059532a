-- The first lines of a trace, and one more.
use Rattle.std.proofs.Common.{◌≡◌, ◌<◌, ◌+◌, ℕ, Bool, true, false, List, [], ◌∷◌, ◌++◌, length, map}
use Rattle.std.proofs.Common.{refl, sym, ap, ◌∙◌, append_assoc, append-nil}
use Rattle.td_trace.specs.declared.entry.TraceEntry.{TraceEntry}
use Rattle.td_trace.specs.declared.log.Did.{Did}
use Rattle.td_trace.specs.declared.log.EditorLog.{EditorLog}
use Rattle.td_report.specs.Trace.{did_said, entry_said, history_said, log_said, numbered, text_said}
use Rattle.td_report.specs.TraceLines.{TraceLine, SitesAre, HistoryOf, EntryIs, EditorAt, TextIs, Ended}
use Rattle.td_reader.specs.Values.{TraceValue}
use Rattle.td_reader.proofs.Lasts.{on_last, LastIs, numbered_behind, numbered_on_last, last_any}

abbrev pub end_said : Bool → List TraceLine
end_said true = Ended ∷ []
end_said false = []

-- what the first lines say: of the value so far, and maybe the end
abbrev pub opening : TraceValue → Bool → List TraceLine
opening v is_ended =
    SitesAre v.sites
    ∷ (numbered history_said 1 v.histories ++ (numbered log_said 1 v.logs ++
    (numbered text_said 1 v.texts ++ end_said is_ended)))

-- ---- the value with one more

abbrev pub with_history : TraceValue → TraceValue
with_history v = record v { histories = v.histories ++ [] ∷ [] }

abbrev pub push_entry : TraceEntry → List TraceEntry → List TraceEntry
push_entry e history = history ++ e ∷ []

abbrev pub with_entry : TraceValue → TraceEntry → TraceValue
with_entry v e = record v { histories = on_last (push_entry e) v.histories }

abbrev pub with_log : TraceValue → ℕ → TraceValue
with_log v home = record v { logs = v.logs ++ record { home = home; did = [] } ∷ [] }

abbrev pub push_did : Did → EditorLog → EditorLog
push_did d log = record { home = log.home; did = log.did ++ d ∷ [] }

abbrev pub with_did : TraceValue → Did → TraceValue
with_did v d = record v { logs = on_last (push_did d) v.logs }

abbrev pub with_text : TraceValue → List ℕ → TraceValue
with_text v text = record v { texts = v.texts ++ text ∷ [] }

-- ---- lists in four parts

front_push : {X : Type 0} (a l t : List X) (x : X) → l ≡ [] → t ≡ []
    → (a ++ (l ++ (t ++ []))) ++ x ∷ [] ≡ (a ++ x ∷ []) ++ (l ++ (t ++ []))
front_push a l t x e f =
    (λ i. (a ++ (e i ++ (f i ++ []))) ++ x ∷ [])
    ∙ ap (λ s. s ++ x ∷ []) (append-nil a) ∙ sym (append-nil (a ++ x ∷ []))
    ∙ sym (λ i. (a ++ x ∷ []) ++ (e i ++ (f i ++ [])))

middle_push : {X : Type 0} (a l t : List X) (x : X) → t ≡ []
    → (a ++ (l ++ (t ++ []))) ++ x ∷ [] ≡ a ++ ((l ++ x ∷ []) ++ (t ++ []))
middle_push a l t x f =
    (λ i. (a ++ (l ++ (f i ++ []))) ++ x ∷ [])
    ∙ append_assoc a (l ++ []) (x ∷ [])
    ∙ ap (λ s. a ++ s) (ap (λ s. s ++ x ∷ []) (append-nil l) ∙ sym (append-nil (l ++ x ∷ [])))
    ∙ sym (λ i. a ++ ((l ++ x ∷ []) ++ (f i ++ [])))

end_push : {X : Type 0} (a l t : List X) (x : X) → (a ++ (l ++ (t ++ []))) ++ x ∷ [] ≡ a ++ (l ++ (t ++ x ∷ []))
end_push a l t x =
    append_assoc a (l ++ (t ++ [])) (x ∷ [])
    ∙ ap (λ s. a ++ s) (append_assoc l (t ++ []) (x ∷ []) ∙ ap (λ s. l ++ (s ++ x ∷ [])) (append-nil t))

back_push : {X : Type 0} (a l t : List X) (x : X) → (a ++ (l ++ (t ++ []))) ++ x ∷ [] ≡ a ++
    (l ++ ((t ++ x ∷ []) ++ []))
back_push a l t x = end_push a l t x ∙ ap (λ s. a ++ (l ++ s)) (sym (append-nil (t ++ x ∷ [])))

-- ---- one more line

pub open_history : (v : TraceValue) (site : ℕ) → v.logs ≡ [] → v.texts ≡ [] → site ≡ 1 + length v.histories
    → opening v false ++ HistoryOf site ∷ [] ≡ opening (with_history v) false
open_history v site e f is =
    ap (λ (s : List TraceLine). SitesAre v.sites ∷ s)
    (front_push (numbered history_said 1 v.histories) (numbered log_said 1 v.logs) (numbered text_said 1 v.texts)
    (HistoryOf site)
    (ap (numbered log_said 1) e) (ap (numbered text_said 1) f)
    ∙ ap (λ (s : List TraceLine). s ++ (numbered log_said 1 v.logs ++ (numbered text_said 1 v.texts ++ [])))
    (ap (λ (n : ℕ). numbered history_said 1 v.histories ++ HistoryOf n ∷ []) is
    ∙ sym (numbered_behind history_said 1 v.histories ([] ∷ []))))

entry_step : (number : ℕ) (e : TraceEntry) (n : ℕ) (h : List TraceEntry) → number ≡ 1 + length h
    → history_said n (push_entry e h) ≡ history_said n h ++ EntryIs number e ∷ []
entry_step number e n h is =
    ap (λ (s : List TraceLine). HistoryOf n ∷ s)
    (numbered_behind entry_said 1 h (e ∷ []) ∙ ap (λ (m : ℕ). numbered entry_said 1 h ++ EntryIs m e ∷ []) (sym is))

pub open_entry : (v : TraceValue) (number : ℕ) (e : TraceEntry) → v.logs ≡ [] → v.texts ≡ []
    → LastIs (λ h. number ≡ 1 + length h) v.histories
    → opening v false ++ EntryIs number e ∷ [] ≡ opening (with_entry v e) false
open_entry v number e l t last =
    ap (λ (s : List TraceLine). SitesAre v.sites ∷ s)
    (front_push (numbered history_said 1 v.histories) (numbered log_said 1 v.logs) (numbered text_said 1 v.texts)
    (EntryIs number e)
    (ap (numbered log_said 1) l) (ap (numbered text_said 1) t)
    ∙ ap (λ (s : List TraceLine). s ++ (numbered log_said 1 v.logs ++ (numbered text_said 1 v.texts ++ [])))
    (sym (numbered_on_last history_said (push_entry e) (EntryIs number e) (λ h. number ≡ 1 + length h)
    (λ n h is. entry_step number e n h is) 1 v.histories last)))

pub open_log : (v : TraceValue) (number home : ℕ) → v.texts ≡ [] → number ≡ 1 + length v.logs
    → opening v false ++ EditorAt number home ∷ [] ≡ opening (with_log v home) false
open_log v number home t is =
    ap (λ (s : List TraceLine). SitesAre v.sites ∷ s)
    (middle_push (numbered history_said 1 v.histories) (numbered log_said 1 v.logs) (numbered text_said 1 v.texts)
    (EditorAt number home)
    (ap (numbered text_said 1) t)
    ∙ ap (λ (s : List TraceLine). numbered history_said 1 v.histories ++ (s ++ (numbered text_said 1 v.texts ++ [])))
    (ap (λ (n : ℕ). numbered log_said 1 v.logs ++ EditorAt n home ∷ []) is
    ∙ sym (numbered_behind log_said 1 v.logs (record { home = home; did = [] } ∷ []))))

pub map_behind : {X Y : Type 0} (f : X → Y) (xs ys : List X) → map f (xs ++ ys) ≡ map f xs ++ map f ys
map_behind f [] ys = refl
map_behind f (x ∷ xs) ys = ap (λ t. f x ∷ t) (map_behind f xs ys)

did_step : (d : Did) (n : ℕ) (log : EditorLog) → log_said n (push_did d log) ≡ log_said n log ++ did_said d ∷ []
did_step d n log = ap (λ (s : List TraceLine). EditorAt n log.home ∷ s) (map_behind did_said log.did (d ∷ []))

pub open_did : (v : TraceValue) (d : Did) → v.texts ≡ [] → 0 < length v.logs
    → opening v false ++ did_said d ∷ [] ≡ opening (with_did v d) false
open_did v d t some =
    ap (λ (s : List TraceLine). SitesAre v.sites ∷ s)
    (middle_push (numbered history_said 1 v.histories) (numbered log_said 1 v.logs) (numbered text_said 1 v.texts)
    (did_said d)
    (ap (numbered text_said 1) t)
    ∙ ap (λ (s : List TraceLine). numbered history_said 1 v.histories ++ (s ++ (numbered text_said 1 v.texts ++ [])))
    (sym (numbered_on_last log_said (push_did d) (did_said d) (λ _. Unit {0}) (λ n log is. did_step d n log) 1 v.logs
    (last_any v.logs some))))

pub open_text : (v : TraceValue) (site : ℕ) (text : List ℕ) → site ≡ 1 + length v.texts
    → opening v false ++ TextIs site text ∷ [] ≡ opening (with_text v text) false
open_text v site text is =
    ap (λ (s : List TraceLine). SitesAre v.sites ∷ s)
    (back_push (numbered history_said 1 v.histories) (numbered log_said 1 v.logs) (numbered text_said 1 v.texts)
    (TextIs site text)
    ∙ ap (λ (s : List TraceLine). numbered history_said 1 v.histories ++ (numbered log_said 1 v.logs ++ (s ++ [])))
    (ap (λ (n : ℕ). numbered text_said 1 v.texts ++ TextIs n text ∷ []) is
    ∙ sym (numbered_behind text_said 1 v.texts (text ∷ []))))

pub open_end : (v : TraceValue) → opening v false ++ Ended ∷ [] ≡ opening v true
open_end v =
    ap (λ (s : List TraceLine). SitesAre v.sites ∷ s)
    (end_push (numbered history_said 1 v.histories) (numbered log_said 1 v.logs) (numbered text_said 1 v.texts) Ended)
