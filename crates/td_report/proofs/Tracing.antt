-- The lines of a trace, written one behind the other.
use Rattle.std.proofs.Common.{◌≡◌, ◌+◌, ◌-◌, ◌∙◌, ℕ, zero, suc, List, [], ◌∷◌, ◌++◌, Option, None, eqb, length, map}
use Rattle.std.proofs.Common.{ap, append_assoc, append-nil, arith, refl, sym, take}
use Rattle.std.specs.Prelude.{slice_get}
use Rattle.std.specs.List.{flat_map}
use Rattle.std.proofs.lemmas.Bool.{cond-false, ne_eqb}
use Rattle.std.proofs.lemmas.List.Concat.{flat_map-append}
use Rattle.td_op.specs.declared.entry.Entry.{Entry}
use Rattle.td_base.specs.Lists.{kth}
use Rattle.td_trace.specs.declared.log.Did.{Did}
use Rattle.td_trace.specs.declared.log.EditorLog.{EditorLog}
use Rattle.td_trace.specs.declared.entry.TraceEntry.{TraceEntry}
use Rattle.td_trace.specs.Entries.{traced}
use Rattle.td_report.specs.Parts.{if_any}
use Rattle.td_report.specs.Trace.{all_written, did_said, entry_said, entry_written, history_said, log_said, numbered}
use Rattle.td_report.specs.Trace.{text_said, trace}
use Rattle.td_report.specs.TraceLines.{TraceLine, SitesAre, Ended, written}

kth_suc : {X : Type 0} (k : ℕ) (xs : List X) → kth (k + 1) xs ≡ slice_get xs k
kth_suc {X} k xs =
    let back : k + 1 - 1 ≡ k = omega arith in
    cond-false {A = Option X} (eqb (k + 1) 0) None (slice_get xs (k + 1 - 1)) (ne_eqb (k + 1) 0 (omega arith))
    ∙ ap (slice_get xs) back

next_of : (number k : ℕ) (xs : List Entry)
    → all_written (numbered entry_said number (map traced (take k xs)))
    ++ if_any (entry_written (number + k)) (slice_get xs k)
    ≡ all_written (numbered entry_said number (map traced (take (suc k) xs)))
next_of number zero [] = refl
next_of number (suc k) [] = refl
next_of number zero (x ∷ xs) =
    let same : number + 0 ≡ number = omega arith in
    ap (λ (n : ℕ). entry_written n x) same ∙ sym (append-nil (entry_written number x))
next_of number (suc k) (x ∷ xs) =
    let same : number + suc k ≡ number + 1 + k = omega arith in
    append_assoc (entry_written number x) (all_written (numbered entry_said (number + 1) (map traced (take k xs))))
    (if_any (entry_written (number + suc k)) (slice_get xs k))
    ∙ ap (λ (n : ℕ). entry_written number x
    ++ (all_written (numbered entry_said (number + 1) (map traced (take k xs)))
    ++ if_any (entry_written n) (slice_get xs k))) same
    ∙ ap (λ (rest : List ℕ). entry_written number x ++ rest) (next_of (number + 1) k xs)

-- the next entry, where there is one
pub next_entry : (start : List ℕ) (xs : List Entry) (k : ℕ)
    → (start ++ all_written (numbered entry_said 1 (map traced (take k xs))))
    ++ if_any (entry_written (k + 1)) (kth (k + 1) xs)
    ≡ start ++ all_written (numbered entry_said 1 (map traced (take (k + 1) xs)))
next_entry start xs k =
    let number : k + 1 ≡ 1 + k = omega arith in
    let more : suc k ≡ k + 1 = omega arith in
    ap (λ (o : Option Entry). (start ++ all_written (numbered entry_said 1 (map traced (take k xs))))
    ++ if_any (entry_written (k + 1)) o)
    (kth_suc k xs)
    ∙ append_assoc start (all_written (numbered entry_said 1 (map traced (take k xs)))) (if_any (entry_written (k + 1))
    (slice_get xs k))
    ∙ ap (λ (n : ℕ). start
    ++ (all_written (numbered entry_said 1 (map traced (take k xs))) ++ if_any (entry_written n) (slice_get xs k)))
    number
    ∙ ap (λ (rest : List ℕ). start ++ rest) (next_of 1 k xs)
    ∙ ap (λ (n : ℕ). start ++ all_written (numbered entry_said 1 (map traced (take n xs)))) more

-- what an editor did, a line for each
pub all_did : (did : List Did) → all_written (map did_said did) ≡ flat_map (λ d. written (did_said d)) did
all_did [] = refl
all_did (d ∷ did) = ap (λ (rest : List ℕ). written (did_said d) ++ rest) (all_did did)

-- ---- the whole trace

-- what is said of one more stands behind the rest
pub numbered_push : {X : Type 0} (say : ℕ → X → List TraceLine) (number : ℕ) (xs : List X) (x : X)
    → all_written (numbered say number (xs ++ x ∷ []))
    ≡ all_written (numbered say number xs) ++ all_written (say (number + length xs) x)
numbered_push say number [] x =
    let none : number ≡ number + 0 = omega arith in
    ap all_written (append-nil (say number x)) ∙ ap (λ (n : ℕ). all_written (say n x)) none
numbered_push say number (y ∷ xs) x =
    let same : number + 1 + length xs ≡ number + length (y ∷ xs) = omega arith in
    flat_map-append written (say number y) (numbered say (number + 1) (xs ++ x ∷ []))
    ∙ ap (λ (rest : List ℕ). all_written (say number y) ++ rest) (numbered_push say (number + 1) xs x)
    ∙ sym (append_assoc (all_written (say number y)) (all_written (numbered say (number + 1) xs))
    (all_written (say (number + 1 + length xs) x)))
    ∙ ap (λ (front : List ℕ). front ++ all_written (say (number + 1 + length xs) x))
    (sym (flat_map-append written (say number y) (numbered say (number + 1) xs)))
    ∙ ap (λ (n : ℕ). all_written (numbered say number (y ∷ xs)) ++ all_written (say n x)) same

pub parts_of_trace : (sites : ℕ) (histories : List (List TraceEntry)) (logs : List EditorLog) (texts : List (List ℕ))
    → trace sites histories logs texts
    ≡ written (SitesAre sites)
    ++ (all_written (numbered history_said 1 histories)
    ++ (all_written (numbered log_said 1 logs) ++ (all_written (numbered text_said 1 texts) ++ written Ended)))
parts_of_trace sites histories logs texts =
    let one : List TraceLine = numbered history_said 1 histories in
    let two : List TraceLine = numbered log_said 1 logs in
    let three : List TraceLine = numbered text_said 1 texts in
    let last_three : all_written (three ++ Ended ∷ []) ≡ all_written three ++ written Ended =
    flat_map-append written three (Ended ∷ [])
    ∙ ap (λ (xs : List ℕ). all_written three ++ xs) (append-nil (written Ended)) in
    let last_two : all_written (two ++ (three ++ Ended ∷ [])) ≡ all_written two ++ (all_written three
    ++ written Ended) =
    flat_map-append written two (three ++ Ended ∷ []) ∙ ap (λ (xs : List ℕ). all_written two ++ xs) last_three in
    ap (λ (xs : List ℕ). written (SitesAre sites) ++ xs)
    (flat_map-append written one (two ++ (three ++ Ended ∷ []))
    ∙ ap (λ (xs : List ℕ). all_written one ++ xs) last_two)
