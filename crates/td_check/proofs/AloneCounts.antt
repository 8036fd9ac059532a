-- Counts of calls come row by row.
use Rattle.std.proofs.Common.{◌≡◌, ◌<◌, ◌+◌, ◌++◌, ◌∷◌, ◌==◌, ℕ, zero, suc, List, [], Bool, true, false, Option, Some}
use Rattle.std.proofs.Common.{None, option_and_then, option_map, unwrap_or, if◌then◌else◌, length, length-append}
use Rattle.std.proofs.Common.{take, min, add_assoc, add-zero, zero-add, refl, sym, ap, ◌∙◌, subst, ⊎_elim, arith}
use Rattle.std.proofs.Math.ListN.{length-set, set}
use Rattle.std.proofs.lemmas.Bool.{cases_eq, ne_eqb, eq-eqb}
use Rattle.std.proofs.lemmas.Option.{same_Some, slice_get_within}
use Rattle.std.specs.Prelude.{slice_get}
use Rattle.std.specs.declared.alloc.Global.{Global}
use Rattle.std.specs.declared.vec.Vec.{Vec}
use Rattle.td_base.proofs.Elements.{get_front}
use Rattle.td_base.proofs.Places.{take_there}
use Rattle.td_history.proofs.Places.{set_get}
use Rattle.td_trace.specs.Editors.{calls_at, site_calls_at}
use Rattle.td_trace.specs.declared.log.Did.{Did}
use Rattle.td_trace.specs.declared.log.Did.TheVariants.{Call, Look}
use Rattle.td_trace.specs.declared.log.EditorLog.{EditorLog}
use Rattle.td_reader.specs.LineNumbers.{did_count}
use Rattle.td_reader.specs.Values.{TraceValue}
use Rattle.td_check.specs.Alone.{AreCounts, AreRows, IsRowOfCalls, counted_at}

-- ---- one element is set

get_set_other : {X : Type 0} (xs : List X) (i j : ℕ) (x : X) → ¬ (j ≡ i) → slice_get (set xs i x) j ≡ slice_get xs j
get_set_other [] i j x other = refl
get_set_other (y ∷ xs) zero zero x other = absurd (other refl)
get_set_other (y ∷ xs) zero (suc j) x other = refl
get_set_other (y ∷ xs) (suc i) zero x other = refl
get_set_other (y ∷ xs) (suc i) (suc j) x other = get_set_other xs i j x (λ e. other (ap suc e))

none_within : {X : Type 0} (xs : List X) (i : ℕ) → i < length xs → slice_get xs i ≡ None → ⊥
none_within [] i less e = omega arith
none_within (x ∷ xs) zero less e = cc
none_within (x ∷ xs) (suc i) less e = none_within xs i (omega arith) e

-- ---- the calls of an editor

-- what an editor did is told up to its number
pub told_within : (o : Option EditorLog) (log : EditorLog) (index : ℕ) → o ≡ Some log
    → index < unwrap_or (option_map did_count o) 0
    → option_and_then (λ (log : EditorLog). slice_get log.did index) o ≡ None → ⊥
told_within o log index e less none =
    let within : index < length log.did =
    subst (λ (n : ℕ). index < n) (ap (λ (x : Option EditorLog). unwrap_or (option_map did_count x) 0) e) less in
    none_within log.did index within
    (sym (ap (option_and_then (λ (log : EditorLog). slice_get log.did index)) e) ∙ none)

pub counts_same : (f g : ℕ → ℕ) (row : List ℕ) → ((i : ℕ) → f i ≡ g i) → AreCounts f row → AreCounts g row
counts_same f g row same a i less = a i less ∙ ap (λ (n : ℕ). min n 255) (same i)

added_by : (b : Bool) (n : ℕ) → (if b then suc n else n) ≡ n + (if b then suc zero else zero)
added_by true n = omega arith
added_by false n = omega arith

one_by : (b : Bool) (all front last : ℕ) → all ≡ front + last
    → (if b then suc all else all) ≡ (if b then suc front else front) + last
one_by true all front last e = omega arith
one_by false all front last e = e

calls_more : (k : ℕ) (deeds : List Did) (did : Did)
    → calls_at k (deeds ++ did ∷ []) ≡ calls_at k deeds + calls_at k (did ∷ [])
calls_more k [] did = sym (zero-add (calls_at k (did ∷ [])))
calls_more k (Call call entry ∷ deeds) did =
    one_by (entry == k) (calls_at k (deeds ++ did ∷ [])) (calls_at k deeds) (calls_at k (did ∷ []))
    (calls_more k deeds did)
calls_more k (Look calls upto text ∷ deeds) did = calls_more k deeds did

pub did_counted : (log : EditorLog) (index : ℕ) (did : Did) (before : ℕ → ℕ) (row : List ℕ)
    → slice_get log.did index ≡ Some did
    → AreCounts (λ (i : ℕ). before i + calls_at (i + 1) (take index log.did) + calls_at (i + 1) (did ∷ [])) row
    → AreCounts (λ (i : ℕ). before i + calls_at (i + 1) (take (index + 1) log.did)) row
did_counted log index did before row e a =
    counts_same (λ (i : ℕ). before i + calls_at (i + 1) (take index log.did) + calls_at (i + 1) (did ∷ []))
    (λ (i : ℕ). before i + calls_at (i + 1) (take (index + 1) log.did)) row
    (λ i.
    add_assoc (before i) (calls_at (i + 1) (take index log.did)) (calls_at (i + 1) (did ∷ []))
    ∙ ap (λ (n : ℕ). before i + n) (sym (calls_more (i + 1) (take index log.did) did))
    ∙ ap (λ (deeds : List Did). before i + calls_at (i + 1) deeds) (sym (take_there log.did index did e)))
    a

-- one call, and a look
pub call_counted : (call entry : ℕ) (before : ℕ → ℕ) (row : List ℕ) → AreCounts (counted_at entry before) row
    → AreCounts (λ (i : ℕ). before i + calls_at (i + 1) (Call call entry ∷ [])) row
call_counted call entry before row a =
    counts_same (counted_at entry before) (λ (i : ℕ). before i + calls_at (i + 1) (Call call entry ∷ [])) row
    (λ i. added_by (entry == i + 1) (before i)) a

pub look_counted : (calls upto : ℕ) (text : List ℕ) (before : ℕ → ℕ) (row : List ℕ) → AreCounts before row
    → AreCounts (λ (i : ℕ). before i + calls_at (i + 1) (Look calls upto text ∷ [])) row
look_counted calls upto text before row a =
    counts_same before (λ (i : ℕ). before i + calls_at (i + 1) (Look calls upto text ∷ [])) row
    (λ i. sym (add-zero (before i))) a

-- ---- the calls of all editors

some_by : (b : Bool) (first all front last : ℕ) → all ≡ front + last
    → (if b then first + all else all) ≡ (if b then first + front else front) + last
some_by true first all front last e = omega arith
some_by false first all front last e = e

site_calls_more : (site k : ℕ) (logs : List EditorLog) (log : EditorLog)
    → site_calls_at site k (logs ++ log ∷ [])
    ≡ site_calls_at site k logs + (if log.home == site then calls_at k log.did else 0)
site_calls_more site k [] log = at (log.home == site)
  where
    at : (b : Bool) → (if b then calls_at k log.did + 0 else 0) ≡ 0 + (if b then calls_at k log.did else 0)
    at true = omega arith
    at false = omega arith
site_calls_more site k (first ∷ logs) log =
    some_by (first.home == site) (calls_at k first.did) (site_calls_at site k (logs ++ log ∷ []))
    (site_calls_at site k logs) (if log.home == site then calls_at k log.did else 0) (site_calls_more site k logs log)

calls_here : (site k : ℕ) (logs : List EditorLog) (editor : ℕ) (log : EditorLog) → slice_get logs editor ≡ Some log
    → log.home ≡ site
    → site_calls_at site k (take editor logs) + calls_at k log.did ≡ site_calls_at site k (take (editor + 1) logs)
calls_here site k logs editor log e home =
    ap (λ (b : Bool). site_calls_at site k (take editor logs) + (if b then calls_at k log.did else 0))
    (sym (eq-eqb log.home site home))
    ∙ sym (site_calls_more site k (take editor logs) log)
    ∙ ap (site_calls_at site k) (sym (take_there logs editor log e))

calls_there : (site k : ℕ) (logs : List EditorLog) (editor : ℕ) (log : EditorLog) → slice_get logs editor ≡ Some log
    → ¬ (log.home ≡ site)
    → site_calls_at site k (take editor logs) ≡ site_calls_at site k (take (editor + 1) logs)
calls_there site k logs editor log e other =
    sym (add-zero (site_calls_at site k (take editor logs)))
    ∙ ap (λ (b : Bool). site_calls_at site k (take editor logs) + (if b then calls_at k log.did else 0))
    (sym (ne_eqb log.home site other))
    ∙ sym (site_calls_more site k (take editor logs) log)
    ∙ ap (site_calls_at site k) (sym (take_there logs editor log e))

row_passed : (t : TraceValue) (editor : ℕ) (log : EditorLog) (site : ℕ) (row : List ℕ)
    → slice_get t.logs editor ≡ Some log → ¬ (log.home ≡ site)
    → IsRowOfCalls t (take editor t.logs) site row → IsRowOfCalls t (take (editor + 1) t.logs) site row
row_passed t editor log site row e other r = record {
  size = r.size;
  counts = counts_same (λ (i : ℕ). site_calls_at site (i + 1) (take editor t.logs))
      (λ (i : ℕ). site_calls_at site (i + 1) (take (editor + 1) t.logs)) row
      (λ i. calls_there site (i + 1) t.logs editor log e other) r.counts;
}

-- no row is that of the editor's site
pub rows_passed : (t : TraceValue) (editor sites : ℕ) (log : EditorLog) (rows : List (Vec ℕ Global))
    → slice_get t.logs editor ≡ Some log → length rows < log.home
    → AreRows t (take editor t.logs) sites rows → AreRows t (take (editor + 1) t.logs) sites rows
rows_passed t editor sites log rows e past a = record {
  each = a.each;
  row = λ i row at.
      let within : i < length rows = slice_get_within rows i row at in
      row_passed t editor log (i + 1) row.items e (λ (h : log.home ≡ i + 1). omega arith) (a.row i row at);
}

-- one is
pub rows_counted : (t : TraceValue) (editor sites place : ℕ) (log : EditorLog) (rows new : List (Vec ℕ Global))
    (old row : Vec ℕ Global)
    → slice_get t.logs editor ≡ Some log → log.home ≡ place + 1 → slice_get rows place ≡ Some old
    → new ≡ set rows place row → length row.items ≡ length old.items
    → ((before : ℕ → ℕ) → AreCounts before old.items
    → AreCounts (λ (i : ℕ). before i + calls_at (i + 1) log.did) row.items)
    → AreRows t (take editor t.logs) sites rows → AreRows t (take (editor + 1) t.logs) sites new
rows_counted t editor sites place log rows new old row e home at is size counted a = record {
  each = ap length is ∙ length-set rows place row ∙ a.each;
  row = λ i r k.
      let within : place < length rows = slice_get_within rows place old at in
      ⊎_elim
      (λ (same : i ≡ place).
      let here : r ≡ row = same_Some r row (sym k ∙ ap (λ (l : List (Vec ℕ Global)). slice_get l i) is
      ∙ ap (λ (j : ℕ). slice_get (set rows place row) j) same ∙ set_get rows place row within) in
      subst (λ (x : Vec ℕ Global). IsRowOfCalls t (take (editor + 1) t.logs) (i + 1) x.items) (sym here)
      (subst (λ (j : ℕ). IsRowOfCalls t (take (editor + 1) t.logs) (j + 1) row.items) (sym same) own))
      (λ (other : ¬ (i ≡ place)).
      let there : slice_get rows i ≡ Some r = sym (get_set_other rows place i row other)
      ∙ sym (ap (λ (l : List (Vec ℕ Global)). slice_get l i) is) ∙ k in
      row_passed t editor log (i + 1) r.items e (λ (h : log.home ≡ i + 1). other (omega arith)) (a.row i r there))
      (cases_eq i place);
}
  where
    own : IsRowOfCalls t (take (editor + 1) t.logs) (place + 1) row.items
    own =
        let r = a.row place old at in
        record {
          size = size ∙ r.size;
          counts = counts_same
              (λ (i : ℕ). site_calls_at (place + 1) (i + 1) (take editor t.logs) + calls_at (i + 1) log.did)
              (λ (i : ℕ). site_calls_at (place + 1) (i + 1) (take (editor + 1) t.logs)) row.items
              (λ i. calls_here (place + 1) (i + 1) t.logs editor log e home)
              (counted (λ (i : ℕ). site_calls_at (place + 1) (i + 1) (take editor t.logs)) r.counts);
        }

-- ---- the rows at first

pub rows_none : (t : TraceValue) (rows : List (Vec ℕ Global)) → rows ≡ [] → AreRows t [] 0 rows
rows_none t rows e = record {
  each = ap length e;
  row = λ i row at. absurd (omega (arith, slice_get_within rows i row at, ap length e));
}

pub rows_more : (t : TraceValue) (n : ℕ) (rows : List (Vec ℕ Global)) (row : Vec ℕ Global)
    → IsRowOfCalls t [] (n + 1) row.items → AreRows t [] n rows → AreRows t [] (n + 1) (rows ++ row ∷ [])
rows_more t n rows row r a = record {
  each = length-append rows (row ∷ []) ∙ ap (λ (k : ℕ). k + 1) a.each;
  row = λ i x at.
      let within : i < length rows + 1 =
      subst (λ (k : ℕ). i < k) (length-append rows (row ∷ [])) (slice_get_within (rows ++ row ∷ []) i x at) in
      ⊎_elim
      (λ (same : i ≡ length rows).
      let here : row ≡ x = same_Some row x (sym (last rows) ∙ ap (slice_get (rows ++ row ∷ [])) (sym same) ∙ at) in
      let number : n ≡ i = sym a.each ∙ sym same in
      subst (λ (y : Vec ℕ Global). IsRowOfCalls t [] (i + 1) y.items) here
      (subst (λ (k : ℕ). IsRowOfCalls t [] (k + 1) row.items) number r))
      (λ (other : ¬ (i ≡ length rows)).
      let less : i < length rows = omega arith in
      a.row i x (sym (get_front rows (row ∷ []) i less) ∙ at))
      (cases_eq i (length rows));
}
  where
    last : (xs : List (Vec ℕ Global)) → slice_get (xs ++ row ∷ []) (length xs) ≡ Some row
    last [] = refl
    last (x ∷ xs) = last xs
