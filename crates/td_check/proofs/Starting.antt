-- The replay before its first entry.
use Rattle.std.proofs.Common.{◌≡◌, ◌<◌, ◌≤◌, ◌+◌, ◌-◌, ◌++◌, ◌⊎◌, List, [], ◌∷◌, ℕ, zero, suc, Some, None, slice_get}
use Rattle.std.proofs.Common.{length, take, get_or, replicate, inl, inr, sym, ap, ◌∙◌, subst, arith}
use Rattle.std.proofs.lemmas.Bool.{cases_order}
use Rattle.std.proofs.lemmas.List.{length-take-le, length-append, get_or_append_left, get_or_push}
use Rattle.std.proofs.lemmas.Option.{slice_get-get_or}
use Rattle.td_base.proofs.Places.{take_there}
use Rattle.td_machine.specs.Machine.{Machine, start}
use Rattle.td_trace.specs.declared.entry.TraceEntry.{TraceEntry}
use Rattle.td_reader.specs.Values.{TraceValue, IsTraceValue}
use Rattle.td_law_replay.specs.Traced.{site_entries}
use Rattle.td_seat.specs.Counted.{AreCounted}
use Rattle.td_seat.specs.Made.{AreMade}
use Rattle.td_seat.specs.declared.counted.Counted.{Counted}
use Rattle.td_seat.specs.declared.made.Made.{Made}
use Rattle.td_law_replay.specs.Judging.{begin}
use Rattle.td_check.specs.ReplayParts.{AreStarted}
use Rattle.td_check.specs.States.{states_in}
use Rattle.td_check.proofs.States.{states_begin}

pub not_past : {X : Type 0} (xs : List X) (k : ℕ) → slice_get xs k ≡ None → k < length xs → ⊥
not_past [] k e less = omega (arith, less)
not_past (x ∷ xs) zero e less = cc
not_past (x ∷ xs) (suc k) e less = not_past xs k e (omega (arith, less))

-- what is counted of the next site is added
pub made_on : (t : TraceValue) → IsTraceValue t → (k site : ℕ) → k < t.sites → site ≡ k + 1 → (old new : Made)
    (counted : Counted)
    → ((n : ℕ) (all : List (List TraceEntry)) (entries : List TraceEntry) → AreMade n all old
    → AreCounted (length all + 1) n entries counted → AreMade n (all ++ entries ∷ []) new)
    → AreMade (length t.histories) (take k t.histories) old
    → AreCounted site t.sites (site_entries t.histories site) counted
    → AreMade (length t.histories) (take (k + 1) t.histories) new
made_on t is k site less number old new counted push made_so_far it =
    let n : ℕ = length t.histories in
    let entries : List TraceEntry = site_entries t.histories site in
    let place : k ≡ site - 1 = omega (arith, number) in
    let within : k < n = omega (arith, less, is.each_history) in
    let there : slice_get t.histories k ≡ Some entries =
    slice_get-get_or t.histories k [] within ∙ ap (λ (j : ℕ). Some (get_or t.histories j [])) place in
    let front : length (take k t.histories) ≡ k = length-take-le k t.histories (omega (arith, within)) in
    let its : site ≡ length (take k t.histories) + 1 = omega (arith, number, front) in
    subst (λ (all : List (List TraceEntry)). AreMade n all new) (sym (take_there t.histories k entries there))
    (push n (take k t.histories) entries made_so_far
    (subst (λ (s : ℕ). AreCounted s n entries counted) its
    (subst (λ (m : ℕ). AreCounted site m entries counted) (sym is.each_history) it)))

pub some_started : (n k : ℕ) (machines : List Machine) → AreStarted n k machines
    → AreStarted n (k + 1) (machines ++ start (k + 1) n ∷ [])
some_started n k machines are =
    record {
      each = length-append machines (start (k + 1) n ∷ []) ∙ ap (λ (j : ℕ). j + 1) are.each;
      started = λ site some within. at site some within;
    }
  where
    at : (site : ℕ) → 0 < site → site ≤ k + 1
        → get_or (machines ++ start (k + 1) n ∷ []) (site - 1) (start site n) ≡ start site n
    at site some within = cases (cases_order (site - 1) (length machines))
      where
        cases : (site - 1 ≡ length machines) ⊎ ((site - 1 < length machines) ⊎ (length machines < site - 1))
            → get_or (machines ++ start (k + 1) n ∷ []) (site - 1) (start site n) ≡ start site n
        cases (inl here) =
            let is : k + 1 ≡ site = omega (arith, here, are.each, some) in
            get_or_push machines (start (k + 1) n) (start site n) (site - 1) (sym here)
            ∙ ap (λ (j : ℕ). start j n) is
        cases (inr (inl low)) =
            get_or_append_left machines (start (k + 1) n ∷ []) (start site n) (site - 1) low
            ∙ are.started site some (omega (arith, low, are.each, some))
        cases (inr (inr high)) = absurd (omega (arith, high, are.each, within))

-- the states of sites that have done nothing
pub all_begun : (t : TraceValue) → IsTraceValue t → (machines : List Machine) (n : ℕ) → n ≡ t.sites
    → AreStarted n n machines → (k : ℕ) → states_in t.histories machines (replicate k 0) ≡ begin t.histories
all_begun t is machines n same are k =
    let all : AreStarted (length t.histories) (length t.histories) machines =
    subst (λ (m : ℕ). AreStarted m m machines) (same ∙ sym is.each_history) are in
    states_begin t.histories machines all.started k
