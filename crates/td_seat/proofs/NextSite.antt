-- What is counted of the sites, when one more is added.
use Rattle.std.proofs.Common.{◌≡◌, ◌⊎◌, ◌<◌, ◌+◌, ◌-◌, ◌++◌, ℕ, List, [], ◌∷◌, length, Some, sym, ap, ◌∙◌, subst, inl}
use Rattle.std.proofs.Common.{inr, arith}
use Rattle.std.specs.Prelude.{slice_get}
use Rattle.std.proofs.lemmas.Bool.{cases_order}
use Rattle.std.proofs.lemmas.Option.{slice_get_past, same_Some, none-some}
use Rattle.std.proofs.lemmas.List.{length_push, get_or_append_left, get_or_push}
use Rattle.td_base.proofs.Elements.{get_front}
use Rattle.td_trace.specs.declared.entry.TraceEntry.{TraceEntry}
use Rattle.td_law_replay.specs.Traced.{site_entries}
use Rattle.td_seat.specs.declared.counted.Counted.{Counted}
use Rattle.td_seat.specs.Counted.{AreCounted}
use Rattle.td_seat.proofs.Slices.{get_pushed}

abbrev pub EachCounted : ℕ → List (List TraceEntry) → List Counted → Type 0
EachCounted n all sites =
    (k : ℕ) (counted : Counted) → slice_get sites k ≡ Some counted
    → AreCounted (k + 1) n (site_entries all (k + 1)) counted

entries_before : (all : List (List TraceEntry)) (entries : List TraceEntry) (k : ℕ) → k < length all
    → site_entries (all ++ entries ∷ []) (k + 1) ≡ site_entries all (k + 1)
entries_before all entries k low = get_or_append_left all (entries ∷ []) [] (k + 1 - 1) (omega (arith, low))

pub one_more_site : (n : ℕ) (all : List (List TraceEntry)) (entries : List TraceEntry) (sites : List Counted)
    (counted : Counted) → length sites ≡ length all → EachCounted n all sites
    → AreCounted (length all + 1) n entries counted → EachCounted n (all ++ entries ∷ []) (sites ++ counted ∷ [])
one_more_site n all entries sites counted same each new k found is = at (cases_order k (length sites))
  where
    at : (k ≡ length sites) ⊎ ((k < length sites) ⊎ (length sites < k))
        → AreCounted (k + 1) n (site_entries (all ++ entries ∷ []) (k + 1)) found
    at (inl here) =
        let one : counted ≡ found =
        same_Some counted found
        (sym (get_pushed sites counted) ∙ ap (slice_get (sites ++ counted ∷ [])) (sym here) ∙ is) in
        let place : length all ≡ k + 1 - 1 = omega (arith, here, same) in
        let its : entries ≡ site_entries (all ++ entries ∷ []) (k + 1) =
        sym (get_or_push all entries [] (k + 1 - 1) place) in
        let number : length all + 1 ≡ k + 1 = omega (arith, here, same) in
        subst (λ (c : Counted). AreCounted (k + 1) n (site_entries (all ++ entries ∷ []) (k + 1)) c) one
        (subst (λ (es : List TraceEntry). AreCounted (k + 1) n es counted) its
        (subst (λ (s : ℕ). AreCounted s n entries counted) number new))
    at (inr (inl low)) =
        subst (λ (es : List TraceEntry). AreCounted (k + 1) n es found)
        (sym (entries_before all entries k (omega (arith, low, same))))
        (each k found (sym (get_front sites (counted ∷ []) k low) ∙ is))
    at (inr (inr high)) =
        absurd (none-some found
        (sym (slice_get_past (sites ++ counted ∷ []) k (omega (arith, length_push sites counted, high))) ∙ is))
