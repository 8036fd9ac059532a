-- Ballots in the order of their proposals, and the search among them.
use Rattle.std.proofs.Common.{◌≡◌, ◌<◌, ◌+◌, ◌-◌, ℕ, zero, suc, List, [], ◌∷◌, true, false, length, get_or, Result}
use Rattle.std.proofs.Common.{Ok, Err, Some, ap, ◌∙◌, arith, add-one, length-take, length-drop}
use Rattle.std.specs.List.{slice_get}
use Rattle.std.specs.List.Sorted.{IsSortedBy, IsBinarySearchResult, IsSearchInRange}
use Rattle.std.specs.declared.cmp.Ordering.{Ordering}
use Rattle.std.specs.declared.cmp.Ordering.TheVariants.{Less, Equal, Greater}
use Rattle.std.specs.Ordering.{is_lt, ordering_reverse}
use Rattle.std.proofs.lemmas.Cmp.{tied_itself}
use Rattle.std.proofs.lemmas.List.{get_or-take, get_or-drop}
use Rattle.std.proofs.lemmas.Option.{get_or_from_slice_get}
use Rattle.std.proofs.lemmas.List.Sorted.{searchable_from_sorted}
use Rattle.td_base.specs.Value.{DotValue}
use Rattle.td_base.specs.Order.{dot_cmp, dot_lt}
use Rattle.td_base.proofs.Lists.{successive_imp}
use Rattle.td_base.proofs.Orders.{dot_total, equal_dots, less_of}
use Rattle.td_base.proofs.Searches.{passing_first}
use Rattle.td_machine.specs.Decision.{Ballot}
use Rattle.td_coord.specs.TallyParts.{IsRising}
use Rattle.td_coord.specs.Places.{IsPlace}

pub not_below_itself : (d : DotValue) → dot_cmp d d ≡ Less → ⊥
not_below_itself d h = let e : dot_cmp d d ≡ Equal = tied_itself dot_total d in cc

pub other_way : (d e : DotValue) (o : Ordering) → dot_cmp d e ≡ o → dot_cmp e d ≡ ordering_reverse o
other_way d e o h = dot_total.antisymm e d ∙ ap ordering_reverse h

neighbours : (xs : List Ballot) → IsRising xs → (k : ℕ) (d : Ballot) → suc k < length xs
    → is_lt (dot_cmp (get_or xs (suc k) d).proposal (get_or xs k d).proposal) ≡ false
neighbours [] h k d l = absurd (omega arith)
neighbours (x ∷ []) h k d l = absurd (omega arith)
neighbours (x ∷ y ∷ xs) h zero d l = ap is_lt (other_way x.proposal y.proposal Less h.0.0)
neighbours (x ∷ y ∷ xs) h (suc k) d l = neighbours (y ∷ xs) h.1 k d (omega arith)

sorted : (xs : List Ballot) → IsRising xs → IsSortedBy (λ (b c : Ballot). is_lt (dot_cmp b.proposal c.proposal)) xs
sorted xs h k d low high = rw add-one (neighbours xs h k d (omega arith))

-- what the search found is the place
pub place_found : (p : DotValue) (xs : List Ballot) (r : Result ℕ ℕ) → IsRising xs → IsSearchInRange r (length xs)
    → IsBinarySearchResult (λ (b : Ballot). dot_cmp b.proposal p) xs r → IsPlace p xs r
place_found p xs (Ok k) rising within found = (within, λ d. equal_dots (get_or xs k d).proposal p (found d))
place_found p xs (Err k) rising within gap =
    let parts = gap (searchable_from_sorted dot_total (λ (b : Ballot). b.proposal) xs p (sorted xs rising)) in (
      within,
      λ i d l.
          let below : i < k = omega (arith, length-take k xs) in
          rw (get_or-take k xs i d below) (parts.0 i d (omega arith) below),
      λ i d l.
          let inside : k + i < length xs = omega (arith, length-drop k xs) in
          rw get_or-drop (other_way (get_or xs (k + i) d).proposal p Greater (parts.1 (k + i) d (omega arith) inside)),
    )

below_too : (p : DotValue) (b c : Ballot) → dot_cmp b.proposal c.proposal ≡ Less → dot_lt c.proposal p ≡ true
    → dot_lt b.proposal p ≡ true
below_too p b c rise h =
    ap is_lt (dot_total.trans b.proposal c.proposal p rise (less_of (dot_cmp c.proposal p) h))

-- where the last is on a smaller proposal, all are
pub place_behind : (p : DotValue) (xs : List Ballot) (last : Ballot) → IsRising xs
    → slice_get xs (length xs - 1) ≡ Some last → dot_cmp last.proposal p ≡ Less → IsPlace p xs (Err (length xs))
place_behind p xs last rising e low =
    let from = passing_first (λ (b : Ballot). dot_lt b.proposal p) xs
    (successive_imp (λ (b c : Ballot). dot_cmp b.proposal c.proposal ≡ Less)
    (λ (b c : Ballot). dot_lt c.proposal p ≡ true → dot_lt b.proposal p ≡ true) (below_too p) xs rising) in (
      omega arith,
      λ i d l.
          let inside : i < length xs = omega (arith, length-take (length xs) xs, l) in
          let at : get_or xs (length xs - 1) d ≡ last = get_or_from_slice_get xs (length xs - 1) last d e in
          rw (get_or-take (length xs) xs i d inside) (less_of (dot_cmp (get_or xs i d).proposal p)
          (from i (length xs - 1) d (omega arith) (omega arith)
          (ap (λ (b : Ballot). dot_lt b.proposal p) at ∙ ap is_lt low))),
      λ i d l. absurd (omega (arith, length-drop (length xs) xs, l)),
    )
