-- The least held proposal, over holds told from the newest.
use Rattle.std.proofs.Common.{◌≡◌, ◌<◌, ◌+◌, ℕ, List, [], ◌∷◌, Bool, true, false, Option}
use Rattle.std.proofs.Common.{Some, length, get_or, take, refl, sym, ap, ◌∙◌}
use Rattle.std.specs.Prelude.{reverse}
use Rattle.std.proofs.lemmas.List.{reverse-append, take_more}
use Rattle.td_base.specs.Value.{DotValue}
use Rattle.td_path.specs.declared.slot.Slot.{Slot}
use Rattle.td_machine.specs.Hold.{Hold, held_by, smaller_dot}

newest : (xs : List Hold) (i : ℕ) (h : Hold) → i < length xs → h ≡ get_or xs i h
    → reverse (take (i + 1) xs) ≡ h ∷ reverse (take i xs)
newest xs i h lt is =
    ap reverse (take_more xs i h lt)
    ∙ reverse-append (take i xs) (get_or xs i h ∷ [])
    ∙ ap (λ (g : Hold). g ∷ reverse (take i xs)) (sym is)

module _ (passes : Slot → Bool) (xs : List Hold) (i : ℕ) (h : Hold) (lt : i < length xs)
    (is : h ≡ get_or xs i h) where
  -- the least of the first of the holds
  abbrev least_of : ℕ → Option DotValue
  least_of n = held_by passes (reverse (take n xs))

  -- one hold more, the newest
  pub held_more : passes h.slot ≡ true → Some (smaller_dot h.proposal (least_of i)) ≡ least_of (i + 1)
  held_more e = rw (newest xs i h lt is) (rw e refl)

  pub held_same : passes h.slot ≡ false → least_of i ≡ least_of (i + 1)
  held_same e = rw (newest xs i h lt is) (rw e refl)
