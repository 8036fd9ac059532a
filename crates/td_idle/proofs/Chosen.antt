-- The better of two slots, and so the best of many.
use Rattle.std.proofs.Common.{◌≡◌, List, [], ◌∷◌, ◌++◌, Bool, true, false}
use Rattle.std.proofs.Common.{if◌then◌else◌, Option, Some, None, refl, sym, ◌∙◌, subst}
use Rattle.std.proofs.Common.{inl, inr, ⊎_elim, true≢false}
use Rattle.std.proofs.Common.{append_assoc, fold}
use Rattle.std.proofs.lemmas.List.{append-nil}
use Rattle.td_base.specs.Lists.{In}
use Rattle.td_base.proofs.Lists.{In-append, In-front, In-back}
use Rattle.td_path.specs.declared.slot.Slot.{Slot}
use Rattle.td_doc.specs.Document.{DocRow}
use Rattle.td_idle.specs.declared.idle.Counted.{Counted}
use Rattle.td_idle.specs.Best.{row_count, is_over, is_better, kept}
use Rattle.td_idle.specs.Kept.{IsBestOf}
use Rattle.td_idle.proofs.Better.{better_of, better_from, not_better, better_trans, better_irrefl, over_is}

module _ (rows : List DocRow) where
  last : (s t : Slot) → In t (s ∷ []) → t ≡ s
  last s t (inl e) = e
  last s t (inr i) = absurd i

  itself : (s t : Slot) → In t (s ∷ []) → is_better rows t s ≡ false
  itself s t i = subst (λ (u : Slot). is_better rows u s ≡ false) (sym (last s t i))
      (not_better rows s s (better_irrefl rows s))

  kept_at : (slots : List Slot) (s : Slot) (old : Option Counted) → IsBestOf rows slots old
      → IsBestOf rows (slots ++ s ∷ []) (kept rows s old)
  kept_at slots s None h = (
    In-back s slots (s ∷ []) (inl refl),
    refl,
    (λ t i. itself s t
        (subst (λ (z : List Slot). In t (z ++ s ∷ [])) h i)),
  )
  kept_at slots s (Some b) h = by (is_over s (row_count rows s) b.slot b.rows) refl
    where
      over : is_over s (row_count rows s) b.slot b.rows ≡ is_better rows s b.slot
      over = over_is rows s b.slot (row_count rows s) b.rows refl h.1

      by : (o : Bool) → is_over s (row_count rows s) b.slot b.rows ≡ o
          → IsBestOf rows (slots ++ s ∷ []) (if o then Some (record { slot = s; rows = row_count rows s }) else Some b)
      by true e = (
        In-back s slots (s ∷ []) (inl refl),
        refl,
        (λ t i.
            ⊎_elim
            (λ (j : In t slots).
            not_better rows t s
            (λ better. true≢false (sym (better_from rows t b.slot
            (better_trans rows t s b.slot better (better_of rows s b.slot (sym over ∙ e)))) ∙ h.2 t j)))
            (λ (j : In t (s ∷ [])). itself s t j)
            (In-append t slots (s ∷ []) i)),
      )
      by false e = (
        In-front b.slot slots (s ∷ []) h.0,
        h.1,
        (λ t i.
            ⊎_elim
            (λ (j : In t slots). h.2 t j)
            (λ (j : In t (s ∷ [])). subst (λ (z : Slot). is_better rows z b.slot ≡ false) (sym (last s t j))
            (sym over ∙ e))
            (In-append t slots (s ∷ []) i)),
      )

  pub best_next : (slots front : List Slot) (s : Slot) (old new : Option Counted) → slots ≡ front ++ s ∷ []
      → IsBestOf rows front old → new ≡ kept rows s old
      → IsBestOf rows slots new
  best_next slots front s old new is h k =
      subst (λ (z : List Slot). IsBestOf rows z new) (sym is)
      (subst (λ (o : Option Counted). IsBestOf rows (front ++ s ∷ []) o) (sym k) (kept_at front s old h))

-- ---- all of them

pub best_all : (rows : List DocRow) (front slots : List Slot) (o : Option Counted) → IsBestOf rows front o
    → IsBestOf rows (front ++ slots) (fold (λ best slot. kept rows slot best) o slots)
best_all rows front [] o h = subst (λ (z : List Slot). IsBestOf rows z o) (sym (append-nil front)) h
best_all rows front (s ∷ slots) o h =
    subst
    (λ (z : List Slot). IsBestOf rows z (fold (λ best slot. kept rows slot best) (kept rows s o) slots))
    (append_assoc front (s ∷ []) slots)
    (best_all rows (front ++ s ∷ []) slots (kept rows s o)
    (best_next rows (front ++ s ∷ []) front s o (kept rows s o) refl h refl))
