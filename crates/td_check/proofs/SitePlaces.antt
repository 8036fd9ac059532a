-- What stands at a place of a list.
use Rattle.std.proofs.Common.{◌≡◌, ◌+◌, ◌<◌, ◌||◌, ℕ, zero, suc, List, [], ◌∷◌, length, take, Bool}
use Rattle.std.proofs.Common.{Option, Some, None, slice_get, sym, ap, ◌∙◌, arith}
use Rattle.std.proofs.lemmas.List.Folds.{list_any_more}
use Rattle.std.proofs.lemmas.Option.{slice_get_within, get_or_from_slice_get}
use Rattle.std.specs.List.{list_any}
use Rattle.td_base.proofs.Places.{kth_next}
use Rattle.td_base.specs.Lists.{kth}

-- what stands at a place, asked for by its number
pub next_of : {X : Type 0} (xs : List X) (k : ℕ) (x : X) {o : Option X} → o ≡ kth (k + 1) xs → o ≡ Some x
    → slice_get xs k ≡ Some x
next_of xs k x e is = sym (kth_next xs k) ∙ sym e ∙ is

pub no_next : {X : Type 0} (xs : List X) (k : ℕ) {o : Option X} → k < length xs → o ≡ kth (k + 1) xs → o ≡ None → ⊥
no_next xs k l e is = there xs k l (sym (kth_next xs k) ∙ sym e ∙ is)
  where
    there : {X : Type 0} (xs : List X) (k : ℕ) → k < length xs → slice_get xs k ≡ None → ⊥
    there [] k l e = omega arith
    there (x ∷ xs) zero l e = cc
    there (x ∷ xs) (suc k) l e = there xs k (omega arith) e

-- a test of the first so many
pub any_next : {X : Type 0} (test : X → Bool) (xs : List X) (k : ℕ) (x : X) → slice_get xs k ≡ Some x
    → list_any test (take (k + 1) xs) ≡ (list_any test (take k xs) || test x)
any_next test xs k x e =
    list_any_more test xs k x (slice_get_within xs k x e)
    ∙ ap (λ y. list_any test (take k xs) || test y) (get_or_from_slice_get xs k x x e)
