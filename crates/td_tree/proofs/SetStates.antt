-- States of rows set one after another.
use Rattle.std.proofs.Common.{◌≡◌, ◌≢◌, ◌+◌, ◌<◌, ℕ, List, length, set, get_or, sym, ap, ◌∙◌, subst, ⊎_elim, arith}
use Rattle.std.proofs.lemmas.List.{get_or-set_same, get_or-set_other, length-set}
use Rattle.std.proofs.lemmas.Bool.{cases_eq}
use Rattle.td_base.specs.Lists.{In}
use Rattle.td_tree.specs.declared.tree_row.RowState.{RowState}
use Rattle.td_tree.specs.declared.tree_row.RowState.TheVariants.{Gone}
use Rattle.td_tree.proofs.Gathered.{in_place}

module _ (states : List RowState) (x : ℕ) (s : RowState) (l : x < length states) (now : List RowState)
    (is : now ≡ set states x s) where
  pub step_long : length now ≡ length states
  step_long = ap (λ (xs : List RowState). length xs) is ∙ length-set states x s

  pub step_here : get_or now x Gone ≡ s
  step_here = ap (λ (xs : List RowState). get_or xs x Gone) is ∙ get_or-set_same states x s Gone l

  pub step_other : (r : ℕ) → r ≢ x → get_or now r Gone ≡ get_or states r Gone
  step_other r n = ap (λ (xs : List RowState). get_or xs r Gone) is ∙ get_or-set_other states x r s Gone n

-- all up to a place have one state
pub same_state : (states now : List RowState) (numbers : List ℕ) (k : ℕ) (s : RowState) → k < length numbers
    → get_or numbers k 0 < length states → now ≡ set states (get_or numbers k 0) s
    → ((j : ℕ) → j < k → get_or states (get_or numbers j 0) Gone ≡ s) → (j : ℕ) → j < k + 1
    → get_or now (get_or numbers j 0) Gone ≡ s
same_state states now numbers k s m l is h j b =
    let x : ℕ = get_or numbers k 0 in
    let r : ℕ = get_or numbers j 0 in
    ⊎_elim (λ (e : r ≡ x). ap (λ (y : ℕ). get_or now y Gone) e ∙ step_here states x s l now is)
    (λ (n : r ≢ x). step_other states x s l now is r n
    ∙ h j (earlier j k b (λ f. n (ap (λ (y : ℕ). get_or numbers y 0) f)))) (cases_eq r x)
  where
    earlier : (j k : ℕ) → j < k + 1 → j ≢ k → j < k
    earlier j k b n = ⊎_elim (λ (e : j ≡ k). absurd (n e)) (λ (e : j ≢ k). omega arith) (cases_eq j k)

-- or each one of its own, where they differ
pub own_state : (states now : List RowState) (numbers : List ℕ) (k : ℕ) (s : ℕ → RowState) → k < length numbers
    → get_or numbers k 0 < length states → now ≡ set states (get_or numbers k 0) (s k)
    → ((i j : ℕ) → i < length numbers → j < length numbers → get_or numbers i 0 ≡ get_or numbers j 0 → i ≡ j)
    → ((j : ℕ) → j < k → get_or states (get_or numbers j 0) Gone ≡ s j) → (j : ℕ) → j < k + 1
    → get_or now (get_or numbers j 0) Gone ≡ s j
own_state states now numbers k s m l is apart h j b =
    let x : ℕ = get_or numbers k 0 in
    ⊎_elim (λ (e : j ≡ k). ap (λ (y : ℕ). get_or now (get_or numbers y 0) Gone) e ∙ step_here states x (s k) l now is
    ∙ ap s (sym e))
    (λ (n : j ≢ k).
    let low : j < k = earlier j k b n in
    step_other states x (s k) l now is (get_or numbers j 0) (λ e. n (apart j k (omega arith) m e)) ∙ h j low)
    (cases_eq j k)
  where
    earlier : (j k : ℕ) → j < k + 1 → j ≢ k → j < k
    earlier j k b n = ⊎_elim (λ (e : j ≡ k). absurd (n e)) (λ (e : j ≢ k). omega arith) (cases_eq j k)

pub away : (numbers : List ℕ) (k r : ℕ) → k < length numbers → (In r numbers → ⊥) → r ≢ get_or numbers k 0
away numbers k r l n e = n (subst (λ (y : ℕ). In y numbers) (sym e) (in_place numbers 0 k l))
