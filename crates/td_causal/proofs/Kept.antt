-- What waits by numbers, and the operations that it stands for.
use Rattle.std.proofs.Common.{◌≡◌, ◌++◌, ℕ, List, [], ◌∷◌, not, Bool, true, false, cond, find, is_some}
use Rattle.std.proofs.Common.{if◌then◌else◌, ◌||◌, Option, Some, refl, sym, ap, ◌∙◌}
use Rattle.std.specs.Prelude.{slice_get}
use Rattle.std.specs.List.{AllByRecursion, cons_option}
use Rattle.std.specs.Option.{option_and_then}
use Rattle.td_base.specs.Value.{DotValue}
use Rattle.td_base.specs.Order.{dot_lt}
use Rattle.td_base.specs.Equality.{same_dot}
use Rattle.td_base.proofs.Lists.{all_in, all_of, In-filter}
use Rattle.td_base.proofs.Places.{get_more}
use Rattle.td_op.specs.Op.{OpValue}
use Rattle.td_machine.specs.Ready.{is_dot_of, put_waiting, without, waits}
use Rattle.td_causal.specs.Waiting.{Numbers, ops_waiting, number_of, is_kept, put_in_order, others_than}
use Rattle.td_causal.specs.Waiting.{IsStored, AreStored}

-- ---- what holds of each

pub All-put_in_order : (P : DotValue × ℕ → Type 0) (w : DotValue × ℕ) (waiting : Numbers) → P w
    → AllByRecursion P waiting → AllByRecursion P (put_in_order w waiting)
All-put_in_order P w [] p h = (p, tt)
All-put_in_order P w (v ∷ waiting) p h = at (dot_lt v.0 w.0) (All-put_in_order P w waiting p h.1)
  where
    at : (b : Bool) → AllByRecursion P (put_in_order w waiting)
        → AllByRecursion P (if b then v ∷ put_in_order w waiting else w ∷ v ∷ waiting)
    at true ih = (h.0, ih)
    at false ih = (p, h)

pub All-others_than : (P : DotValue × ℕ → Type 0) (d : DotValue) (waiting : Numbers) → AllByRecursion P waiting
    → AllByRecursion P (others_than d waiting)
All-others_than P d waiting h =
    all_of P (others_than d waiting)
    (λ w i. all_in P waiting h w (In-filter (λ (w : DotValue × ℕ). not (same_dot w.0 d)) w waiting i).0)

-- ---- stored

module _ (n : ℕ) (ops : List OpValue) where
  -- the first that waits is the first of the operations
  pub seen : (w : DotValue × ℕ) (waiting : Numbers) (s : IsStored n ops w)
      → ops_waiting ops (w ∷ waiting) ≡ s.op ∷ ops_waiting ops waiting
  seen w waiting s = ap (λ (o : Option OpValue). cons_option o (ops_waiting ops waiting)) s.found

  -- it has the dot where the operation has
  same_test : (d : DotValue) (w : DotValue × ℕ) (s : IsStored n ops w) → same_dot w.0 d ≡ is_dot_of d s.op
  same_test d w s = ap (λ (e : DotValue). same_dot e d) s.dot

  pub found_by_dot : (d : DotValue) (waiting : Numbers) → AreStored n ops waiting
      → option_and_then (slice_get ops) (number_of d waiting) ≡ find (is_dot_of d) (ops_waiting ops waiting)
  found_by_dot d [] stored = refl
  found_by_dot d (w ∷ waiting) stored =
      ap (λ (b : Bool). option_and_then (slice_get ops) (cond b (Some w.1) (number_of d waiting)))
      (same_test d w stored.0)
      ∙ at (is_dot_of d stored.0.op) (found_by_dot d waiting stored.1)
      ∙ sym (ap (find (is_dot_of d)) (seen w waiting stored.0))
    where
      at : (b : Bool)
          → option_and_then (slice_get ops) (number_of d waiting) ≡ find (is_dot_of d) (ops_waiting ops waiting)
          → option_and_then (slice_get ops) (cond b (Some w.1) (number_of d waiting))
          ≡ cond b (Some stored.0.op) (find (is_dot_of d) (ops_waiting ops waiting))
      at true ih = stored.0.found
      at false ih = ih

  pub kept_waits : (d : DotValue) (waiting : Numbers) → AreStored n ops waiting
      → is_kept d waiting ≡ waits d (ops_waiting ops waiting)
  kept_waits d [] stored = refl
  kept_waits d (w ∷ waiting) stored =
      ap (λ (b : Bool). is_some (cond b (Some w.1) (number_of d waiting))) (same_test d w stored.0)
      ∙ at (is_dot_of d stored.0.op) (kept_waits d waiting stored.1)
      ∙ sym (ap (waits d) (seen w waiting stored.0))
    where
      at : (b : Bool) → is_kept d waiting ≡ waits d (ops_waiting ops waiting)
          → is_some (cond b (Some w.1) (number_of d waiting)) ≡ (b || waits d (ops_waiting ops waiting))
      at true ih = refl
      at false ih = ih

  pub ops-put_in_order : (k : ℕ) (x : OpValue) (waiting : Numbers) → AreStored n ops waiting
      → slice_get ops k ≡ Some x
      → ops_waiting ops (put_in_order (x.dot, k) waiting) ≡ put_waiting x (ops_waiting ops waiting)
  ops-put_in_order k x [] stored found = ap (λ (o : Option OpValue). cons_option o []) found
  ops-put_in_order k x (v ∷ waiting) stored found =
      ap
      (λ (b : Bool).
      ops_waiting ops (if b then v ∷ put_in_order (x.dot, k) waiting else (x.dot, k) ∷ v ∷ waiting))
      (ap (λ (d : DotValue). dot_lt d x.dot) stored.0.dot)
      ∙ at (dot_lt stored.0.op.dot x.dot) (ops-put_in_order k x waiting stored.1 found)
      ∙ sym (ap (put_waiting x) (seen v waiting stored.0))
    where
      at : (b : Bool)
          → ops_waiting ops (put_in_order (x.dot, k) waiting) ≡ put_waiting x (ops_waiting ops waiting)
          → ops_waiting ops (if b then v ∷ put_in_order (x.dot, k) waiting else (x.dot, k) ∷ v ∷ waiting)
          ≡ (if b then stored.0.op ∷ put_waiting x (ops_waiting ops waiting)
          else x ∷ stored.0.op ∷ ops_waiting ops waiting)
      at true ih =
          seen v (put_in_order (x.dot, k) waiting) stored.0
          ∙ ap (λ (xs : List OpValue). stored.0.op ∷ xs) ih
      at false ih =
          ap (λ (o : Option OpValue). cons_option o (ops_waiting ops (v ∷ waiting))) found
          ∙ ap (λ (xs : List OpValue). x ∷ xs) (seen v waiting stored.0)

  pub ops-others_than : (d : DotValue) (waiting : Numbers) → AreStored n ops waiting
      → ops_waiting ops (others_than d waiting) ≡ without d (ops_waiting ops waiting)
  ops-others_than d [] stored = refl
  ops-others_than d (w ∷ waiting) stored =
      ap
      (λ (b : Bool).
      ops_waiting ops (cond (not b) (w ∷ others_than d waiting) (others_than d waiting)))
      (same_test d w stored.0)
      ∙ at (is_dot_of d stored.0.op) (ops-others_than d waiting stored.1)
      ∙ sym (ap (without d) (seen w waiting stored.0))
    where
      at : (b : Bool) → ops_waiting ops (others_than d waiting) ≡ without d (ops_waiting ops waiting)
          → ops_waiting ops (cond (not b) (w ∷ others_than d waiting) (others_than d waiting))
          ≡ cond (not b) (stored.0.op ∷ without d (ops_waiting ops waiting)) (without d (ops_waiting ops waiting))
      at true ih = ih
      at false ih = seen w (others_than d waiting) stored.0 ∙ ap (λ (xs : List OpValue). stored.0.op ∷ xs) ih

  -- where more are stored, what waits is what it was
  pub ops-more : (more : List OpValue) (waiting : Numbers) → AreStored n ops waiting
      → ops_waiting (ops ++ more) waiting ≡ ops_waiting ops waiting
  ops-more more [] stored = refl
  ops-more more (w ∷ waiting) stored =
      ap (λ (o : Option OpValue). cons_option o (ops_waiting (ops ++ more) waiting))
      (get_more ops more w.1 stored.0.op stored.0.found ∙ sym stored.0.found)
      ∙ ap (cons_option (slice_get ops w.1)) (ops-more more waiting stored.1)

  pub stored-more : (more : List OpValue) (waiting : Numbers) → AreStored n ops waiting
      → AreStored n (ops ++ more) waiting
  stored-more more [] stored = tt
  stored-more more (w ∷ waiting) stored = (
    record {
      op = stored.0.op;
      found = get_more ops more w.1 stored.0.op stored.0.found;
      dot = stored.0.dot;
      is = stored.0.is;
      size = stored.0.size;
    },
    stored-more more waiting stored.1,
  )

pub ruleset as_in_the_machine = (ops-put_in_order, ops-others_than, kept_waits, ops-more)
