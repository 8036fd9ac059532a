use Rattle.std.proofs.Common.{◌≡◌, ◌⊎◌, ◌+◌, ◌<◌, ◌≤◌, ◌++◌, ◌∷◌, ℕ, List, [], sym, ap, subst, inl, inr, ⊎_elim, arith}
use Rattle.std.proofs.lemmas.Bool.{cases_lt}
use Rattle.td_list.specs.Items.{Item, IsItem, items_before, items_from, put_before, weight_of}
use Rattle.td_list.proofs.Names.{weight-append, item-append, item-front, item-back}
use Rattle.td_list.proofs.Parted.{parts}
use Rattle.test_text.proofs.list.by_turns.Goals as goal

module _ (y : ℕ) (piece items : List Item) where
  abbrev before : List Item
  before = items_before y items

  abbrev from : List Item
  from = items_from y items

  kept : (x : ℕ) → IsItem x items → IsItem x (put_before y piece items)
  kept x h =
      ⊎_elim (λ (i : IsItem x before). item-front x (before ++ piece) from (item-front x before piece i))
      (λ (i : IsItem x from). item-back x (before ++ piece) from i)
      (item-append x before from (subst (IsItem x) (sym (parts y items)) h))

  added : (x : ℕ) → IsItem x piece → IsItem x (put_before y piece items)
  added x h = item-front x (before ++ piece) from (item-back x before piece h)

  old_or_new : (x : ℕ) → IsItem x (put_before y piece items) → IsItem x items ⊎ IsItem x piece
  old_or_new x h =
      ⊎_elim
      (λ (k : IsItem x (before ++ piece)). ⊎_elim (λ (i : IsItem x before). inl
      (subst (IsItem x) (parts y items) (item-front x before from i))) (λ (i : IsItem x piece). inr i)
      (item-append x before piece k))
      (λ (i : IsItem x from). inl (subst (IsItem x) (parts y items) (item-back x before from i)))
      (item-append x (before ++ piece) from h)

  heavier : weight_of (put_before y piece items) ≡ weight_of items + weight_of piece
  heavier =
      let one = weight-append (before ++ piece) from in
      let two = weight-append before piece in
      let three = weight-append before from in
      let four = ap weight_of (parts y items) in
      omega arith

pub insert_before-requires-clause-new : goal.insert_before-requires-clause-new
insert_before-requires-clause-new g c = λ x m j.
    let named = ap (λ (i : Item). i.name) c.new-in-loop-name.ensures in
    let used = c.loop-name.invariant.used x j in
    ⊎_elim (λ (e : x ≡ c.new-in-loop-name.result.name). omega arith) (λ (z : ⊥). z) m

pub loop-name-preserved : goal.loop-name-preserved
loop-name-preserved g c =
    let y : ℕ = c.goes_before.result in
    let piece : List Item = c.new-in-loop-name.result ∷ [] in
    let items : List Item = g.S.Sequence.items c.loop-name.list in
    let is = c.in_ok-insert_before.ensures.ok in
    let named = ap (λ (i : Item). i.name) c.new-in-loop-name.ensures in
    let weighed = ap (λ (i : Item). i.weight) c.new-in-loop-name.ensures in
    record {
      there = λ x h. subst (IsItem x) (sym is) (⊎_elim
          (λ (l : x < c.loop-name.name). kept y piece items x (c.loop-name.invariant.there x l))
          (λ (m : c.loop-name.name ≤ x). added y piece items x (inl (same x c.loop-name.name
          c.new-in-loop-name.result.name h m named)))
          (cases_lt x c.loop-name.name));
      used = λ x h. ⊎_elim (λ (i : IsItem x items). let u = c.loop-name.invariant.used x i in omega arith)
          (λ (i : IsItem x piece). ⊎_elim (λ (e : x ≡ c.new-in-loop-name.result.name). omega arith)
          (λ (z : ⊥). absurd z) i)
          (old_or_new y piece items x (subst (IsItem x) is h));
      weight = let w = ap weight_of is in let v = heavier y piece items in let was = c.loop-name.invariant.weight in
          omega arith;
    }
  where
    same : (x n m : ℕ) → x < n + 1 → n ≤ x → m ≡ n → x ≡ m
    same x n m h l e = omega arith
