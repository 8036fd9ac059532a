-- What holds of the items of a tree.
use Rattle.std.proofs.Common.{◌≡◌, ◌≢◌, ◌+◌, ◌-◌, ◌/◌, ◌%◌, ◌<◌, ◌≤◌, ℕ, zero, suc, List, []}
use Rattle.std.proofs.Common.{◌∷◌, refl, sym, ap, ◌∙◌, subst, ⊎_elim, arith}
use Rattle.td_base.specs.Lists.{In}
use Rattle.td_base.proofs.Lists.{all_in, In-map}
use Rattle.td_list.specs.Items.{Item, names, AreApart}
use Rattle.td_brackets.specs.Brackets.{numbers_at}
use Rattle.td_tree.specs.declared.tree_row.RowState.{RowState}
use Rattle.td_tree.specs.declared.tree_row.RowState.TheVariants.{Node, InArray, Gone}
use Rattle.td_tree.specs.Parts.{Parts, state_at, array_at, part, row_of_array, row_token}
use Rattle.td_tree.specs.Parts.{kind_token, token_of, IsKind, IsAt, IsTree}
use Rattle.td_tree.proofs.ArrayParts.{part_in}

-- items of one name are one
pub one_item : (items : List Item) → AreApart items → (i j : Item) → In i items → In j items → i.name ≡ j.name → i ≡ j
one_item [] a i j m n e = absurd m
one_item (x ∷ items) a i j m n e =
    ⊎_elim
    (λ (p : i ≡ x). ⊎_elim (λ (q : j ≡ x). p ∙ sym q)
    (λ (k : In j items). absurd (all_in (λ (y : ℕ). x.name ≢ y) (names items) a.0 j.name
    (In-map (λ (y : Item). y.name) j items k) (sym (ap (λ (y : Item). y.name) p) ∙ e))) n)
    (λ (k : In i items). ⊎_elim
    (λ (q : j ≡ x). absurd (all_in (λ (y : ℕ). x.name ≢ y) (names items) a.0 i.name
    (In-map (λ (y : Item). y.name) i items k) (sym (e ∙ ap (λ (y : Item). y.name) q))))
    (λ (l : In j items). one_item items a.1 i j k l e) n) m

pub node_not_array : (a i : ℕ) → Node ≡ InArray a i → ⊥
node_not_array a i e = cc

pub array_index : (a i b j : ℕ) → InArray a i ≡ InArray b j → (a ≡ b) × (i ≡ j)
array_index a i b j e = (one a i b j e, two a i b j e)
  where
    one : (a i b j : ℕ) → InArray a i ≡ InArray b j → a ≡ b
    one a i b j e = cc

    two : (a i b j : ℕ) → InArray a i ≡ InArray b j → i ≡ j
    two a i b j e = cc

module _ (p : Parts) (t : IsTree p) where
  -- a row that is in an array and has an item is in the leaf that the item is
  in_own : (k r w a c : ℕ) (s : RowState) → k < 3 → IsKind p k s w → s ≡ InArray a c → row_of_array p a c ≡ r
      → (k ≡ 1) × In r (numbers_at (kind_token k r (row_token p s r w)))
  in_own zero r w a c s l h e f = absurd (node_not_array a c (sym h ∙ e))
  in_own (suc zero) r w a c Node l h e f = absurd (node_not_array a c e)
  in_own (suc zero) r w a c (InArray b d) l h e f =
      let same = array_index b d a c e in
      let some = h.1.some in (
        refl,
        subst (λ (x : ℕ). In x (part (array_at p b) (d - w / 2) w))
            ((λ i. row_of_array p (same.0 i) (same.1 i)) ∙ f)
            (part_in (array_at p b) (d - w / 2) w d (omega arith) (inside d w h.0 some) h.1.within),
      )
    where
      inside : (d w : ℕ) → w / 2 ≤ d → 0 < w → d < d - w / 2 + w
      inside d w l s = omega arith
  in_own (suc zero) r w a c Gone l h e f = absurd h
  in_own (suc (suc k)) r w a c s l h e f = absurd (node_not_array a c (sym h ∙ e))

  pub own_number : (i : Item) (a c : ℕ) → In i p.items → state_at p (i.name / 3) ≡ InArray a c → (i.name % 3 ≡ 1)
      × In (i.name / 3) (numbers_at (token_of p i))
  own_number i a c m e =
      let tok = t.each i m in
      let at : IsAt p (i.name / 3) (InArray a c) = subst (IsAt p (i.name / 3)) e (t.at (i.name / 3) tok.known) in
      in_own (i.name % 3) (i.name / 3) i.weight a c (state_at p (i.name / 3)) (omega arith) tok.kind e at.2

  -- an item that is no leaf and no row is of a node
  pub node_of : (i : Item) → In i p.items → i.name % 3 ≢ 1 → state_at p (i.name / 3) ≡ Node
  node_of i m h = not_one (i.name % 3) h (t.each i m).kind
    where
      not_one : (k : ℕ) → k ≢ 1 → IsKind p k (state_at p (i.name / 3)) i.weight → state_at p (i.name / 3) ≡ Node
      not_one zero h e = e
      not_one (suc zero) h e = absurd (h refl)
      not_one (suc (suc k)) h e = e
