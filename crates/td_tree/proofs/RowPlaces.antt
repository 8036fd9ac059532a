-- The rows of an item, by what is kept of its row.
use Rattle.std.proofs.Common.{◌≡◌, ◌≢◌, ◌+◌, ◌-◌, ◌*◌, ◌/◌, ◌%◌, ◌^◌, ◌<◌, ◌≤◌, ℕ, zero, suc, List}
use Rattle.std.proofs.Common.{[], ◌∷◌, ◌++◌, length, take, drop, get_or, Some, None, slice_get, refl}
use Rattle.std.proofs.Common.{sym, ap, ◌∙◌, subst, inl, arith, length-drop}
use Rattle.std.proofs.lemmas.List.{get_or-take, get_or-drop, length-take-le}
use Rattle.std.proofs.lemmas.Option.{slice_get-get_or, slice_get_past}
use Rattle.td_base.specs.Lists.{In}
use Rattle.td_base.proofs.Lists.{In-back, map_In}
use Rattle.td_base.proofs.Elements.{same_head}
use Rattle.td_list.specs.Items.{Item, IsItem, items_from, items_after}
use Rattle.td_list.proofs.Parted.{parted, from_is}
use Rattle.td_brackets.specs.RowNumbers.{row_numbers_at}
use Rattle.td_tree.specs.declared.tree_row.RowState.{RowState}
use Rattle.td_tree.specs.declared.tree_row.RowState.TheVariants.{Node, InArray, Gone}
use Rattle.td_tree.specs.Parts.{Parts, state_at, array_at, part, row_of_array, row_token, kind_token}
use Rattle.td_tree.specs.Parts.{IsPart, IsRowItem, IsKind, leaf_item, IsAt, IsTree}
use Rattle.td_tree.specs.Reading.{shown_at, StandsAt}
use Rattle.td_tree.proofs.ArrayParts.{part_length, part_split}
use Rattle.td_tree.proofs.ItemTokens.{leaf_token}
use Rattle.td_tree.proofs.Trees.{one_item}

-- the item that a list has of a name
pub got_item : (x : ℕ) (items : List Item) (i : Item) → IsItem x items → items_from x items ≡ i ∷ items_after x items
    → In i items × (i.name ≡ x)
got_item x items i h e =
    let q = parted x items h in
    let same : i ≡ q.item = same_head i (items_after x items) q.item q.back (sym e ∙ from_is x items h) in
    (subst (In i) (sym q.is) (In-back i q.front (q.item ∷ q.back) (inl same)), ap (λ (k : Item). k.name) same ∙ q.named)

-- a row of a part
pub part_get : (xs : List ℕ) (from n k : ℕ) → from + n ≤ length xs → k < n → slice_get (part xs from n) k
    ≡ Some (get_or xs (from + k) 0)
part_get xs from n k h l =
    let long = length-drop from xs in
    let cut = length-take-le n (drop from xs) (omega arith) in
    slice_get-get_or (take n (drop from xs)) k 0 (omega arith)
    ∙ ap Some (get_or-take n (drop from xs) k 0 l ∙ get_or-drop from xs k 0)

module _ (p : Parts) (t : IsTree p) where
  -- the item of a name
  pub item_of : (x : ℕ) → IsItem x p.items → (i : Item) × In i p.items × (i.name ≡ x)
  item_of x h = let m = map_In (λ (i : Item). i.name) x p.items h in (m.0, m.1, sym m.2)

  pub known_name : (x : ℕ) → IsItem x p.items → x / 3 < length p.rows
  known_name x h = let i = item_of x h in subst (λ (y : ℕ). y / 3 < length p.rows) i.2 (t.each i.0 i.1).known

  -- a bracket has no rows
  bracket : (k q w : ℕ) (s : RowState) → k ≢ 1 → row_numbers_at (kind_token k q (row_token p s q w)) ≡ []
  bracket zero q w s h = refl
  bracket (suc zero) q w s h = absurd (h refl)
  bracket (suc (suc k)) q w s h = refl

  pub shown_bracket : (i : Item) (x : ℕ) → i.name ≡ x → x % 3 ≢ 1 → shown_at p i ≡ []
  shown_bracket i x e h = bracket (i.name % 3) (i.name / 3) i.weight (state_at p (i.name / 3))
      (subst (λ (y : ℕ). y % 3 ≢ 1) (sym e) h)

  -- a node has its row, and a leaf the part of its array
  one_row : (k q w : ℕ) (s : RowState) → k ≡ 1 → ((a c : ℕ) → s ≡ InArray a c → ⊥)
      → row_numbers_at (kind_token k q (row_token p s q w)) ≡ q ∷ []
  one_row zero q w s e h = absurd (omega arith)
  one_row (suc zero) q w Node e h = refl
  one_row (suc zero) q w (InArray a c) e h = absurd (h a c refl)
  one_row (suc zero) q w Gone e h = refl
  one_row (suc (suc k)) q w s e h = absurd (omega arith)

  pub shown_node : (i : Item) (x : ℕ) → i.name ≡ x → x % 3 ≡ 1 → ((a c : ℕ) → state_at p (x / 3) ≡ InArray a c → ⊥)
      → shown_at p i ≡ x / 3 ∷ []
  shown_node i x e k h =
      one_row (i.name % 3) (i.name / 3) i.weight (state_at p (i.name / 3)) (ap (λ (y : ℕ). y % 3) e ∙ k)
      (subst (λ (y : ℕ). (a c : ℕ) → state_at p (y / 3) ≡ InArray a c → ⊥) (sym e) h)
      ∙ ap (λ (y : ℕ). y / 3 ∷ []) e

  pub record IsLeafItem (i : Item) (a c : ℕ) : Type 0 where
    pub low : i.weight / 2 ≤ c
    pub is_part : IsPart p a (c - i.weight / 2) i.weight
    pub is : shown_at p i ≡ part (array_at p a) (c - i.weight / 2) i.weight

  leaf_at : (k q w a c : ℕ) (s : RowState) → k ≡ 1 → s ≡ InArray a c → IsKind p k s w
      → (w / 2 ≤ c) × IsPart p a (c - w / 2) w × (row_numbers_at (kind_token k q (row_token p s q w))
      ≡ part (array_at p a) (c - w / 2) w)
  leaf_at zero q w a c s e f h = absurd (omega arith)
  leaf_at (suc zero) q w a c s e f h =
      let r : IsRowItem p (InArray a c) w = subst (λ (z : RowState). IsRowItem p z w) f h in
      (r.0, r.1, ap (λ (z : RowState). row_numbers_at (row_token p z q w)) f)
  leaf_at (suc (suc k)) q w a c s e f h = absurd (omega arith)

  pub shown_leaf : (i : Item) (x a c : ℕ) → In i p.items → i.name ≡ x → x % 3 ≡ 1 → state_at p (x / 3) ≡ InArray a c
      → IsLeafItem i a c
  shown_leaf i x a c m e k f =
      let r = leaf_at (i.name % 3) (i.name / 3) i.weight a c (state_at p (i.name / 3)) (ap (λ (y : ℕ). y % 3) e ∙ k)
      (ap (λ (y : ℕ). state_at p (y / 3)) e ∙ f) (t.each i m).kind in
      record { low = r.0; is_part = r.1; is = r.2 }

  -- where a row stands
  pub place_in_leaf : (r a c from n : ℕ) → r < length p.rows → state_at p r ≡ InArray a c → IsPart p a from n
      → In (leaf_item p a from n) p.items → from ≤ c → c < from + n
      → StandsAt p r (3 * row_of_array p a (from + n / 2) + 1) (c - from)
  place_in_leaf r a c from n l e is i low high =
      let at : IsAt p r (InArray a c) = subst (IsAt p r) e (t.at r l) in
      let within = is.within in
      let parts = part_split (array_at p a) from (c - from) (from + n - c - 1) n c (omega arith) (omega arith)
      is.within in
      record {
        item = leaf_item p a from n;
        there = i;
        named = refl;
        before = part (array_at p a) from (c - from);
        after = part (array_at p a) (suc c) (from + n - c - 1);
        is = ap row_numbers_at (leaf_token p a from n is) ∙ parts
            ∙ ap (λ (x : ℕ). part (array_at p a) from (c - from)
            ++ x ∷ part (array_at p a) (suc c) (from + n - c - 1)) at.2;
        long = part_length (array_at p a) from (c - from) (omega arith);
      }

  pub place_of_node : (r : ℕ) → r < length p.rows → state_at p r ≡ Node → IsItem (3 * r + 1) p.items
      → StandsAt p r (3 * r + 1) 0
  place_of_node r l e h =
      let i = item_of (3 * r + 1) h in
      let same : (3 * r + 1) / 3 ≡ r = omega arith in
      record {
        item = i.0;
        there = i.1;
        named = i.2;
        before = [];
        after = [];
        is = shown_node i.0 (3 * r + 1) i.2 (omega arith)
            (λ a c f. other a c (sym e ∙ ap (state_at p) (sym same) ∙ f)) ∙ ap (λ (x : ℕ). x ∷ []) same;
        long = refl;
      }
    where
      other : (a c : ℕ) → Node ≡ InArray a c → ⊥
      other a c e = cc

-- a row is a node where it is in no array and not gone
pub is_node : (s : RowState) → ((a c : ℕ) → s ≡ InArray a c → ⊥) → s ≢ Gone → s ≡ Node
is_node Node h n = refl
is_node (InArray a c) h n = absurd (h a c refl)
is_node Gone h n = absurd (n refl)

-- what a list has of the name of a leaf
pub record LeafGot (p : Parts) (x a c w : ℕ) : Type 0 where
  pub low : w / 2 ≤ c
  pub array : a < length p.arrays
  pub within : (c - w / 2) + w ≤ length (array_at p a)
  pub few : length (array_at p a) ≤ 2 ^ 30
  pub stand : (k : ℕ) → k < w → (row_of_array p a (c - w / 2 + k) < length p.rows)
      × (state_at p (row_of_array p a (c - w / 2 + k)) ≡ InArray a (c - w / 2 + k))
  pub is : (i : Item) → In i p.items → i.name ≡ x → shown_at p i ≡ part (array_at p a) (c - w / 2) w

pub leaf_got : (p : Parts) → IsTree p → (x a c : ℕ) (i : Item) → IsItem x p.items → x % 3 ≡ 1 → state_at p (x / 3)
    ≡ InArray a c → items_from x p.items ≡ i ∷ items_after x p.items → LeafGot p x a c i.weight
leaf_got p t x a c i h k e g =
    let m = got_item x p.items i h g in
    let l = shown_leaf p t i x a c m.0 m.1 k e in
    record {
      low = l.low;
      array = l.is_part.array;
      within = l.is_part.within;
      few = t.short a l.is_part.array;
      stand = λ j b. (
        t.named a (c - i.weight / 2 + j) l.is_part.array
            (below (c - i.weight / 2) i.weight j (length (array_at p a)) l.is_part.within b),
        l.is_part.stand
            (c - i.weight / 2 + j) (omega arith) (omega arith),
      );
      is = λ j n f. ap (shown_at p) (one_item p.items t.apart j i n m.0 (f ∙ sym m.1)) ∙ l.is;
    }
  where
    below : (f w j n : ℕ) → f + w ≤ n → j < w → f + j < n
    below f w j n h b = omega arith

pub leaf_row : (p : Parts) (x a c w k : ℕ) → LeafGot p x a c w → k < w → (i : Item) → In i p.items → i.name ≡ x
    → Some (row_of_array p a (c - w / 2 + k)) ≡ slice_get (shown_at p i) k
leaf_row p x a c w k l h i m e = sym (ap (λ (xs : List ℕ). slice_get xs k) (l.is i m e)
    ∙ part_get (array_at p a) (c - w / 2) w k l.within h)

pub leaf_past : (p : Parts) (x a c w k : ℕ) → LeafGot p x a c w → w ≤ k → (i : Item) → In i p.items → i.name ≡ x
    → None ≡ slice_get (shown_at p i) k
leaf_past p x a c w k l h i m e =
    let long = part_length (array_at p a) (c - w / 2) w l.within in
    sym (ap (λ (xs : List ℕ). slice_get xs k) (l.is i m e)
    ∙ slice_get_past (part (array_at p a) (c - w / 2) w) k (omega arith))
