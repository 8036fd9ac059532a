-- Items as tokens: which token an item is, and that it stays one where its rows stay.
use Rattle.std.proofs.Common.{◌≡◌, ◌⊎◌, ◌+◌, ◌-◌, ◌*◌, ◌/◌, ◌%◌, ◌<◌, ◌≤◌, ℕ, zero, suc, List, [], ◌∷◌, ◌++◌}
use Rattle.std.proofs.Common.{if◌then◌else◌, length, get_or, refl, sym, ap, ◌∙◌, subst, inl, inr, arith}
use Rattle.std.proofs.lemmas.List.{map-append}
use Rattle.td_base.specs.Lists.{In}
use Rattle.td_base.proofs.Lists.{map_In, In-map}
use Rattle.td_doc.specs.Document.{is_empty_list}
use Rattle.td_list.specs.Items.{Item, IsItem}
use Rattle.td_brackets.specs.Brackets.{Open, Atom, Close, Leaf, Entry, numbers_at}
use Rattle.td_tree.specs.declared.tree_row.RowState.{RowState}
use Rattle.td_tree.specs.declared.tree_row.RowState.TheVariants.{Node, InArray, Gone}
use Rattle.td_tree.specs.Parts.{RowValue, Parts, row_at, state_at, table, array_at, part, row_of_array}
use Rattle.td_tree.specs.Parts.{row_token, kind_token, token_of, tokens_of, token_weight, is_row_token, IsPart}
use Rattle.td_tree.specs.Parts.{IsKind, IsToken, open_item, atom_item, close_item, leaf_item}
use Rattle.td_tree.proofs.ArrayParts.{part_in}

-- what the items of a row are

module _ (p : Parts) where
  pub open_token : (r : ℕ) → token_of p (open_item r) ≡ Open r
  open_token r = at_name ((3 * r) % 3) ((3 * r) / 3) (omega arith) (omega arith)
    where
      at_name : (k q : ℕ) → k ≡ 0 → q ≡ r → kind_token k q (row_token p (state_at p q) q 0) ≡ Open r
      at_name k q e f = λ i. kind_token (e i) (f i) (row_token p (state_at p (f i)) (f i) 0)

  pub close_token : (r : ℕ) → token_of p (close_item r) ≡ Close r
  close_token r = at_name ((3 * r + 2) % 3) ((3 * r + 2) / 3) (omega arith) (omega arith)
    where
      at_name : (k q : ℕ) → k ≡ 2 → q ≡ r → kind_token k q (row_token p (state_at p q) q 0) ≡ Close r
      at_name k q e f = λ i. kind_token (e i) (f i) (row_token p (state_at p (f i)) (f i) 0)

  pub row_item_token : (r n : ℕ) (s : RowState) → state_at p r ≡ s → token_of p (atom_item r n) ≡ row_token p s r n
  row_item_token r n s g = at_name ((3 * r + 1) % 3) ((3 * r + 1) / 3) (omega arith) (omega arith)
    where
      at_name : (k q : ℕ) → k ≡ 1 → q ≡ r → kind_token k q (row_token p (state_at p q) q n) ≡ row_token p s r n
      at_name k q e f = (λ i. kind_token (e i) (f i) (row_token p (state_at p (f i)) (f i) n))
          ∙ ap (λ (t : RowState). row_token p t r n) g

  pub node_token : (r n : ℕ) → state_at p r ≡ Node → token_of p (atom_item r n) ≡ Atom r
  node_token r n e = row_item_token r n Node e

  pub leaf_token : (a from n : ℕ) → IsPart p a from n → token_of p (leaf_item p a from n)
      ≡ Leaf (part (array_at p a) from n)
  leaf_token a from n l =
      let some = l.some in
      row_item_token (row_of_array p a (from + n / 2)) n (InArray a (from + n / 2))
      (l.stand (from + n / 2) (omega arith) (omega arith))
      ∙ ap (λ (k : ℕ). Leaf (part (array_at p a) k n)) (from_middle from n)
    where
      from_middle : (from n : ℕ) → (from + n / 2) - n / 2 ≡ from
      from_middle from n = omega arith

  pub tokens-append : (xs ys : List Item) → tokens_of p (xs ++ ys) ≡ tokens_of p xs ++ tokens_of p ys
  tokens-append xs ys = map-append (token_of p) xs ys

  -- which item a token is

  pub open_kind : (r k q n : ℕ) (s : RowState) → Open r ≡ kind_token k q (row_token p s q n) → (k ≡ 0) × (q ≡ r)
  open_kind r zero q n s e = (refl, same r q e)
    where
      same : (r q : ℕ) → Open r ≡ Open q → q ≡ r
      same r q e = cc
  open_kind r (suc zero) q n Node e = absurd (no e)
    where
      no : Open r ≡ Atom q → ⊥
      no e = cc
  open_kind r (suc zero) q n (InArray a i) e = absurd (no (part (array_at p a) (i - n / 2) n) e)
    where
      no : (rs : List ℕ) → Open r ≡ Leaf rs → ⊥
      no rs e = cc
  open_kind r (suc zero) q n Gone e = absurd (no e)
    where
      no : Open r ≡ Atom q → ⊥
      no e = cc
  open_kind r (suc (suc k)) q n s e = absurd (no e)
    where
      no : Open r ≡ Close q → ⊥
      no e = cc

  pub open_name : (items : List Item) (r : ℕ) → In (Open r) (tokens_of p items) → IsItem (3 * r) items
  open_name items r h =
      let m = map_In (token_of p) (Open r) items h in
      let i : Item = m.0 in
      let k : (i.name % 3 ≡ 0) × (i.name / 3 ≡ r) = open_kind r (i.name % 3) (i.name / 3) i.weight
      (state_at p (i.name / 3)) m.2 in
      subst (λ (x : ℕ). IsItem x items) (whole i.name r k.0 k.1) (In-map (λ (j : Item). j.name) i items m.1)
    where
      whole : (x r : ℕ) → x % 3 ≡ 0 → x / 3 ≡ r → x ≡ 3 * r
      whole x r e f = omega arith

  pub atom_kind : (r k q n : ℕ) (s : RowState) → Atom r ≡ kind_token k q (row_token p s q n) → (k ≡ 1) × (q ≡ r)
  atom_kind r zero q n s e = absurd (no e)
    where
      no : Atom r ≡ Open q → ⊥
      no e = cc
  atom_kind r (suc zero) q n Node e = (refl, same r q e)
    where
      same : (r q : ℕ) → Atom r ≡ Atom q → q ≡ r
      same r q e = cc
  atom_kind r (suc zero) q n (InArray a i) e = absurd (no (part (array_at p a) (i - n / 2) n) e)
    where
      no : (rs : List ℕ) → Atom r ≡ Leaf rs → ⊥
      no rs e = cc
  atom_kind r (suc zero) q n Gone e = (refl, same r q e)
    where
      same : (r q : ℕ) → Atom r ≡ Atom q → q ≡ r
      same r q e = cc
  atom_kind r (suc (suc k)) q n s e = absurd (no e)
    where
      no : Atom r ≡ Close q → ⊥
      no e = cc

  pub atom_name : (items : List Item) (r : ℕ) → In (Atom r) (tokens_of p items) → IsItem (3 * r + 1) items
  atom_name items r h =
      let m = map_In (token_of p) (Atom r) items h in
      let i : Item = m.0 in
      let k : (i.name % 3 ≡ 1) × (i.name / 3 ≡ r) = atom_kind r (i.name % 3) (i.name / 3) i.weight
      (state_at p (i.name / 3)) m.2 in
      subst (λ (x : ℕ). IsItem x items) (whole i.name r k.0 k.1) (In-map (λ (j : Item). j.name) i items m.1)
    where
      whole : (x r : ℕ) → x % 3 ≡ 1 → x / 3 ≡ r → x ≡ 3 * r + 1
      whole x r e f = omega arith

  pub close_kind : (r k q n : ℕ) (s : RowState) → k < 3 → Close r ≡ kind_token k q (row_token p s q n) → (k ≡ 2)
      × (q ≡ r)
  close_kind r zero q n s l e = absurd (no e)
    where
      no : Close r ≡ Open q → ⊥
      no e = cc
  close_kind r (suc zero) q n Node l e = absurd (no e)
    where
      no : Close r ≡ Atom q → ⊥
      no e = cc
  close_kind r (suc zero) q n (InArray a i) l e = absurd (no (part (array_at p a) (i - n / 2) n) e)
    where
      no : (rs : List ℕ) → Close r ≡ Leaf rs → ⊥
      no rs e = cc
  close_kind r (suc zero) q n Gone l e = absurd (no e)
    where
      no : Close r ≡ Atom q → ⊥
      no e = cc
  close_kind r (suc (suc k)) q n s l e = (omega arith, same r q e)
    where
      same : (r q : ℕ) → Close r ≡ Close q → q ≡ r
      same r q e = cc

  pub close_name : (items : List Item) (r : ℕ) → In (Close r) (tokens_of p items) → IsItem (3 * r + 2) items
  close_name items r h =
      let m = map_In (token_of p) (Close r) items h in
      let i : Item = m.0 in
      let k : (i.name % 3 ≡ 2) × (i.name / 3 ≡ r) = close_kind r (i.name % 3) (i.name / 3) i.weight
      (state_at p (i.name / 3)) (omega arith) m.2 in
      subst (λ (x : ℕ). IsItem x items) (whole i.name r k.0 k.1) (In-map (λ (j : Item). j.name) i items m.1)
    where
      whole : (x r : ℕ) → x % 3 ≡ 2 → x / 3 ≡ r → x ≡ 3 * r + 2
      whole x r e f = omega arith

-- more rows and arrays, and those that were there as before
pub record Grows (p q : Parts) : Type 0 where
  pub rows : length p.rows ≤ length q.rows
  pub arrays : length p.arrays ≤ length q.arrays
  pub same : (a : ℕ) → a < length p.arrays → array_at q a ≡ array_at p a

-- the rows of an item stay
abbrev pub Unmoved : Parts → Parts → Item → Type 0
Unmoved p q i = (r : ℕ) → (r ≡ i.name / 3) ⊎ In r (numbers_at (token_of p i)) → row_at q r ≡ row_at p r

module _ (p q : Parts) (g : Grows p q) where
  -- a part of an array that is a leaf stays one
  pub part_stays : (a from n : ℕ) → IsPart p a from n
      → ((x : ℕ) → In x (part (array_at p a) from n) → row_at q x ≡ row_at p x) → IsPart q a from n
  part_stays a from n l h =
      let below = l.array in
      let more = g.arrays in
      let same = g.same a l.array in
      record {
        array = omega arith;
        some = l.some;
        within = subst (λ (xs : List ℕ). from + n ≤ length xs) (sym same) l.within;
        stand = λ k b c. subst (λ (xs : List ℕ). state_at q (get_or xs k 0) ≡ InArray a k) (sym same)
            (ap (λ (v : RowValue). v.state) (h (row_of_array p a k) (part_in (array_at p a) from n k b c l.within))
            ∙ l.stand k b c);
      }

  kind_stays : (k : ℕ) (s : RowState) (r w : ℕ) → ((x : ℕ) → In x (numbers_at (kind_token k r (row_token p s r w)))
      → row_at q x ≡ row_at p x) → IsKind p k s w → IsKind q k s w
  kind_stays zero s r w h c = c
  kind_stays (suc zero) Node r w h c = tt
  kind_stays (suc zero) (InArray a i) r w h c = (c.0, part_stays a (i - w / 2) w c.1 h)
  kind_stays (suc zero) Gone r w h c = c
  kind_stays (suc (suc k)) s r w h c = c

  kind_same : (k : ℕ) (s : RowState) (r w : ℕ) → IsKind p k s w → kind_token k r (row_token q s r w)
      ≡ kind_token k r (row_token p s r w)
  kind_same zero s r w c = refl
  kind_same (suc zero) Node r w c = refl
  kind_same (suc zero) (InArray a i) r w c = ap (λ (xs : List ℕ). Leaf (part xs (i - w / 2) w)) (g.same a c.1.array)
  kind_same (suc zero) Gone r w c = refl
  kind_same (suc (suc k)) s r w c = refl

  weight_same : (k : ℕ) (s : RowState) (r w : ℕ) → table q r ≡ table p r
      → token_weight (table q) (kind_token k r (row_token p s r w))
      ≡ token_weight (table p) (kind_token k r (row_token p s r w))
  weight_same zero s r w e = refl
  weight_same (suc zero) Node r w e = ap (λ (v : Entry). if is_empty_list v.deletes then 1 else 0) e
  weight_same (suc zero) (InArray a i) r w e = refl
  weight_same (suc zero) Gone r w e = ap (λ (v : Entry). if is_empty_list v.deletes then 1 else 0) e
  weight_same (suc (suc k)) s r w e = refl

  module _ (i : Item) (t : IsToken p i) (u : Unmoved p q i) where
    own : row_at q (i.name / 3) ≡ row_at p (i.name / 3)
    own = u (i.name / 3) (inl refl)

    pub token_stays : token_of q i ≡ token_of p i
    token_stays =
        ap (λ (v : RowValue). kind_token (i.name % 3) (i.name / 3) (row_token q v.state (i.name / 3) i.weight)) own
        ∙ kind_same (i.name % 3) (state_at p (i.name / 3)) (i.name / 3) i.weight t.kind

    pub item_stays : IsToken q i
    item_stays =
        let known = t.known in
        let more = g.rows in
        record {
          known = omega arith;
          kind = subst (λ (v : RowValue). IsKind q (i.name % 3) v.state i.weight) (sym own)
              (kind_stays (i.name % 3) (state_at p (i.name / 3)) (i.name / 3) i.weight (λ x m. u x (inr m)) t.kind);
          weighed = t.weighed ∙ sym (weight_same (i.name % 3) (state_at p (i.name / 3)) (i.name / 3) i.weight
              (ap (λ (v : RowValue). v.entry) own)) ∙ ap (token_weight (table q)) (sym token_stays);
          marked = t.marked ∙ ap is_row_token (sym token_stays);
        }

  pub tokens_stay : (items : List Item) → ((i : Item) → In i items → IsToken p i × Unmoved p q i) → tokens_of q items
      ≡ tokens_of p items
  tokens_stay [] h = refl
  tokens_stay (i ∷ items) h = λ j. token_stays i (h i (inl refl)).0 (h i (inl refl)).1 j ∷ tokens_stay items
      (λ k m. h k (inr m)) j
