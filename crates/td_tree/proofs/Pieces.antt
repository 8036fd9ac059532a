-- Pieces of items: the tokens of new ones, and that they are tokens.
use Rattle.std.proofs.Common.{◌≡◌, ◌≢◌, ◌⊎◌, ◌+◌, ◌-◌, ◌*◌, ◌/◌, ◌%◌, ◌<◌, ℕ, zero, suc, List, [], ◌∷◌, ◌++◌}
use Rattle.std.proofs.Common.{if◌then◌else◌, length, refl, sym, ap, ◌∙◌, subst, inl, inr, ⊎_elim, arith}
use Rattle.std.proofs.lemmas.List.{append-nil}
use Rattle.td_base.specs.Value.{DotValue}
use Rattle.td_base.specs.Lists.{In}
use Rattle.td_base.proofs.Lists.{all_of, In-append}
use Rattle.td_doc.specs.Document.{is_empty_list}
use Rattle.td_list.specs.Items.{Item, names, IsItem, AreApart, weight_of}
use Rattle.td_list.proofs.Names.{weight-append, apart-append, item-append}
use Rattle.td_brackets.specs.Brackets.{Token, Open, Atom, Leaf, numbers_of}
use Rattle.td_brackets.specs.Laws.{leaf_word, whole}
use Rattle.td_tree.specs.declared.tree_row.RowState.{RowState}
use Rattle.td_tree.specs.declared.tree_row.RowState.TheVariants.{Node, InArray}
use Rattle.td_tree.specs.Parts.{Parts, state_at, table, array_at, part, row_of_array, row_token, kind_token, token_of}
use Rattle.td_tree.specs.Parts.{tokens_of, token_weight, is_row_token, nodes_of, IsPart, IsRowItem, IsKind, IsToken}
use Rattle.td_tree.specs.Parts.{open_item, atom_item, close_item, leaf_item, leaf_items, node_items}
use Rattle.td_tree.proofs.ArrayParts.{part_length}
use Rattle.td_tree.proofs.ItemTokens.{open_token, close_token, node_token, leaf_token, tokens-append}

-- counts

pub nodes-append : (xs ys : List Token) → nodes_of (xs ++ ys) ≡ nodes_of xs + nodes_of ys
nodes-append [] ys = omega arith
nodes-append (t ∷ xs) ys = let ih = nodes-append xs ys in omega arith

pub leaf_word_is : (rs : List ℕ) → 0 < length rs → leaf_word rs ≡ Leaf rs ∷ []
leaf_word_is [] h = absurd (omega arith)
leaf_word_is (r ∷ rs) h = refl

pub leaf_word_numbers : (rs : List ℕ) → numbers_of (leaf_word rs) ≡ rs
leaf_word_numbers [] = refl
leaf_word_numbers (r ∷ rs) = append-nil (r ∷ rs)

pub leaf_word_nodes : (rs : List ℕ) → nodes_of (leaf_word rs) ≡ 0
leaf_word_nodes [] = refl
leaf_word_nodes (r ∷ rs) = refl

module _ (q : Parts) where
  -- what an item has to have
  token_at : (k r : ℕ) (i : Item) → i.name % 3 ≡ k → i.name / 3 ≡ r → r < length q.rows
      → IsKind q k (state_at q r) i.weight
      → i.weight ≡ token_weight (table q) (kind_token k r (row_token q (state_at q r) r i.weight)) → i.marked
      ≡ is_row_token (kind_token k r (row_token q (state_at q r) r i.weight)) → IsToken q i
  token_at k r i e f below kind weighed marked =
      let same : kind_token k r (row_token q (state_at q r) r i.weight)
      ≡ token_of q i = λ j. kind_token (sym e j) (sym f j) (row_token q (state_at q (sym f j)) (sym f j) i.weight)
      in
      record {
        known = subst (λ (x : ℕ). x < length q.rows) (sym f) below;
        kind = subst (λ (x : ℕ). IsKind q x (state_at q (i.name / 3)) i.weight) (sym e)
            (subst (λ (x : ℕ). IsKind q k (state_at q x) i.weight) (sym f) kind);
        weighed = weighed ∙ ap (token_weight (table q)) same;
        marked = marked ∙ ap is_row_token same;
      }

  pub open_is_token : (r : ℕ) → r < length q.rows → state_at q r ≡ Node → IsToken q (open_item r)
  open_is_token r below node = token_at 0 r (open_item r) (omega arith) (omega arith) below node refl refl

  pub close_is_token : (r : ℕ) → r < length q.rows → state_at q r ≡ Node → IsToken q (close_item r)
  close_is_token r below node = token_at 2 r (close_item r) (omega arith) (omega arith) below node refl refl

  pub atom_is_token : (r n : ℕ) → r < length q.rows → state_at q r ≡ Node → n
      ≡ (if is_empty_list (table q r).deletes then 1 else 0) → IsToken q (atom_item r n)
  atom_is_token r n below node e =
      token_at 1 r (atom_item r n) (omega arith) (omega arith) below
      (subst (λ (s : RowState). IsRowItem q s n) (sym node) tt)
      (e ∙ ap (λ (s : RowState). token_weight (table q) (row_token q s r n)) (sym node))
      (ap (λ (s : RowState). is_row_token (row_token q s r n)) (sym node))

  pub live_is_token : (r : ℕ) → r < length q.rows → state_at q r ≡ Node → (table q r).deletes ≡ []
      → IsToken q (atom_item r 1)
  live_is_token r below node live = atom_is_token r 1 below node
      (ap (λ (ds : List DotValue). if is_empty_list ds then 1 else 0) (sym live))

  pub leaf_is_token : (a from n : ℕ) → row_of_array q a (from + n / 2) < length q.rows → IsPart q a from n
      → IsToken q (leaf_item q a from n)
  leaf_is_token a from n below l =
      let r : ℕ = row_of_array q a (from + n / 2) in
      let some = l.some in
      let state : state_at q r ≡ InArray a (from + n / 2) = l.stand (from + n / 2) (omega arith) (omega arith) in
      let start : (from + n / 2) - n / 2 ≡ from = omega arith in
      token_at 1 r (leaf_item q a from n) (omega arith) (omega arith) below
      (subst (λ (s : RowState). IsRowItem q s n) (sym state)
      (omega arith, subst (λ (m : ℕ). IsPart q a m n) (sym start) l))
      (sym (part_length (array_at q a) from n l.within) ∙ ap (λ (m : ℕ). length (part (array_at q a) m n)) (sym start)
      ∙ ap (λ (s : RowState). token_weight (table q) (row_token q s r n)) (sym state))
      (ap (λ (s : RowState). is_row_token (row_token q s r n)) (sym state))

  -- a leaf that may have no rows

  pub leaf_items_tokens : (a from n : ℕ) → (0 < n → IsPart q a from n) → tokens_of q (leaf_items q a from n)
      ≡ leaf_word (part (array_at q a) from n)
  leaf_items_tokens a from zero h = refl
  leaf_items_tokens a from (suc n) h =
      let l = h (omega arith) in
      let long = part_length (array_at q a) from (suc n) l.within in
      ap (λ (t : Token). t ∷ []) (leaf_token q a from (suc n) l)
      ∙ sym (leaf_word_is (part (array_at q a) from (suc n)) (omega arith))

  pub leaf_items_are : (a from n : ℕ) → (0 < n → IsPart q a from n
      × (row_of_array q a (from + n / 2) < length q.rows)) → (i : Item) → In i (leaf_items q a from n) → IsToken q i
  leaf_items_are a from zero h i m = absurd m
  leaf_items_are a from (suc n) h i m =
      ⊎_elim (λ (e : i ≡ leaf_item q a from (suc n)). let k : IsPart q a from (suc n)
      × (row_of_array q a (from + suc n / 2) < length q.rows) = h (omega arith) in
      subst (IsToken q) (sym e) (leaf_is_token a from (suc n) k.1 k.0)) (λ (z : ⊥). absurd z) m

  pub leaf_items_weigh : (a from n : ℕ) → weight_of (leaf_items q a from n) ≡ n
  leaf_items_weigh a from zero = refl
  leaf_items_weigh a from (suc n) = omega arith

  pub leaf_items_apart : (a from n : ℕ) → AreApart (leaf_items q a from n)
  leaf_items_apart a from zero = tt
  leaf_items_apart a from (suc n) = (tt, tt)

  pub leaf_items_name : (a from n x : ℕ) → IsItem x (leaf_items q a from n) → (0 < n)
      × (x ≡ 3 * row_of_array q a (from + n / 2) + 1)
  leaf_items_name a from zero x i = absurd i
  leaf_items_name a from (suc n) x i = ⊎_elim (λ (e : x ≡ 3 * row_of_array q a (from + suc n / 2) + 1).
      (omega arith, e)) (λ (z : ⊥). absurd z) i

  pub leaf_items_in : (a from n : ℕ) → 0 < n → In (leaf_item q a from n) (leaf_items q a from n)
  leaf_items_in a from zero h = absurd (omega arith)
  leaf_items_in a from (suc n) h = inl refl

-- a row with what stands on its sides

pub node_items_tokens : (q : Parts) (r : ℕ) (left right : List Item) → state_at q r ≡ Node
    → tokens_of q (node_items r left right) ≡ whole r (tokens_of q left) (tokens_of q right)
node_items_tokens q r left right node =
    (λ i. open_token q r i ∷ tokens-append q left (atom_item r 1 ∷ (right ++ close_item r ∷ [])) i)
    ∙ (λ i. Open r ∷ (tokens_of q left ++ node_token q r 1 node i ∷ tokens-append q right (close_item r ∷ []) i))
    ∙ (λ i. Open r ∷ (tokens_of q left ++ Atom r ∷ (tokens_of q right ++ close_token q r i ∷ [])))

pub node_items_in : (r : ℕ) (left right : List Item) (i : Item) → In i (node_items r left right) → (i ≡ open_item r)
    ⊎ ((i ≡ atom_item r 1) ⊎ ((i ≡ close_item r) ⊎ (In i left ⊎ In i right)))
node_items_in r left right i m =
    ⊎_elim (λ (e : i ≡ open_item r). inl e)
    (λ (k : In i (left ++ atom_item r 1 ∷ (right ++ close_item r ∷ []))).
    ⊎_elim (λ (l : In i left). inr (inr (inr (inl l))))
    (λ (l : In i (atom_item r 1 ∷ (right ++ close_item r ∷ []))).
    ⊎_elim (λ (e : i ≡ atom_item r 1). inr (inl e))
    (λ (n : In i (right ++ close_item r ∷ [])).
    ⊎_elim (λ (o : In i right). inr (inr (inr (inr o))))
    (λ (o : In i (close_item r ∷ [])). ⊎_elim (λ (e : i ≡ close_item r). inr (inr (inl e))) (λ (z : ⊥). absurd z) o)
    (In-append i right (close_item r ∷ []) n)) l)
    (In-append i left (atom_item r 1 ∷ (right ++ close_item r ∷ [])) k)) m

pub node_items_names : (r : ℕ) (left right : List Item) (x : ℕ) → IsItem x (node_items r left right) → (x ≡ 3 * r)
    ⊎ ((x ≡ 3 * r + 1) ⊎ ((x ≡ 3 * r + 2) ⊎ (IsItem x left ⊎ IsItem x right)))
node_items_names r left right x m =
    ⊎_elim (λ (e : x ≡ 3 * r). inl e)
    (λ (k : IsItem x (left ++ atom_item r 1 ∷ (right ++ close_item r ∷ []))).
    ⊎_elim (λ (l : IsItem x left). inr (inr (inr (inl l))))
    (λ (l : IsItem x (atom_item r 1 ∷ (right ++ close_item r ∷ []))).
    ⊎_elim (λ (e : x ≡ 3 * r + 1). inr (inl e))
    (λ (n : IsItem x (right ++ close_item r ∷ [])).
    ⊎_elim (λ (o : IsItem x right). inr (inr (inr (inr o))))
    (λ (o : IsItem x (close_item r ∷ [])). ⊎_elim (λ (e : x ≡ 3 * r + 2). inr (inr (inl e))) (λ (z : ⊥). absurd z) o)
    (item-append x right (close_item r ∷ []) n)) l)
    (item-append x left (atom_item r 1 ∷ (right ++ close_item r ∷ [])) k)) m

pub node_items_weigh : (r : ℕ) (left right : List Item) → weight_of (node_items r left right)
    ≡ weight_of left + 1 + weight_of right
node_items_weigh r left right =
    let one = weight-append left (atom_item r 1 ∷ (right ++ close_item r ∷ [])) in
    let two = weight-append right (close_item r ∷ []) in
    omega arith

-- names of leaves beside a row
abbrev pub OtherRows : ℕ → List Item → Type 0
OtherRows r items = (x : ℕ) → IsItem x items → (s : ℕ) × (x ≡ 3 * s + 1) × (s ≢ r)

pub node_items_apart : (r : ℕ) (left right : List Item) → AreApart left → AreApart right → OtherRows r left
    → OtherRows r right → ((x : ℕ) → IsItem x left → IsItem x right → ⊥) → AreApart (node_items r left right)
node_items_apart r left right l m o n d = (
  all_of (λ (y : ℕ). 3 * r ≢ y) (names (left ++ atom_item r 1 ∷ (right ++ close_item r ∷ [])))
      (λ y i e. open_not y i e),
  apart-append left (atom_item r 1 ∷ (right ++ close_item r ∷ [])) l (
    all_of (λ (y : ℕ). 3 * r + 1 ≢ y) (names (right ++ close_item r ∷ [])) (λ y i e. atom_not y i e),
    apart-append right (close_item r ∷ []) m (tt, tt) (λ x i j. right_close x i j),
  )
      (λ x i j. left_rest x i j),
)
  where
    right_close : (x : ℕ) → IsItem x right → IsItem x (close_item r ∷ []) → ⊥
    right_close x i j =
        let k : (s : ℕ) × (x ≡ 3 * s + 1) × (s ≢ r) = n x i in
        let f : x ≡ 3 * s_of k + 1 = k.1 in
        ⊎_elim (λ (e : x ≡ 3 * r + 2). absurd (differ (s_of k) x f e)) (λ (z : ⊥). z) j
      where
        s_of : (s : ℕ) × (x ≡ 3 * s + 1) × (s ≢ r) → ℕ
        s_of k = k.0

        differ : (s x : ℕ) → x ≡ 3 * s + 1 → x ≡ 3 * r + 2 → ⊥
        differ s x e f = omega arith

    atom_not : (y : ℕ) → IsItem y (right ++ close_item r ∷ []) → 3 * r + 1 ≡ y → ⊥
    atom_not y i e =
        ⊎_elim (λ (j : IsItem y right). let k : (s : ℕ) × (y ≡ 3 * s + 1) × (s ≢ r) = n y j in k.2 (same k.0 y k.1 e))
        (λ (j : IsItem y (close_item r ∷ [])). ⊎_elim (λ (f : y ≡ 3 * r + 2). differ y e f) (λ (z : ⊥). z) j)
        (item-append y right (close_item r ∷ []) i)
      where
        same : (s y : ℕ) → y ≡ 3 * s + 1 → 3 * r + 1 ≡ y → s ≡ r
        same s y e f = omega arith

        differ : (y : ℕ) → 3 * r + 1 ≡ y → y ≡ 3 * r + 2 → ⊥
        differ y e f = omega arith

    rest : (y : ℕ) → IsItem y (atom_item r 1 ∷ (right ++ close_item r ∷ [])) → (y ≡ 3 * r + 1)
        ⊎ ((y ≡ 3 * r + 2) ⊎ IsItem y right)
    rest y i =
        ⊎_elim (λ (e : y ≡ 3 * r + 1). inl e)
        (λ (j : IsItem y (right ++ close_item r ∷ [])). ⊎_elim (λ (k : IsItem y right). inr (inr k))
        (λ (k : IsItem y (close_item r ∷ [])). ⊎_elim (λ (e : y ≡ 3 * r + 2). inr (inl e)) (λ (z : ⊥). absurd z) k)
        (item-append y right (close_item r ∷ []) j)) i

    left_rest : (y : ℕ) → IsItem y left → IsItem y (atom_item r 1 ∷ (right ++ close_item r ∷ [])) → ⊥
    left_rest y i j =
        let k : (s : ℕ) × (y ≡ 3 * s + 1) × (s ≢ r) = o y i in
        ⊎_elim (λ (e : y ≡ 3 * r + 1). k.2 (same k.0 y k.1 e))
        (λ (t : (y ≡ 3 * r + 2) ⊎ IsItem y right). ⊎_elim (λ (e : y ≡ 3 * r + 2). differ k.0 y k.1 e)
        (λ (u : IsItem y right). d y i u) t) (rest y j)
      where
        same : (s y : ℕ) → y ≡ 3 * s + 1 → y ≡ 3 * r + 1 → s ≡ r
        same s y e f = omega arith

        differ : (s y : ℕ) → y ≡ 3 * s + 1 → y ≡ 3 * r + 2 → ⊥
        differ s y e f = omega arith

    open_not : (y : ℕ) → IsItem y (left ++ atom_item r 1 ∷ (right ++ close_item r ∷ [])) → 3 * r ≡ y → ⊥
    open_not y i e =
        ⊎_elim (λ (j : IsItem y left). let k : (s : ℕ) × (y ≡ 3 * s + 1) × (s ≢ r) = o y j in one k.0 y k.1 e)
        (λ (j : IsItem y (atom_item r 1 ∷ (right ++ close_item r ∷ []))).
        ⊎_elim (λ (f : y ≡ 3 * r + 1). two y e f)
        (λ (t : (y ≡ 3 * r + 2) ⊎ IsItem y right). ⊎_elim (λ (f : y ≡ 3 * r + 2). three y e f)
        (λ (u : IsItem y right). let k : (s : ℕ) × (y ≡ 3 * s + 1) × (s ≢ r) = n y u in one k.0 y k.1 e) t)
        (rest y j))
        (item-append y left (atom_item r 1 ∷ (right ++ close_item r ∷ [])) i)
      where
        one : (s y : ℕ) → y ≡ 3 * s + 1 → 3 * r ≡ y → ⊥
        one s y e f = omega arith

        two : (y : ℕ) → 3 * r ≡ y → y ≡ 3 * r + 1 → ⊥
        two y e f = omega arith

        three : (y : ℕ) → 3 * r ≡ y → y ≡ 3 * r + 2 → ⊥
        three y e f = omega arith
