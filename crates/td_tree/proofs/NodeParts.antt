-- The items of a tree, parted by those of a node.
use Rattle.std.proofs.Common.{◌≡◌, ◌+◌, ◌*◌, ◌<◌, ℕ, List, [], ◌∷◌, ◌++◌, refl, sym, ap, ◌∙◌}
use Rattle.std.proofs.Common.{subst, inl, inr, ⊎_elim, arith, length, ◌%◌, ◌/◌}
use Rattle.td_base.specs.Lists.{In}
use Rattle.td_base.proofs.Lists.{In-back, In-map, map_In}
use Rattle.td_base.proofs.Elements.{same_head, same_tail}
use Rattle.td_doc.specs.Document.{DocRow}
use Rattle.td_list.specs.Items.{Item, IsItem}
use Rattle.td_brackets.specs.Brackets.{Token, Open, Atom, Close, move_all, IsWord, slot_round, IsBrackets, rows_of}
use Rattle.td_brackets.specs.RowNumbers.{row_numbers}
use Rattle.td_brackets.proofs.Words.{Node, node}
use Rattle.td_brackets.proofs.SidesOf.{split_at}
use Rattle.td_brackets.proofs.Deeper.{RowTold, told_at}
use Rattle.td_tree.specs.declared.tree_row.RowState.TheVariants.{Node as IsNode}
use Rattle.td_tree.specs.Parts.{Parts, state_at, table, row_token, kind_token, token_of}
use Rattle.td_tree.specs.Parts.{tokens_of, tokens, doc_rows, IsAt, IsTree}
use Rattle.td_tree.specs.Reading.{shown}
use Rattle.td_tree.proofs.ItemTokens.{open_name, atom_name, close_name}

-- a list of items, parted where its tokens are
pub record ItemsAt (p : Parts) (items : List Item) (front : List Token) (t : Token) (back : List Token) : Type 0 where
  pub before : List Item
  pub item : Item
  pub after : List Item
  pub is : items ≡ before ++ item ∷ after
  pub before_is : tokens_of p before ≡ front
  pub item_is : token_of p item ≡ t
  pub after_is : tokens_of p after ≡ back

pub items_at : (p : Parts) (items : List Item) (front : List Token) (t : Token) (back : List Token)
    → tokens_of p items ≡ front ++ t ∷ back → ItemsAt p items front t back
items_at p [] [] t back e = absurd cc
items_at p (i ∷ items) [] t back e = record {
  before = [];
  item = i;
  after = items;
  is = refl;
  before_is = refl;
  item_is = same_head (token_of p i) (tokens_of p items) t back e;
  after_is = same_tail (token_of p i) (tokens_of p items) t back e;
}
items_at p [] (f ∷ front) t back e = absurd cc
items_at p (i ∷ items) (f ∷ front) t back e =
    let k = items_at p items front t back (same_tail (token_of p i) (tokens_of p items) f (front ++ t ∷ back) e) in
    record {
      before = i ∷ k.before;
      item = k.item;
      after = k.after;
      is = ap (λ (q : List Item). i ∷ q) k.is;
      before_is = λ j. same_head (token_of p i) (tokens_of p items) f (front ++ t ∷ back) e j ∷ k.before_is j;
      item_is = k.item_is;
      after_is = k.after_is;
    }

-- a node among the items
pub record NodeAt (p : Parts) (x : ℕ) : Type 0 where
  pub front : List Item
  pub opens : Item
  pub left : List Item
  pub atom : Item
  pub right : List Item
  pub closes : Item
  pub back : List Item
  pub is : p.items ≡ front ++ opens ∷ (left ++ atom ∷ (right ++ closes ∷ back))
  pub open_named : opens.name ≡ 3 * x
  pub atom_named : atom.name ≡ 3 * x + 1
  pub close_named : closes.name ≡ 3 * x + 2
  pub open_is : token_of p opens ≡ Open x
  pub atom_is : token_of p atom ≡ Atom x
  pub close_is : token_of p closes ≡ Close x
  pub left_word : IsWord (tokens_of p left)
  pub right_word : IsWord (tokens_of p right)
  pub told : RowTold (table p) (doc_rows p) x (slot_round (table p) (move_all [] (tokens_of p front))) (shown p left)
      (shown p right)

-- the item of that name opens the row
open_here : (p : Parts) (i : Item) (r : ℕ) → i.name ≡ 3 * r → token_of p i ≡ Open r
open_here p i r e = at_name (i.name % 3) (i.name / 3) (omega arith) (omega arith)
  where
    at_name : (k q : ℕ) → k ≡ 0 → q ≡ r → kind_token k q (row_token p (state_at p q) q i.weight) ≡ Open r
    at_name k q e f = λ j. kind_token (e j) (f j) (row_token p (state_at p (f j)) (f j) i.weight)

only_name : (x : ℕ) (i : Item) → IsItem x (i ∷ []) → i.name ≡ x
only_name x i h = ⊎_elim (λ (e : x ≡ i.name). sym e) (λ (z : ⊥). absurd z) h

pub node_at : (p : Parts) → IsTree p → (x : ℕ) → x < length p.rows → state_at p x ≡ IsNode → NodeAt p x
node_at p t x l e =
    let here : IsItem (3 * x) p.items = subst (IsAt p x) e (t.at x l) in
    let m = map_In (λ (i : Item). i.name) (3 * x) p.items here in
    let is_open : token_of p m.0 ≡ Open x = open_here p m.0 x (sym m.2) in
    let there : In (Open x) (tokens p) = subst (λ (q : Token). In q (tokens p)) is_open
    (In-map (token_of p) m.0 p.items m.1) in
    let s = split_at (Open x) (tokens p) there in
    let b : IsBrackets (table p) (s.front ++ Open x ∷ s.back) = subst (IsBrackets (table p)) s.is t.brackets in
    let k : Node x s.front s.back = node s.front s.back x b.word in
    let parts : tokens p ≡ s.front ++ Open x ∷ (k.left ++ Atom x ∷ (k.right ++ Close x ∷ k.back)) = s.is
    ∙ ap (λ (q : List Token). s.front ++ Open x ∷ q) k.is in
    let one = items_at p p.items s.front (Open x) (k.left ++ Atom x ∷ (k.right ++ Close x ∷ k.back)) parts in
    let two = items_at p one.after k.left (Atom x) (k.right ++ Close x ∷ k.back) one.after_is in
    let three = items_at p two.after k.right (Close x) k.back two.after_is in
    let told = told_at (table p) s.front k.left k.right k.back x (subst (IsBrackets (table p)) parts t.brackets) in
    let rows : rows_of (table p) (s.front ++ Open x ∷ (k.left ++ Atom x ∷ (k.right ++ Close x ∷ k.back)))
    ≡ doc_rows p = ap (rows_of (table p)) (sym parts) in
    record {
      front = one.before;
      opens = one.item;
      left = two.before;
      atom = two.item;
      right = three.before;
      closes = three.item;
      back = three.after;
      is = one.is ∙ ap (λ (q : List Item). one.before ++ one.item ∷ q)
          (two.is ∙ ap (λ (q : List Item). two.before ++ two.item ∷ q) three.is);
      open_named = only_name (3 * x) one.item (open_name p (one.item ∷ []) x (inl (sym one.item_is)));
      atom_named = only_name (3 * x + 1) two.item (atom_name p (two.item ∷ []) x (inl (sym two.item_is)));
      close_named = only_name (3 * x + 2) three.item (close_name p (three.item ∷ []) x (inl (sym three.item_is)));
      open_is = one.item_is;
      atom_is = two.item_is;
      close_is = three.item_is;
      left_word = subst IsWord (sym two.before_is) k.left_word;
      right_word = subst IsWord (sym three.before_is) k.right_word;
      told = told_with s.front k.left k.right one.before two.before three.before one.before_is two.before_is
          three.before_is
          (subst (λ (q : List DocRow). RowTold (table p) q x (slot_round (table p) (move_all [] s.front))
          (row_numbers k.left) (row_numbers k.right)) rows told);
    }
  where
    told_with : (front left right : List Token) (fi li ri : List Item) → tokens_of p fi ≡ front → tokens_of p li
        ≡ left → tokens_of p ri ≡ right
        → RowTold (table p) (doc_rows p) x (slot_round (table p) (move_all [] front)) (row_numbers left)
        (row_numbers right)
        → RowTold (table p) (doc_rows p) x (slot_round (table p) (move_all [] (tokens_of p fi))) (shown p li)
        (shown p ri)
    told_with front left right fi li ri e f g h =
        subst (λ (q : List Token). RowTold (table p) (doc_rows p) x (slot_round (table p) (move_all [] q))
        (shown p li) (shown p ri)) (sym e)
        (subst (λ (q : List Token). RowTold (table p) (doc_rows p) x (slot_round (table p) (move_all [] front))
        (row_numbers q) (shown p ri)) (sym f)
        (subst (λ (q : List Token). RowTold (table p) (doc_rows p) x (slot_round (table p) (move_all [] front))
        (row_numbers left) (row_numbers q)) (sym g) h))

module _ (p : Parts) (x : ℕ) (n : NodeAt p x) where
  pub open_in : In n.opens p.items
  open_in = subst (In n.opens) (sym n.is) (In-back n.opens n.front
      (n.opens ∷ (n.left ++ n.atom ∷ (n.right ++ n.closes ∷ n.back))) (inl refl))

  pub atom_in : In n.atom p.items
  atom_in = subst (In n.atom) (sym n.is) (In-back n.atom n.front
      (n.opens ∷ (n.left ++ n.atom ∷ (n.right ++ n.closes ∷ n.back)))
      (inr (In-back n.atom n.left (n.atom ∷ (n.right ++ n.closes ∷ n.back)) (inl refl))))

  pub close_in : In n.closes p.items
  close_in =
      subst (In n.closes) (sym n.is)
      (In-back n.closes n.front (n.opens ∷ (n.left ++ n.atom ∷ (n.right ++ n.closes ∷ n.back)))
      (inr (In-back n.closes n.left (n.atom ∷ (n.right ++ n.closes ∷ n.back))
      (inr (In-back n.closes n.right (n.closes ∷ n.back) (inl refl))))))

  pub open_there : IsItem (3 * x) p.items
  open_there = subst (λ (y : ℕ). IsItem y p.items) n.open_named (In-map (λ (i : Item). i.name) n.opens p.items open_in)

  pub atom_there : IsItem (3 * x + 1) p.items
  atom_there = subst (λ (y : ℕ). IsItem y p.items) n.atom_named (In-map (λ (i : Item). i.name) n.atom p.items atom_in)

  pub close_there : IsItem (3 * x + 2) p.items
  close_there = subst (λ (y : ℕ). IsItem y p.items) n.close_named
      (In-map (λ (i : Item). i.name) n.closes p.items close_in)
