-- The walk over siblings to the place of a new row.
use Rattle.std.proofs.Common.{◌≡◌, ◌≢◌, ◌⊎◌, ◌+◌, ◌*◌, ◌/◌, ◌%◌, ◌<◌, ℕ, zero, suc, List, [], ◌∷◌, ◌++◌}
use Rattle.std.proofs.Common.{false, length, Option, Some, None, refl, sym, ap, ◌∙◌, subst, inl, inr}
use Rattle.std.proofs.Common.{⊎_elim, arith, append_assoc, length-append, true≢false}
use Rattle.std.specs.Prelude.{IsNone}
use Rattle.std.specs.Ordering.{is_lt, ordering_reverse}
use Rattle.std.specs.declared.cmp.Ordering.{Ordering}
use Rattle.std.specs.declared.cmp.Ordering.TheVariants.{Less, Equal, Greater}
use Rattle.std.proofs.lemmas.List.{length-map}
use Rattle.std.proofs.lemmas.Option.{same_Some, none-some}
use Rattle.td_base.specs.declared.bit.Bit.{Bit}
use Rattle.td_base.specs.declared.bit.Bit.TheVariants.{Left, Right}
use Rattle.td_base.specs.Value.{AtomIdValue}
use Rattle.td_base.specs.Order.{id_cmp}
use Rattle.td_base.specs.Lists.{In, Successive}
use Rattle.td_base.proofs.Lists.{In-back, In-map, map_In}
use Rattle.td_path.specs.declared.slot.Slot.{Slot}
use Rattle.td_path.specs.declared.slot.Slot.TheVariants.{Root, At}
use Rattle.td_base.proofs.Orders.{id_total, equal_ids}
use Rattle.td_doc.specs.Document.{find_row}
use Rattle.td_doc.specs.Slots.{slot_path}
use Rattle.td_doc.proofs.Rules.{fresh}
use Rattle.td_list.specs.Items.{Item, IsItem, AreApart, items_after, items_from_end, first_name}
use Rattle.td_list.proofs.Names.{apart-parts}
use Rattle.td_list.proofs.Parted.{after_at}
use Rattle.td_brackets.specs.Brackets.{Token, Open, Atom, Close, Leaf, Level, move_all, numbers_at}
use Rattle.td_brackets.specs.Brackets.{numbers_of, slot_of, rows_from, rows_of, IsWord, IsBrackets}
use Rattle.td_brackets.specs.Laws.{Standing, AllAfter, whole}
use Rattle.td_brackets.proofs.Words.{Node, node, move-append, word_moves}
use Rattle.td_brackets.proofs.NodeRows.{slot_is}
use Rattle.td_brackets.proofs.Standing.{split_unique, start_left, start_right, over_sibling}
use Rattle.td_brackets.proofs.Standing.{at_sibling, end_left, end_right}
use Rattle.td_brackets.proofs.Leaves.{over_leaf, at_leaf}
use Rattle.td_brackets.proofs.SidesOf.{SplitAt, split_at}
use Rattle.td_brackets.proofs.Kept.{number_row}
use Rattle.td_tree.specs.declared.tree_row.RowState.TheVariants.{Node as IsNode}
use Rattle.td_tree.specs.Parts.{Parts, state_at, table, token_of, tokens_of, tokens, doc_rows, IsAt, IsKind, IsTree}
use Rattle.td_tree.specs.Places.{IsPlace, IsNewPlace, IsSmaller, IsNotSmaller}
use Rattle.td_tree.proofs.ItemTokens.{tokens-append, open_kind, atom_kind, close_kind, close_name}
use Rattle.td_tree.proofs.Trees.{node_of}
use Rattle.td_tree.proofs.Lists.{rest_back}
use Rattle.td_tree.proofs.NodeParts.{items_at}
use Rattle.td_tree.proofs.Numbers.{number_inside}
use Rattle.td_tree.proofs.ItemKinds.{Kind, IsOpen, IsRow, IsLeaf, IsClose, IsLeafToken, kind_of, leaf_live}

-- names of tokens
pub name_open : (p : Parts) (i : Item) (r : ℕ) → token_of p i ≡ Open r → i.name ≡ 3 * r
name_open p i r e =
    let k : (i.name % 3 ≡ 0) × (i.name / 3 ≡ r) = open_kind p r (i.name % 3) (i.name / 3) i.weight
    (state_at p (i.name / 3)) (sym e) in
    let a = k.0 in
    let b = k.1 in
    omega arith

pub name_atom : (p : Parts) (i : Item) (r : ℕ) → token_of p i ≡ Atom r → i.name ≡ 3 * r + 1
name_atom p i r e =
    let k : (i.name % 3 ≡ 1) × (i.name / 3 ≡ r) = atom_kind p r (i.name % 3) (i.name / 3) i.weight
    (state_at p (i.name / 3)) (sym e) in
    let a = k.0 in
    let b = k.1 in
    omega arith

pub name_close : (p : Parts) (i : Item) (r : ℕ) → token_of p i ≡ Close r → i.name ≡ 3 * r + 2
name_close p i r e =
    let k : (i.name % 3 ≡ 2) × (i.name / 3 ≡ r) = close_kind p r (i.name % 3) (i.name / 3) i.weight
    (state_at p (i.name / 3)) (omega arith) (sym e) in
    let a = k.0 in
    let b = k.1 in
    omega arith

other_way : (x y : AtomIdValue) (o : Ordering) → id_cmp x y ≡ o → is_lt o ≡ false → x ≢ y → id_cmp y x ≡ Less
other_way x y Less e f n = absurd (true≢false f)
other_way x y Equal e f n = absurd (n (equal_ids x y e))
other_way x y Greater e f n = id_total.antisymm y x ∙ ap ordering_reverse e

-- a place, with the items behind it
pub record Behind (p : Parts) (slot : Slot) (id : AtomIdValue) (at : Option ℕ) (back : List Item) : Type 0 where
  pub place : IsPlace p slot id at
  pub back_is : place.back ≡ back

module _ (p : Parts) (t : IsTree p) where
  b : IsBrackets (table p) (tokens p)
  b = t.brackets

  pub after_item : (front : List Item) (i : Item) (back : List Item) → p.items ≡ front ++ i ∷ back
      → items_after i.name p.items ≡ back
  after_item front i back is = ap (items_after i.name) is
      ∙ after_at i.name front i back refl (λ k. apart-parts front (i ∷ back) (subst AreApart is t.apart) i.name k
      (inl refl))

  -- right behind an item
  pub behind_item : (slot : Slot) (id : AtomIdValue) (stack : List Level) (front : List Item) (i : Item)
      (back : List Item) → p.items ≡ front ++ i ∷ back
      → Standing (table p) (tokens p) stack id (tokens_of p front ++ token_of p i ∷ []) (tokens_of p back)
      → slot_path (doc_rows p) slot ≡ Some (slot_of (table p) stack)
      → (name : ℕ) → i.name ≡ name → Behind p slot id (first_name (items_after name p.items)) back
  behind_item slot id stack front i back is s there name e =
      let together : tokens_of p (front ++ i ∷ []) ≡ tokens_of p front
      ++ token_of p i ∷ [] = tokens-append p front (i ∷ []) in
      record {
        place = record {
          stack = stack;
          front = front ++ i ∷ [];
          back = back;
          is = is ∙ sym (append_assoc front (i ∷ []) back);
          here = ap first_name (sym (after_item front i back is) ∙ ap (λ (x : ℕ). items_after x p.items) e);
          moved = ap (move_all []) together ∙ s.moved;
          slot_is = there;
          before = λ q m. s.before q (subst (λ (k : List Token). In q (rows_of (table p) k)) together m);
        };
        back_is = refl;
      }

  -- right behind a token
  pub behind_token : (slot : Slot) (id : AtomIdValue) (stack : List Level) (before : List Token) (k : Token)
      (after : List Token)
      → Standing (table p) (tokens p) stack id (before ++ k ∷ []) after → slot_path (doc_rows p) slot
      ≡ Some (slot_of (table p) stack)
      → (name : ℕ) → ((i : Item) → token_of p i ≡ k → i.name ≡ name)
      → (q : IsPlace p slot id (first_name (items_after name p.items))) × (length q.back ≡ length after)
  behind_token slot id stack before k after s there name named =
      let i = items_at p p.items before k after (s.is ∙ append_assoc before (k ∷ []) after) in
      let r = behind_item slot id stack i.before i.item i.after i.is
      (subst (λ (x : List Token × List Token). Standing (table p) (tokens p) stack id x.0 x.1)
      (λ j. (sym i.before_is j ++ sym i.item_is j ∷ [], sym i.after_is j)) s) there name (named i.item i.item_is) in (
        r.place,
        ap (λ (xs : List Item). length xs) r.back_is ∙ sym (length-map i.after (token_of p))
            ∙ ap (λ (xs : List Token). length xs) i.after_is,
      )

  -- at the start of a slot

  pub root_place : (id : AtomIdValue) → IsPlace p Root id (first_name p.items)
  root_place id = record {
    stack = [];
    front = [];
    back = p.items;
    is = refl;
    here = refl;
    moved = refl;
    slot_is = refl;
    before = λ q m. absurd m;
  }

  pub open_there : (x : ℕ) → x < length p.rows → state_at p x ≡ IsNode → In (Open x) (tokens p)
  open_there x l e =
      let at : IsAt p x IsNode = subst (IsAt p x) e (t.at x l) in
      let m = map_In (λ (i : Item). i.name) (3 * x) p.items at in
      open_in m.0 m.1 m.2 (kind_of p t m.0 m.1)
    where
      open_in : (i : Item) → In i p.items → 3 * x ≡ i.name → Kind p i → In (Open x) (tokens p)
      open_in i m e (IsOpen k f) =
          let same : i.name / 3 ≡ x = omega arith in
          subst (λ (y : Token). In y (tokens p)) (f ∙ ap Open same) (In-map (token_of p) i p.items m)
      open_in i m e (IsRow k s f) = absurd (omega arith)
      open_in i m e (IsLeaf k s f) = absurd (omega arith)
      open_in i m e (IsClose k f) = absurd (omega arith)

  -- a row that is a node, with its brackets
  module _ (x : ℕ) (l : x < length p.rows) (e : state_at p x ≡ IsNode) where
    pub brackets_at : SplitAt (Open x) (tokens p)
    brackets_at = split_at (Open x) (tokens p) (open_there x l e)

    pub at_brackets : IsBrackets (table p) (brackets_at.front ++ Open x ∷ brackets_at.back)
    at_brackets = subst (IsBrackets (table p)) brackets_at.is b

    pub node_slot : (side : Bit) → slot_path (doc_rows p) (At (table p x).id side)
        ≡ Some (slot_of (table p) ((x, side) ∷ move_all [] brackets_at.front))
    node_slot side = ap (λ (q : List Token). slot_path (rows_of (table p) q) (At (table p x).id side)) brackets_at.is
        ∙ slot_is (table p) brackets_at.front brackets_at.back x at_brackets side

    pub left_place : (id : AtomIdValue) → IsPlace p (At (table p x).id Left) id
        (first_name (items_after (3 * x) p.items))
    left_place id =
        let s = brackets_at in
        let n = node s.front s.back x at_brackets.word in
        (behind_token (At (table p x).id Left) id ((x, Left) ∷ move_all [] s.front) s.front (Open x)
        (n.left ++ Atom x ∷ (n.right ++ Close x ∷ n.back))
        (subst (λ (q : List Token). Standing (table p) q ((x, Left) ∷ move_all [] s.front) id (s.front ++ Open x ∷ [])
        (n.left ++ Atom x ∷ (n.right ++ Close x ∷ n.back))) (sym s.is)
        (start_left (table p) s.front s.back x at_brackets id))
        (node_slot Left) (3 * x) (λ i f. name_open p i x f)).0

    pub right_place : (id : AtomIdValue) → IsPlace p (At (table p x).id Right) id
        (first_name (items_after (3 * x + 1) p.items))
    right_place id =
        let s = brackets_at in
        let n = node s.front s.back x at_brackets.word in
        let parts : s.front ++ Open x ∷ (n.left ++ Atom x ∷ []) ≡ (s.front ++ Open x ∷ n.left)
        ++ Atom x ∷ [] = sym (append_assoc s.front (Open x ∷ n.left) (Atom x ∷ [])) in
        (behind_token (At (table p x).id Right) id ((x, Right) ∷ move_all [] s.front) (s.front ++ Open x ∷ n.left)
        (Atom x) (n.right ++ Close x ∷ n.back)
        (subst (λ (q : List Token). Standing (table p) (tokens p) ((x, Right) ∷ move_all [] s.front) id q
        (n.right ++ Close x ∷ n.back)) parts
        (subst (λ (q : List Token). Standing (table p) q ((x, Right) ∷ move_all [] s.front) id
        (s.front ++ Open x ∷ (n.left ++ Atom x ∷ [])) (n.right ++ Close x ∷ n.back)) (sym s.is)
        (start_right (table p) s.front s.back x at_brackets id)))
        (node_slot Right) (3 * x + 1) (λ i f. name_atom p i x f)).0

    -- its other items
    pub atom_there : In (Atom x) (tokens p)
    atom_there =
        let s = brackets_at in
        let n = node s.front s.back x at_brackets.word in
        subst (In (Atom x)) (sym (s.is ∙ ap (λ (q : List Token). s.front ++ Open x ∷ q) n.is))
        (In-back (Atom x) s.front (Open x ∷ (n.left ++ Atom x ∷ (n.right ++ Close x ∷ n.back)))
        (inr (In-back (Atom x) n.left (Atom x ∷ (n.right ++ Close x ∷ n.back)) (inl refl))))

    pub close_there : In (Close x) (tokens p)
    close_there =
        let s = brackets_at in
        let n = node s.front s.back x at_brackets.word in
        subst (In (Close x)) (sym (s.is ∙ ap (λ (q : List Token). s.front ++ Open x ∷ q) n.is))
        (In-back (Close x) s.front (Open x ∷ (n.left ++ Atom x ∷ (n.right ++ Close x ∷ n.back)))
        (inr (In-back (Close x) n.left (Atom x ∷ (n.right ++ Close x ∷ n.back))
        (inr (In-back (Close x) n.right (Close x ∷ n.back) (inl refl))))))

  -- where a slot ends

  none_level : (s : ℕ) → In s [] ⊎ In s (numbers_of (tokens p)) → In s (numbers_of (tokens p))
  none_level s o = ⊎_elim (λ (k : In s []). absurd k) (λ (k : In s (numbers_of (tokens p))). k) o

  pub atom_opened : (y : ℕ) → In (Atom y) (tokens p) → In (Open y) (tokens p)
  atom_opened y m =
      let i = map_In (token_of p) (Atom y) p.items m in
      let k : (i.0.name % 3 ≡ 1) × (i.0.name / 3 ≡ y) =
      atom_kind p y (i.0.name % 3) (i.0.name / 3) i.0.weight (state_at p (i.0.name / 3)) i.2 in
      at i.0 i.1 i.2 k.1 (kind_of p t i.0 i.1)
    where
      at : (i : Item) → In i p.items → Atom y ≡ token_of p i → i.name / 3 ≡ y → Kind p i → In (Open y) (tokens p)
      at i m f g (IsOpen k h) = absurd (no (i.name / 3) (f ∙ h))
        where
          no : (r : ℕ) → Atom y ≡ Open r → ⊥
          no r e = cc
      at i m f g (IsRow k s h) = open_there y (subst (λ (x : ℕ). x < length p.rows) g (t.each i m).known)
          (subst (λ (x : ℕ). state_at p x ≡ IsNode) g s)
      at i m f g (IsLeaf k s h) = absurd (no (h.before ++ i.name / 3 ∷ h.after) (f ∙ h.is))
        where
          no : (rs : List ℕ) → Atom y ≡ Leaf rs → ⊥
          no rs e = cc
      at i m f g (IsClose k h) = absurd (no (i.name / 3) (f ∙ h))
        where
          no : (r : ℕ) → Atom y ≡ Close r → ⊥
          no r e = cc

  close_opened : (i : Item) → In i p.items → i.name % 3 ≡ 2 → In (Open (i.name / 3)) (tokens p)
  close_opened i m e =
      let tok = t.each i m in
      open_there (i.name / 3) tok.known (kind_two (i.name % 3) e tok.kind)
    where
      kind_two : (k : ℕ) → k ≡ 2 → IsKind p k (state_at p (i.name / 3)) i.weight → state_at p (i.name / 3) ≡ IsNode
      kind_two zero e h = h
      kind_two (suc zero) e h = absurd (omega arith)
      kind_two (suc (suc k)) e h = h

  module _ (stack : List Level) (id : AtomIdValue) (front rest : List Token) (y : ℕ) (opened : In (Open y) (tokens p))
    where
      s : SplitAt (Open y) (tokens p)
      s = split_at (Open y) (tokens p) opened

      b' : IsBrackets (table p) (s.front ++ Open y ∷ s.back)
      b' = subst (IsBrackets (table p)) s.is b

      n : Node y s.front s.back
      n = node s.front s.back y b'.word

      pub end_at_atom : Standing (table p) (tokens p) stack id front (Atom y ∷ rest)
          → AllAfter (table p) stack id (Atom y ∷ rest)
      end_at_atom st =
          let parts : tokens p ≡ (s.front ++ Open y ∷ n.left) ++ Atom y ∷ (n.right ++ Close y ∷ n.back) = s.is
          ∙ ap (λ (q : List Token). s.front ++ Open y ∷ q) n.is
          ∙ sym (append_assoc s.front (Open y ∷ n.left) (Atom y ∷ (n.right ++ Close y ∷ n.back))) in
          let u = split_unique (s.front ++ Open y ∷ n.left) front (n.right ++ Close y ∷ n.back) rest (Atom y)
          (subst (Successive (λ (c d : Token). c ≢ d)) parts b.once) (sym parts ∙ st.is) in
          let level : stack ≡ (y, Left) ∷ move_all [] s.front = sym st.moved ∙ ap (move_all []) (sym u.0)
          ∙ move-append [] s.front (Open y ∷ n.left) ∙ word_moves ((y, Left) ∷ move_all [] s.front) n.left
          n.left_word in
          let q : Standing (table p) (s.front ++ Open y ∷ s.back) ((y, Left) ∷ move_all [] s.front) id front
          (Atom y ∷ rest) =
          subst (λ (k : List Level). Standing (table p) (s.front ++ Open y ∷ s.back) k id front (Atom y ∷ rest)) level
          (subst (λ (k : List Token). Standing (table p) k stack id front (Atom y ∷ rest)) s.is st) in
          subst (λ (k : List Level). AllAfter (table p) k id (Atom y ∷ rest)) (sym level)
          (end_left (table p) s.front s.back y b' id front rest q)

      pub end_at_close : Standing (table p) (tokens p) stack id front (Close y ∷ rest)
          → AllAfter (table p) stack id (Close y ∷ rest)
      end_at_close st =
          let parts : tokens p ≡ (s.front ++ Open y ∷ (n.left ++ Atom y ∷ n.right)) ++ Close y ∷ n.back = s.is
          ∙ ap (λ (q : List Token). s.front ++ Open y ∷ q) n.is ∙ regroup s.front n.left n.right n.back in
          let u = split_unique (s.front ++ Open y ∷ (n.left ++ Atom y ∷ n.right)) front n.back rest (Close y)
          (subst (Successive (λ (c d : Token). c ≢ d)) parts b.once) (sym parts ∙ st.is) in
          let level : stack ≡ (y, Right) ∷ move_all [] s.front =
          sym st.moved ∙ ap (move_all []) (sym u.0) ∙ move-append [] s.front (Open y ∷ (n.left ++ Atom y ∷ n.right))
          ∙ move-append ((y, Left) ∷ move_all [] s.front) n.left (Atom y ∷ n.right)
          ∙ ap (λ (k : List Level). move_all k (Atom y ∷ n.right))
          (word_moves ((y, Left) ∷ move_all [] s.front) n.left n.left_word)
          ∙ word_moves ((y, Right) ∷ move_all [] s.front) n.right n.right_word in
          let q : Standing (table p) (s.front ++ Open y ∷ s.back) ((y, Right) ∷ move_all [] s.front) id front
          (Close y ∷ rest) =
          subst (λ (k : List Level). Standing (table p) (s.front ++ Open y ∷ s.back) k id front (Close y ∷ rest)) level
          (subst (λ (k : List Token). Standing (table p) k stack id front (Close y ∷ rest)) s.is st) in
          subst (λ (k : List Level). AllAfter (table p) k id (Close y ∷ rest)) (sym level)
          (end_right (table p) s.front s.back y b' id front rest q)
        where
          regroup : (f a c d : List Token) → f ++ Open y ∷ (a ++ Atom y ∷ (c ++ Close y ∷ d))
              ≡ (f ++ Open y ∷ (a ++ Atom y ∷ c)) ++ Close y ∷ d
          regroup f a c d = simp append_assoc

-- the walk

-- the token at a place
pub record Here (back : List Item) (name : ℕ) : Type 0 where
  pub item : Item
  pub rest : List Item
  pub is : back ≡ item ∷ rest
  pub named : item.name ≡ name

pub here_of : (back : List Item) (name : ℕ) → first_name back ≡ Some name → Here back name
here_of [] name e = absurd (none-some name e)
here_of (i ∷ back) name e = record { item = i; rest = back; is = refl; named = same_Some i.name name e }

pub nothing_there : (back : List Item) → first_name back ≡ None → back ≡ []
nothing_there [] e = refl
nothing_there (i ∷ back) e = absurd (none-some i.name (sym e))

module _ (p : Parts) (t : IsTree p) (slot : Slot) (id : AtomIdValue) (at : Option ℕ) (pl : IsPlace p slot id at)
    (name : ℕ) (is : at ≡ Some name) where
  abbrev k : Here pl.back name
  k = here_of pl.back name (pl.here ∙ is)

  parts : p.items ≡ pl.front ++ k.item ∷ k.rest
  parts = pl.is ∙ ap (λ (q : List Item). pl.front ++ q) k.is

  pub item_in : In k.item p.items
  item_in = subst (In k.item) (sym parts) (In-back k.item pl.front (k.item ∷ k.rest) (inl refl))

  pub stands_there : IsItem name p.items
  stands_there = subst (λ (x : ℕ). IsItem x p.items) k.named (In-map (λ (i : Item). i.name) k.item p.items item_in)

  standing : Standing (table p) (tokens p) pl.stack id (tokens_of p pl.front) (token_of p k.item ∷ tokens_of p k.rest)
  standing = record {
    is = ap (tokens_of p) parts ∙ tokens-append p pl.front (k.item ∷ k.rest);
    moved = pl.moved;
    before = pl.before;
  }

  standing_as : (u : Token) → token_of p k.item ≡ u
      → Standing (table p) (tokens p) pl.stack id (tokens_of p pl.front) (u ∷ tokens_of p k.rest)
  standing_as u e = subst (λ (v : Token). Standing (table p) (tokens p) pl.stack id (tokens_of p pl.front)
      (v ∷ tokens_of p k.rest)) e standing

  -- over a smaller sibling
  abbrev Further : ℕ → Type 0
  Further end = (q : IsPlace p slot id (first_name (items_after end p.items))) × (length q.back < length pl.back)

  over_row : (r : ℕ) → token_of p k.item ≡ Open r → id_cmp (table p r).id id ≡ Less
      → (q : IsPlace p slot id (first_name (items_after (3 * r + 2) p.items))) × (length q.back < length pl.back)
  over_row r e less =
      let st = standing_as (Open r) e in
      let n : Node r (tokens_of p pl.front) (tokens_of p k.rest) =
      node (tokens_of p pl.front) (tokens_of p k.rest) r (subst IsWord st.is t.brackets.word) in
      let closes : tokens_of p pl.front ++ whole r n.left n.right
      ≡ (tokens_of p pl.front ++ Open r ∷ (n.left ++ Atom r ∷ n.right))
      ++ Close r ∷ [] = regroup (tokens_of p pl.front) n.left n.right in
      let q : (q : IsPlace p slot id (first_name (items_after (3 * r + 2) p.items))) × (length q.back ≡ length n.back) =
      behind_token p t slot id pl.stack (tokens_of p pl.front ++ Open r ∷ (n.left ++ Atom r ∷ n.right)) (Close r) n.back
      (subst (λ (q : List Token). Standing (table p) (tokens p) pl.stack id q n.back) closes
      (over_sibling (table p) (tokens p) pl.stack id r (tokens_of p pl.front) (tokens_of p k.rest) st less n))
      pl.slot_is
      (3 * r + 2) (λ i f. name_close p i r f) in
      let all = ap length n.is in
      let one = length-append n.left (Atom r ∷ (n.right ++ Close r ∷ n.back)) in
      let two = length-append n.right (Close r ∷ n.back) in
      let rest = length-map k.rest (token_of p) in
      let whole_back = ap length k.is in (
        q.0,
        less_than (length q.0.back) (length n.back) (length k.rest) (length pl.back) q.1 (omega arith)
            (omega arith),
      )
    where
      less_than : (a b c d : ℕ) → a ≡ b → b < c → c < d → a < d
      less_than a b c d e f g = omega arith

      regroup : (f c d : List Token) → f ++ Open r ∷ (c ++ Atom r ∷ (d ++ Close r ∷ []))
          ≡ (f ++ Open r ∷ (c ++ Atom r ∷ d)) ++ Close r ∷ []
      regroup f c d = simp append_assoc

  over_a_leaf : (r : ℕ) (l : IsLeafToken p (token_of p k.item) r) → id_cmp (table p r).id id ≡ Less
      → (q : IsPlace p slot id (first_name (items_after name p.items))) × (length q.back < length pl.back)
  over_a_leaf r l less =
      let rs : List ℕ = l.before ++ r ∷ l.after in
      let st = standing_as (Leaf rs) l.is in
      let q = behind_item p t slot id pl.stack pl.front k.item k.rest parts
      (subst (λ (v : Token). Standing (table p) (tokens p) pl.stack id (tokens_of p pl.front ++ v ∷ [])
      (tokens_of p k.rest)) (sym l.is)
      (over_leaf (table p) (tokens p) pl.stack id l.before r l.after l.half (leaf_live p t k.item item_in r l)
      (tokens_of p pl.front) (tokens_of p k.rest) st less)) pl.slot_is name k.named in
      let same = ap (λ (xs : List Item). length xs) q.back_is in
      let whole_back = ap length k.is in
      (q.place, omega arith)

  pub over : (end : ℕ) → IsSmaller p id name end → (q : IsPlace p slot id (first_name (items_after end p.items)))
      × (length q.back < length pl.back)
  over end s = over_kind (kind_of p t k.item item_in)
    where
      less : id_cmp (table p (k.item.name / 3)).id id ≡ Less
      less = subst (λ (x : ℕ). id_cmp (table p (x / 3)).id id ≡ Less) (sym k.named) s.0

      over_kind : Kind p k.item → Further end
      over_kind (IsOpen e f) =
          let name_is = k.named in
          let ends : 3 * (k.item.name / 3) + 2 ≡ end =
          ⊎_elim (λ (o : (name % 3 ≡ 0) × (end ≡ name + 2)). let q = o.1 in omega arith)
          (λ (o : (name % 3 ≡ 1) × (state_at p (name / 3) ≢ IsNode) × (end ≡ name)). let q = o.0 in
          absurd (omega arith)) s.1 in
          subst Further ends (over_row (k.item.name / 3) f less)
      over_kind (IsRow e g f) =
          let name_is = k.named in
          ⊎_elim (λ (o : (name % 3 ≡ 0) × (end ≡ name + 2)). let q = o.0 in absurd (omega arith))
          (λ (o : (name % 3 ≡ 1) × (state_at p (name / 3) ≢ IsNode) × (end ≡ name)). absurd
          (o.1 (ap (λ (x : ℕ). state_at p (x / 3)) (sym k.named) ∙ g))) s.1
      over_kind (IsLeaf e g l) =
          let name_is = k.named in
          let ends : name ≡ end =
          ⊎_elim (λ (o : (name % 3 ≡ 0) × (end ≡ name + 2)). let q = o.0 in absurd (omega arith))
          (λ (o : (name % 3 ≡ 1) × (state_at p (name / 3) ≢ IsNode) × (end ≡ name)). sym o.2) s.1 in
          subst Further ends (over_a_leaf (k.item.name / 3) l less)
      over_kind (IsClose e f) =
          let name_is = k.named in
          ⊎_elim (λ (o : (name % 3 ≡ 0) × (end ≡ name + 2)). let q = o.0 in absurd (omega arith))
          (λ (o : (name % 3 ≡ 1) × (state_at p (name / 3) ≢ IsNode) × (end ≡ name)). let q = o.0 in
          absurd (omega arith)) s.1

  -- the last of its tokens stands there
  pub end_there : (end : ℕ) → IsSmaller p id name end → IsItem end p.items
  end_there end s =
      ⊎_elim
      (λ (o : (name % 3 ≡ 0) × (end ≡ name + 2)).
      let r : ℕ = k.item.name / 3 in
      let name_is = k.named in
      let zero_is = o.0 in
      let end_is = o.1 in
      let ends : 3 * r + 2 ≡ end = omega arith in
      subst (λ (x : ℕ). IsItem x p.items) ends (close_name p p.items r
      (close_there p t r (t.each k.item item_in).known (node_of p t k.item item_in (λ e. omega arith)))))
      (λ (o : (name % 3 ≡ 1) × (state_at p (name / 3) ≢ IsNode) × (end ≡ name)). subst (λ (x : ℕ). IsItem x p.items)
      (sym o.2) stands_there) s.1

  pub row_known : name / 3 < length p.rows
  row_known = subst (λ (x : ℕ). x / 3 < length p.rows) k.named (t.each k.item item_in).known

  -- where the walk ends
  known : IsNone (find_row id (doc_rows p)) → (r : ℕ) → In r (numbers_of (tokens p)) → (table p r).id ≢ id
  known unknown r m e =
      let h = number_row (table p) (tokens p) r t.brackets m in
      fresh id (doc_rows p) unknown h.one h.inside (sym (h.is ∙ e))

  number_in : (r : ℕ) → In r (numbers_at (token_of p k.item)) → In r (numbers_of (tokens p))
  number_in r m = number_inside p p.items k.item r item_in m

  pub stops : IsNone (find_row id (doc_rows p)) → IsNotSmaller p id name → IsNewPlace p slot id at
  stops unknown last = record {
    place = pl;
    after = subst (AllAfter (table p) pl.stack id) (sym (ap (tokens_of p) k.is)) (behind (kind_of p t k.item item_in));
  }
    where
      not_less : (k.item.name % 3 ≢ 2) → (k.item.name % 3 ≡ 1 → state_at p (k.item.name / 3) ≢ IsNode)
          → is_lt (id_cmp (table p (k.item.name / 3)).id id) ≡ false
      not_less = subst (IsNotSmaller p id) (sym k.named) last

      behind : Kind p k.item → AllAfter (table p) pl.stack id (token_of p k.item ∷ tokens_of p k.rest)
      behind (IsOpen e f) =
          let r : ℕ = k.item.name / 3 in
          let low = not_less (λ z. omega arith) (λ z. absurd (omega arith)) in
          let other = known unknown r (number_in r (subst (λ (u : Token). In r (numbers_at u)) (sym f) (inl refl))) in
          subst (λ (u : Token). AllAfter (table p) pl.stack id (u ∷ tokens_of p k.rest)) (sym f)
          (at_sibling (table p) (tokens p) pl.stack id r (tokens_of p pl.front) (tokens_of p k.rest) t.brackets
          (standing_as (Open r) f) (other_way (table p r).id id (id_cmp (table p r).id id) refl low other))
      behind (IsRow e g f) =
          let r : ℕ = k.item.name / 3 in
          subst (λ (u : Token). AllAfter (table p) pl.stack id (u ∷ tokens_of p k.rest)) (sym f)
          (end_at_atom p t pl.stack id (tokens_of p pl.front) (tokens_of p k.rest) r
          (open_there p t r (t.each k.item item_in).known g) (standing_as (Atom r) f))
      behind (IsLeaf e g l) =
          let r : ℕ = k.item.name / 3 in
          let rs : List ℕ = l.before ++ r ∷ l.after in
          let low = not_less (λ z. omega arith) (λ z. g) in
          let other = known unknown r (number_in r (subst (λ (u : Token). In r (numbers_at u)) (sym l.is)
          (In-back r l.before (r ∷ l.after) (inl refl)))) in
          subst (λ (u : Token). AllAfter (table p) pl.stack id (u ∷ tokens_of p k.rest)) (sym l.is)
          (at_leaf (table p) (tokens p) pl.stack id l.before r l.after l.half (leaf_live p t k.item item_in r l)
          (tokens_of p pl.front) (tokens_of p k.rest) t.brackets (standing_as (Leaf rs) l.is)
          (other_way (table p r).id id (id_cmp (table p r).id id) refl low other))
      behind (IsClose e f) =
          let r : ℕ = k.item.name / 3 in
          subst (λ (u : Token). AllAfter (table p) pl.stack id (u ∷ tokens_of p k.rest)) (sym f)
          (end_at_close p t pl.stack id (tokens_of p pl.front) (tokens_of p k.rest) r
          (close_opened p t k.item item_in e) (standing_as (Close r) f))

-- at the end of the list
pub stops_at_end : (p : Parts) (slot : Slot) (id : AtomIdValue) → (pl : IsPlace p slot id None)
    → IsNewPlace p slot id None
stops_at_end p slot id pl = record {
  place = pl;
  after = λ q i. absurd (subst (λ (l : List Item). In q (rows_from (table p) pl.stack (tokens_of p l)))
      (nothing_there pl.back pl.here) i);
}

-- what is behind a place
pub place_rest : (p : Parts) (t : IsTree p) (slot : Slot) (id : AtomIdValue) (at : Option ℕ)
    (pl : IsPlace p slot id at) → items_from_end at p.items ≡ pl.back
place_rest p t slot id at pl = (λ i. items_from_end (sym pl.here i) (pl.is i))
    ∙ rest_back pl.front pl.back (subst AreApart pl.is t.apart)
