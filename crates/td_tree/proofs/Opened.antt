-- A leaf opened: its middle row becomes a node, with a leaf on each side.
use Rattle.std.proofs.Common.{◌≡◌, ◌≢◌, ◌⊎◌, ◌+◌, ◌-◌, ◌*◌, ◌/◌, ◌<◌, ◌≤◌, ℕ, zero, suc, List, [], ◌∷◌, ◌++◌, length}
use Rattle.std.proofs.Common.{get_or, set, refl, sym, ap, ◌∙◌, subst, inl, inr, ⊎_elim, arith, length-append}
use Rattle.std.proofs.lemmas.List.{get_or-set_same, get_or-set_other, length-set}
use Rattle.std.proofs.lemmas.Bool.{cases_eq}
use Rattle.td_base.specs.Lists.{In}
use Rattle.td_base.proofs.Lists.{In-append, In-front, In-back, map_In}
use Rattle.td_list.specs.Items.{Item, IsItem, AreApart, AreNew, weight_of}
use Rattle.td_list.proofs.Names.{weight-append, apart-between, apart-ends, item-append, item-front, item-back}
use Rattle.td_brackets.specs.Brackets.{Token, Atom, Close, Leaf, Entry, numbers_at, numbers_of, rows_of, IsBrackets}
use Rattle.td_doc.specs.Document.{DocRow}
use Rattle.td_brackets.specs.Laws.{leaf_word, whole, exploded}
use Rattle.td_brackets.proofs.NodeRows.{numbers-append}
use Rattle.td_brackets.proofs.Leaves.{explode}
use Rattle.td_brackets.proofs.Once.{explode_brackets}
use Rattle.td_tree.specs.declared.tree_row.RowState.{RowState}
use Rattle.td_tree.specs.declared.tree_row.RowState.TheVariants.{Node, InArray, Gone}
use Rattle.td_tree.specs.Parts.{RowValue, Parts, nobody, row_at, state_at, table, array_at, part, row_of_array}
use Rattle.td_tree.specs.Parts.{token_of, tokens_of, tokens, doc_rows, nodes_of, IsPart, IsToken, open_item}
use Rattle.td_tree.specs.Parts.{atom_item, close_item, leaf_item, leaf_items, node_items, Cut, OneLeaf, NoRows, InTwo}
use Rattle.td_tree.specs.Parts.{IsAt, IsTree}
use Rattle.td_tree.proofs.ArrayParts.{part_in, part_length, part_halves, part_place}
use Rattle.td_tree.proofs.ItemTokens.{leaf_token, tokens-append, Grows, Unmoved, part_stays, item_stays, tokens_stay}
use Rattle.td_tree.proofs.Cuts.{cut_map}
use Rattle.td_tree.proofs.Pieces.{nodes-append, leaf_word_numbers, leaf_word_nodes, open_is_token, close_is_token}
use Rattle.td_tree.proofs.Pieces.{live_is_token, leaf_items_tokens, leaf_items_are, leaf_items_weigh}
use Rattle.td_tree.proofs.Pieces.{leaf_items_apart, leaf_items_name, leaf_items_in, node_items_tokens, node_items_in}
use Rattle.td_tree.proofs.Pieces.{node_items_names, node_items_weigh, OtherRows, node_items_apart}
use Rattle.td_tree.proofs.Numbers.{number_inside, stands_once}
use Rattle.td_tree.proofs.Trees.{array_index, own_number}

-- a leaf opened: its middle row is a node, with what stood before it and after it as leaves
pub record IsOpened (p q : Parts) (a from n : ℕ) : Type 0 where
  pub tree : IsTree q
  pub rows : doc_rows q ≡ doc_rows p
  pub entries : table q ≡ table p
  pub long : length q.rows ≡ length p.rows
  pub node : state_at q (row_of_array p a (from + n / 2)) ≡ Node
  pub others : (r : ℕ) → r ≢ row_of_array p a (from + n / 2) → row_at q r ≡ row_at p r
  pub arrays : q.arrays ≡ p.arrays
  pub before : 0 < n / 2 → IsPart q a from (n / 2) × In (leaf_item q a from (n / 2)) q.items
  pub after : 0 < n - n / 2 - 1 → IsPart q a (from + n / 2 + 1) (n - n / 2 - 1)
      × In (leaf_item q a (from + n / 2 + 1) (n - n / 2 - 1)) q.items
  pub nodes : q.nodes ≡ p.nodes + 1

node_no_array : (a i : ℕ) → Node ≡ InArray a i → ⊥
node_no_array a i e = cc

module _ (p : Parts) (t : IsTree p) (a from n : ℕ) (l : IsPart p a from n) (front back : List Item)
    (is : p.items ≡ front ++ leaf_item p a from n ∷ back) where
  abbrev arr : List ℕ
  arr = array_at p a

  abbrev h : ℕ
  h = n / 2

  abbrev k : ℕ
  k = n - n / 2 - 1

  abbrev c : ℕ
  c = from + n / 2

  abbrev top : ℕ
  top = row_of_array p a (from + n / 2)

  abbrev B : List ℕ
  B = part (array_at p a) from (n / 2)

  abbrev A : List ℕ
  A = part (array_at p a) (from + n / 2 + 1) (n - n / 2 - 1)

  abbrev left : List Item
  left = leaf_items p a from (n / 2)

  abbrev right : List Item
  right = leaf_items p a (from + n / 2 + 1) (n - n / 2 - 1)

  abbrev pub opened_piece : List Item
  opened_piece = node_items (row_of_array p a (from + n / 2)) (leaf_items p a from (n / 2))
      (leaf_items p a (from + n / 2 + 1) (n - n / 2 - 1))

  abbrev pub opened : Parts
  opened = record {
    items = front ++ (node_items (row_of_array p a (from + n / 2)) (leaf_items p a from (n / 2))
        (leaf_items p a (from + n / 2 + 1) (n - n / 2 - 1)) ++ back);
    rows = set p.rows (row_of_array p a (from + n / 2))
        (record { entry = table p (row_of_array p a (from + n / 2)); state = Node });
    arrays = p.arrays;
    nodes = p.nodes + 1;
    count = p.count;
  }

  some : 0 < n
  some = l.some

  top_state : state_at p top ≡ InArray a c
  top_state = l.stand c (omega (arith, some)) (omega (arith, some))

  pub top_below : top < length p.rows
  top_below = let w = l.within in t.named a c l.array (omega (arith, some))

  halves : part arr from n ≡ B ++ top ∷ A
  halves = part_halves arr from n some l.within

  leaf_is : token_of p (leaf_item p a from n) ≡ Leaf (B ++ top ∷ A)
  leaf_is = leaf_token p a from n l ∙ ap Leaf halves

  tokens_are : tokens p ≡ tokens_of p front ++ Leaf (B ++ top ∷ A) ∷ tokens_of p back
  tokens_are = ap (tokens_of p) is ∙ tokens-append p front (leaf_item p a from n ∷ back)
      ∙ ap (λ (x : Token). tokens_of p front ++ x ∷ tokens_of p back) leaf_is

  was : IsBrackets (table p) (tokens_of p front ++ Leaf (B ++ top ∷ A) ∷ tokens_of p back)
  was = subst (IsBrackets (table p)) tokens_are t.brackets

  half : length B ≡ length (B ++ top ∷ A) / 2
  half =
      let w = l.within in
      part_length arr from h (omega arith) ∙ ap (λ (m : ℕ). m / 2)
      (sym (part_length arr from n l.within) ∙ ap length halves)

  live : (table p top).deletes ≡ []
  live = was.live (B ++ top ∷ A) top (In-back (Leaf (B ++ top ∷ A)) (tokens_of p front)
      (Leaf (B ++ top ∷ A) ∷ tokens_of p back) (inl refl)) (In-back top B (top ∷ A) (inl refl))

  -- the leaf's rows are nowhere else
  abbrev Beside : Item → Type 0
  Beside i = In i front ⊎ In i back

  there : (i : Item) → Beside i → In i p.items
  there i b = subst (In i) (sym is) (⊎_elim (λ (m : In i front). In-front i front (leaf_item p a from n ∷ back) m)
      (λ (m : In i back). In-back i front (leaf_item p a from n ∷ back) (inr m)) b)

  once : (x : ℕ) (i : Item) → In x (part arr from n) → Beside i → In x (numbers_at (token_of p i)) → ⊥
  once x i m b j =
      stands_once (table p) (tokens_of p front) (Leaf (B ++ top ∷ A) ∷ []) (tokens_of p back) x was.apart
      (In-front x (B ++ top ∷ A) [] (subst (In x) halves m))
      (⊎_elim (λ (f : In i front). inl (number_inside p front i x f j))
      (λ (f : In i back). inr (number_inside p back i x f j)) b)

  not_own : (x : ℕ) (i : Item) → In x (part arr from n) → Beside i → x ≢ i.name / 3
  not_own x i m b e =
      let s : (d : ℕ) × (from ≤ d) × (d < from + n) × (x ≡ get_or arr d 0) = part_place arr from n x m in
      let state : state_at p (i.name / 3) ≡ InArray a s.0 = ap (state_at p) (sym e ∙ s.3) ∙ l.stand s.0 s.1 s.2 in
      once x i m b (subst (λ (y : ℕ). In y (numbers_at (token_of p i))) (sym e)
      (own_number p t i a s.0 (there i b) state).1)

  top_in : In top (part arr from n)
  top_in = part_in arr from n c (omega (arith, some)) (omega (arith, some)) l.within

  -- what stays
  pub others : (r : ℕ) → r ≢ top → row_at opened r ≡ row_at p r
  others r d = get_or-set_other p.rows top r (record { entry = table p top; state = Node }) nobody d

  pub now : row_at opened top ≡ record { entry = table p top; state = Node }
  now = get_or-set_same p.rows top (record { entry = table p top; state = Node }) nobody top_below

  pub entries : (r : ℕ) → table opened r ≡ table p r
  entries r = ⊎_elim (λ (e : r ≡ top). ap (table opened) e ∙ ap (λ (v : RowValue). v.entry) now
      ∙ ap (table p) (sym e)) (λ (d : r ≢ top). ap (λ (v : RowValue). v.entry) (others r d)) (cases_eq r top)

  same_table : table opened ≡ table p
  same_table = λ i r. entries r i

  long : length opened.rows ≡ length p.rows
  long = length-set p.rows top (record { entry = table p top; state = Node })

  grows : Grows p opened
  grows = record { rows = omega (arith, long); arrays = omega arith; same = λ b m. refl }

  unmoved : (i : Item) → Beside i → Unmoved p opened i
  unmoved i b r m =
      others r (λ e. ⊎_elim (λ (f : r ≡ i.name / 3). not_own top i top_in b (sym e ∙ f))
      (λ (j : In r (numbers_at (token_of p i))). once top i top_in b
      (subst (λ (y : ℕ). In y (numbers_at (token_of p i))) e j)) m)

  stay : (items : List Item) → ((i : Item) → In i items → Beside i) → tokens_of opened items ≡ tokens_of p items
  stay items g = tokens_stay p opened grows items (λ i m. (t.each i (there i (g i m)), unmoved i (g i m)))

  -- the halves are leaves
  in_half : (f m : ℕ) → 0 < m → from ≤ f → f + m ≤ from + n → ((f + m ≤ c) ⊎ (c < f)) → IsPart opened a f m
  in_half f m s lo hi out =
      let w = l.within in
      record {
        array = l.array;
        some = s;
        within = omega arith;
        stand = λ d b e. ap (λ (v : RowValue). v.state)
            (others (row_of_array p a d) (λ g. middle d b e
            (array_index a d a c (sym (l.stand d (omega arith) (omega arith)) ∙ ap (state_at p) g ∙ top_state)).1))
            ∙ l.stand d (omega arith) (omega arith);
      }
    where
      middle : (d : ℕ) → f ≤ d → d < f + m → d ≡ c → ⊥
      middle d b e g = ⊎_elim (λ (o : f + m ≤ c). contra_one d b e g o) (λ (o : c < f). contra_two d b e g o) out
        where
          contra_one : (d : ℕ) → f ≤ d → d < f + m → d ≡ c → f + m ≤ c → ⊥
          contra_one d b e g o = omega arith

          contra_two : (d : ℕ) → f ≤ d → d < f + m → d ≡ c → c < f → ⊥
          contra_two d b e g o = omega arith

  pub before_part : 0 < n / 2 → IsPart opened a from (n / 2)
  before_part s = in_half from (n / 2) s (omega arith) (omega arith) (inl (omega arith))

  pub after_part : 0 < n - n / 2 - 1 → IsPart opened a (from + n / 2 + 1) (n - n / 2 - 1)
  after_part s = in_half (from + n / 2 + 1) (n - n / 2 - 1) s (omega arith) (omega arith) (inr (omega arith))

  half_below : (f m : ℕ) → 0 < m → from ≤ f → f + m ≤ from + n → row_of_array p a (f + m / 2) < length opened.rows
  half_below f m s lo hi = let w = l.within in let b = t.named a (f + m / 2) l.array (omega arith) in
      omega (arith, long)

  node : state_at opened top ≡ Node
  node = ap (λ (v : RowValue). v.state) now

  piece_tokens : tokens_of opened opened_piece ≡ exploded B top A
  piece_tokens =
      node_items_tokens opened top left right node
      ∙ (λ i. whole top (leaf_items_tokens opened a from (n / 2) before_part i)
      (leaf_items_tokens opened a (from + n / 2 + 1) (n - n / 2 - 1) after_part i))

  pub opened_tokens : tokens opened ≡ tokens_of p front ++ (exploded B top A ++ tokens_of p back)
  opened_tokens =
      tokens-append opened front (opened_piece ++ back)
      ∙ ap (λ (q : List Token). tokens_of opened front ++ q) (tokens-append opened opened_piece back)
      ∙ (λ i. stay front (λ j m. inl m) i ++ (piece_tokens i ++ stay back (λ j m. inr m) i))

  pub opened_brackets : IsBrackets (table opened) (tokens opened)
  opened_brackets = subst (λ (f : ℕ → Entry). IsBrackets f (tokens opened)) (sym same_table)
      (subst (IsBrackets (table p)) (sym opened_tokens)
      (explode_brackets (table p) (tokens_of p front) (tokens_of p back) B top A half was))

  pub opened_rows : doc_rows opened ≡ doc_rows p
  opened_rows =
      (λ i. rows_of (same_table i) (opened_tokens i))
      ∙ sym (explode (table p) [] (tokens_of p front) (tokens_of p back) B top A half live)
      ∙ ap (rows_of (table p)) (sym tokens_are)

  -- the items
  in_piece : (i : Item) → In i opened_piece → IsToken opened i
  in_piece i m =
      ⊎_elim (λ (e : i ≡ open_item top). subst (IsToken opened) (sym e)
      (open_is_token opened top (omega (arith, long, top_below)) node))
      (λ (x : (i ≡ atom_item top 1) ⊎ ((i ≡ close_item top) ⊎ (In i left ⊎ In i right))).
      ⊎_elim (λ (e : i ≡ atom_item top 1). subst (IsToken opened) (sym e)
      (live_is_token opened top (omega (arith, long, top_below)) node
      (ap (λ (v : Entry). v.deletes) (entries top) ∙ live)))
      (λ (y : (i ≡ close_item top) ⊎ (In i left ⊎ In i right)).
      ⊎_elim (λ (e : i ≡ close_item top). subst (IsToken opened) (sym e)
      (close_is_token opened top (omega (arith, long, top_below)) node))
      (λ (z : In i left ⊎ In i right).
      ⊎_elim (λ (o : In i left). leaf_items_are opened a from (n / 2)
      (λ s. (before_part s, half_below from (n / 2) s (omega arith) (omega arith))) i o)
      (λ (o : In i right). leaf_items_are opened a (from + n / 2 + 1) (n - n / 2 - 1)
      (λ s. (after_part s, half_below (from + n / 2 + 1) (n - n / 2 - 1) s (omega arith) (omega arith))) i o) z)
      y) x) (node_items_in top left right i m)

  each : (i : Item) → In i opened.items → IsToken opened i
  each i m =
      ⊎_elim (λ (f : In i front). item_stays p opened grows i (t.each i (there i (inl f))) (unmoved i (inl f)))
      (λ (x : In i (opened_piece ++ back)).
      ⊎_elim (λ (f : In i opened_piece). in_piece i f)
      (λ (f : In i back). item_stays p opened grows i (t.each i (there i (inr f))) (unmoved i (inr f)))
      (In-append i opened_piece back x))
      (In-append i front (opened_piece ++ back) m)

  -- names
  parts_apart : AreApart (front ++ leaf_item p a from n ∷ back)
  parts_apart = subst AreApart is t.apart

  pub beside_apart : AreApart (front ++ back)
  beside_apart = apart-ends front (leaf_item p a from n ∷ []) back parts_apart

  half_row : (f m x : ℕ) → 0 < m → from ≤ f → f + m ≤ from + n → x ≡ row_of_array p a (f + m / 2)
      → In x (part arr from n) × (state_at p x ≡ InArray a (f + m / 2))
  half_row f m x s lo hi e = (
    subst (λ (y : ℕ). In y (part arr from n)) (sym e)
        (part_in arr from n (f + m / 2) (omega arith) (omega arith) l.within),
    ap (state_at p) e ∙ l.stand (f + m / 2) (omega arith) (omega arith),
  )

  not_top : (f m x : ℕ) → state_at p x ≡ InArray a (f + m / 2) → (f + m / 2 ≢ c) → x ≢ top
  not_top f m x s d e = d (array_index a (f + m / 2) a c (sym s ∙ ap (state_at p) e ∙ top_state)).1

  left_others : OtherRows top left
  left_others x i =
      let r = leaf_items_name p a from (n / 2) x i in (
        row_of_array p a (from + n / 2 / 2),
        r.1,
        not_top from (n / 2) (row_of_array p a (from + n / 2 / 2))
            (half_row from (n / 2) (row_of_array p a (from + n / 2 / 2)) r.0 (omega arith) (omega arith) refl).1
            (differ r.0),
      )
    where
      differ : 0 < n / 2 → from + n / 2 / 2 ≢ from + n / 2
      differ s e = omega arith

  right_others : OtherRows top right
  right_others x i =
      let r = leaf_items_name p a (from + n / 2 + 1) (n - n / 2 - 1) x i in
      let y : ℕ = row_of_array p a (from + n / 2 + 1 + (n - n / 2 - 1) / 2) in (
        y,
        r.1,
        not_top (from + n / 2 + 1) (n - n / 2 - 1) y
            (half_row (from + n / 2 + 1) (n - n / 2 - 1) y r.0 (omega arith) (omega arith) refl).1 (differ r.0),
      )
    where
      differ : 0 < n - n / 2 - 1 → from + n / 2 + 1 + (n - n / 2 - 1) / 2 ≢ from + n / 2
      differ s e = omega arith

  sides_apart : (x : ℕ) → IsItem x left → IsItem x right → ⊥
  sides_apart x i j =
      let r = leaf_items_name p a from (n / 2) x i in
      let s = leaf_items_name p a (from + n / 2 + 1) (n - n / 2 - 1) x j in
      let u : ℕ = row_of_array p a (from + n / 2 / 2) in
      let v : ℕ = row_of_array p a (from + n / 2 + 1 + (n - n / 2 - 1) / 2) in
      let same : u ≡ v = rows_same u v r.1 s.1 in
      let one : state_at p u ≡ InArray a (from + n / 2 / 2) =
      (half_row from (n / 2) u r.0 (omega arith) (omega arith) refl).1 in
      let two : state_at p v ≡ InArray a (from + n / 2 + 1 + (n - n / 2 - 1) / 2) =
      (half_row (from + n / 2 + 1) (n - n / 2 - 1) v s.0 (omega arith) (omega arith) refl).1 in
      differ (array_index a (from + n / 2 / 2) a (from + n / 2 + 1 + (n - n / 2 - 1) / 2)
      (sym one ∙ ap (state_at p) same ∙ two)).1
    where
      rows_same : (u v : ℕ) → x ≡ 3 * u + 1 → x ≡ 3 * v + 1 → u ≡ v
      rows_same u v e f = omega arith

      differ : from + n / 2 / 2 ≡ from + n / 2 + 1 + (n - n / 2 - 1) / 2 → ⊥
      differ e = omega arith

  pub piece_apart : AreApart opened_piece
  piece_apart = node_items_apart top left right (leaf_items_apart p a from (n / 2))
      (leaf_items_apart p a (from + n / 2 + 1) (n - n / 2 - 1)) left_others right_others sides_apart

  -- no item beside the leaf is named by one of its rows
  no_name : (r x : ℕ) → In r (part arr from n) → x / 3 ≡ r → IsItem x (front ++ back) → ⊥
  no_name r x m e i =
      let j = map_In (λ (y : Item). y.name) x (front ++ back) i in
      let own : r ≡ j.0.name / 3 = sym e ∙ ap (λ (y : ℕ). y / 3) j.2 in
      not_own r j.0 m (In-append j.0 front back j.1) own

  pub piece_new : AreNew opened_piece (front ++ back)
  piece_new x i j =
      ⊎_elim (λ (e : x ≡ 3 * top). no_name top x top_in (omega arith) j)
      (λ (y : (x ≡ 3 * top + 1) ⊎ ((x ≡ 3 * top + 2) ⊎ (IsItem x left ⊎ IsItem x right))).
      ⊎_elim (λ (e : x ≡ 3 * top + 1). no_name top x top_in (omega arith) j)
      (λ (z : (x ≡ 3 * top + 2) ⊎ (IsItem x left ⊎ IsItem x right)).
      ⊎_elim (λ (e : x ≡ 3 * top + 2). no_name top x top_in (omega arith) j)
      (λ (w : IsItem x left ⊎ IsItem x right).
      ⊎_elim
      (λ (o : IsItem x left).
      let r = leaf_items_name p a from (n / 2) x o in
      let u : ℕ = row_of_array p a (from + n / 2 / 2) in
      no_name u x (half_row from (n / 2) u r.0 (omega arith) (omega arith) refl).0 (third u r.1) j)
      (λ (o : IsItem x right).
      let r = leaf_items_name p a (from + n / 2 + 1) (n - n / 2 - 1) x o in
      let u : ℕ = row_of_array p a (from + n / 2 + 1 + (n - n / 2 - 1) / 2) in
      no_name u x (half_row (from + n / 2 + 1) (n - n / 2 - 1) u r.0 (omega arith) (omega arith) refl).0 (third u r.1)
      j) w) z) y)
      (node_items_names top left right x i)
    where
      third : (u : ℕ) → x ≡ 3 * u + 1 → x / 3 ≡ u
      third u e = omega arith

  pub opened_apart : AreApart opened.items
  opened_apart = apart-between front opened_piece back beside_apart piece_apart piece_new

  -- items that stay
  kept : (x : ℕ) → IsItem x p.items → x ≢ 3 * top + 1 → IsItem x opened.items
  kept x i d =
      ⊎_elim (λ (j : IsItem x front). item-front x front (opened_piece ++ back) j)
      (λ (j : IsItem x (leaf_item p a from n ∷ back)). ⊎_elim (λ (e : x ≡ 3 * top + 1). absurd (d e))
      (λ (m : IsItem x back). item-back x front (opened_piece ++ back) (item-back x opened_piece back m)) j)
      (item-append x front (leaf_item p a from n ∷ back) (subst (IsItem x) is i))

  kept_item : (i : Item) → In i p.items → (i ≡ leaf_item p a from n) ⊎ (Beside i × In i opened.items)
  kept_item i m =
      ⊎_elim (λ (j : In i front). inr (inl j, In-front i front (opened_piece ++ back) j))
      (λ (j : In i (leaf_item p a from n ∷ back)). ⊎_elim (λ (e : i ≡ leaf_item p a from n). inl e)
      (λ (o : In i back). inr (inr o, In-back i front (opened_piece ++ back) (In-back i opened_piece back o))) j)
      (In-append i front (leaf_item p a from n ∷ back) (subst (In i) is m))

  at_kept : (r : ℕ) (s : RowState) → IsAt p r s → IsAt opened r s
  at_kept r Node i = kept (3 * r) i (third r)
    where
      third : (r : ℕ) → 3 * r ≢ 3 * top + 1
      third r e = omega arith
  at_kept r (InArray b d) i = i
  at_kept r Gone i = tt

  at : (r : ℕ) → r < length opened.rows → IsAt opened r (state_at opened r)
  at r b =
      ⊎_elim
      (λ (e : r ≡ top). subst (λ (x : ℕ). IsAt opened x (state_at opened x)) (sym e)
      (subst (IsAt opened top) (sym node) (item-back (3 * top) front (opened_piece ++ back)
      (item-front (3 * top) opened_piece back (inl refl)))))
      (λ (d : r ≢ top). let same : state_at opened r ≡ state_at p r = ap (λ (v : RowValue). v.state) (others r d) in
      subst (IsAt opened r) (sym same) (at_kept r (state_at p r) (t.at r (omega (arith, b, long)))))
      (cases_eq r top)

  in_left : 0 < n / 2 → In (leaf_item opened a from (n / 2)) opened.items
  in_left s =
      In-back (leaf_item p a from (n / 2)) front (opened_piece ++ back)
      (In-front (leaf_item p a from (n / 2)) opened_piece back
      (inr (In-front (leaf_item p a from (n / 2)) left (atom_item top 1 ∷ (right ++ close_item top ∷ []))
      (leaf_items_in p a from (n / 2) s))))

  in_right : 0 < n - n / 2 - 1 → In (leaf_item opened a (from + n / 2 + 1) (n - n / 2 - 1)) opened.items
  in_right s =
      let i : Item = leaf_item p a (from + n / 2 + 1) (n - n / 2 - 1) in
      In-back i front (opened_piece ++ back) (In-front i opened_piece back
      (inr (In-back i left (atom_item top 1 ∷ (right ++ close_item top ∷ []))
      (inr (In-front i right (close_item top ∷ []) (leaf_items_in p a (from + n / 2 + 1) (n - n / 2 - 1) s))))))

  cut_left : (m : ℕ) → m ≡ n / 2 → Cut opened a from m
  cut_left zero e = NoRows from
  cut_left (suc m) e = subst (λ (x : ℕ). Cut opened a from x) (sym e)
      (OneLeaf from (n / 2) (before_part (omega arith)) (in_left (omega arith)))

  cut_right : (m : ℕ) → m ≡ n - n / 2 - 1 → Cut opened a (from + n / 2 + 1) m
  cut_right zero e = NoRows (from + n / 2 + 1)
  cut_right (suc m) e = subst (λ (x : ℕ). Cut opened a (from + n / 2 + 1) x) (sym e)
      (OneLeaf (from + n / 2 + 1) (n - n / 2 - 1) (after_part (omega arith)) (in_right (omega arith)))

  cut_here : Cut opened a from n
  cut_here = InTwo from n some (λ e. node_no_array a c (sym node ∙ e)) (cut_left (n / 2) refl)
      (cut_right (n - n / 2 - 1) refl)

  cut_leaf : (b f m : ℕ) → IsPart p b f m → In (leaf_item p b f m) p.items → Cut opened b f m
  cut_leaf b f m o i =
      ⊎_elim
      (λ (e : leaf_item p b f m ≡ leaf_item p a from n).
      let sizes : m ≡ n = ap (λ (j : Item). j.weight) e in
      let tops : row_of_array p b (f + m / 2) ≡ top =
      thrice (row_of_array p b (f + m / 2)) top (ap (λ (j : Item). j.name) e) in
      let o_some = o.some in
      let same = array_index b (f + m / 2) a c (sym (o.stand (f + m / 2) (omega arith) (omega arith))
      ∙ ap (state_at p) tops ∙ top_state) in
      let starts : f ≡ from = start sizes same.1 in
      subst (λ (x : ℕ). Cut opened x f m) (sym same.0)
      (subst (λ (x : ℕ). Cut opened a x m) (sym starts)
      (subst (λ (x : ℕ). Cut opened a from x) (sym sizes) cut_here)))
      (λ (r : Beside (leaf_item p b f m) × In (leaf_item p b f m) opened.items).
      OneLeaf f m (part_stays p opened grows b f m o
      (λ x j. unmoved (leaf_item p b f m) r.0 x (inr
      (subst (λ (y : Token). In x (numbers_at y)) (sym (leaf_token p b f m o)) j)))) r.1)
      (kept_item (leaf_item p b f m) i)
    where
      thrice : (x y : ℕ) → 3 * x + 1 ≡ 3 * y + 1 → x ≡ y
      thrice x y e = omega arith

      start : m ≡ n → f + m / 2 ≡ from + n / 2 → f ≡ from
      start e g = omega arith

  cut : (b : ℕ) → b < length p.arrays → Cut opened b 0 (length (array_at p b))
  cut b m = cut_map p opened b (λ d o away e. away (still b d e)) (λ f w o i. cut_leaf b f w o i) 0
      (length (array_at p b)) (t.cut b m) (omega arith)
    where
      still : (b d : ℕ) → state_at opened (row_of_array p b d) ≡ InArray b d → state_at p (row_of_array p b d)
          ≡ InArray b d
      still b d e =
          ⊎_elim (λ (g : row_of_array p b d ≡ top). absurd
          (node_no_array b d (sym node ∙ ap (state_at opened) (sym g) ∙ e)))
          (λ (g : row_of_array p b d ≢ top). sym (ap (λ (v : RowValue). v.state) (others (row_of_array p b d) g)) ∙ e)
          (cases_eq (row_of_array p b d) top)

  -- counts
  exploded_numbers : length (numbers_of (exploded B top A)) ≡ length (B ++ top ∷ A)
  exploded_numbers =
      let one = ap length (numbers-append (leaf_word B) (Atom top ∷ (leaf_word A ++ Close top ∷ []))) in
      let two = ap length (numbers-append (leaf_word A) (Close top ∷ [])) in
      let three = length-append (numbers_of (leaf_word B)) (numbers_of (leaf_word A ++ Close top ∷ [])) in
      let four = length-append (numbers_of (leaf_word A)) [] in
      let five = ap length (leaf_word_numbers B) in
      let six = ap length (leaf_word_numbers A) in
      let all = length-append B (top ∷ A) in
      omega arith

  exploded_nodes : nodes_of (exploded B top A) ≡ 1
  exploded_nodes =
      let one = nodes-append (leaf_word B) (Atom top ∷ (leaf_word A ++ Close top ∷ [])) in
      let two = nodes-append (leaf_word A) (Close top ∷ []) in
      let five = leaf_word_nodes B in
      let six = leaf_word_nodes A in
      omega arith

  counted : opened.nodes ≡ nodes_of (tokens opened)
  counted =
      let old = ap nodes_of tokens_are ∙ nodes-append (tokens_of p front) (Leaf (B ++ top ∷ A) ∷ tokens_of p back) in
      let new = ap nodes_of opened_tokens ∙ nodes-append (tokens_of p front) (exploded B top A ++ tokens_of p back) in
      let mid = nodes-append (exploded B top A) (tokens_of p back) in
      let one = exploded_nodes in
      let c = t.counted in
      omega arith

  few : length (numbers_of (tokens opened)) ≤ length opened.rows
  few =
      let old = ap length (ap numbers_of tokens_are ∙ numbers-append (tokens_of p front)
      (Leaf (B ++ top ∷ A) ∷ tokens_of p back)) in
      let new = ap length (ap numbers_of opened_tokens
      ∙ numbers-append (tokens_of p front) (exploded B top A ++ tokens_of p back)
      ∙ ap (λ (q : List ℕ). numbers_of (tokens_of p front) ++ q)
      (numbers-append (exploded B top A) (tokens_of p back))) in
      let one = length-append (numbers_of (tokens_of p front)) ((B ++ top ∷ A) ++ numbers_of (tokens_of p back)) in
      let two = length-append (B ++ top ∷ A) (numbers_of (tokens_of p back)) in
      let three = length-append (numbers_of (tokens_of p front))
      (numbers_of (exploded B top A) ++ numbers_of (tokens_of p back)) in
      let four = length-append (numbers_of (exploded B top A)) (numbers_of (tokens_of p back)) in
      let five = exploded_numbers in
      let six = long in
      let c = t.few in
      omega arith

  pub opened_weight : weight_of opened.items ≡ weight_of p.items
  opened_weight =
      let old = ap weight_of is ∙ weight-append front (leaf_item p a from n ∷ back) in
      let new = weight-append front (opened_piece ++ back) in
      let mid = weight-append opened_piece back in
      let piece = node_items_weigh top left right in
      let one = leaf_items_weigh p a from (n / 2) in
      let two = leaf_items_weigh p a (from + n / 2 + 1) (n - n / 2 - 1) in
      omega (arith, some)

  light : weight_of opened.items ≤ length opened.rows
  light = let c = t.light in omega (arith, long, opened_weight)

  pub opened_tree : IsTree opened
  opened_tree = record {
    brackets = opened_brackets;
    apart = opened_apart;
    each = each;
    at = at;
    cut = cut;
    named = λ b d m o. let w = t.named b d m o in omega (arith, long);
    short = t.short;
    counted = counted;
    all = t.all ∙ ap (λ (rows : List DocRow). length rows) (sym opened_rows);
    many = let m = t.many in omega (arith, long);
    few = few;
    light = light;
    most = let w = t.most in omega (arith, long);
  }

  pub is_opened : IsOpened p opened a from n
  is_opened = record {
    tree = opened_tree;
    rows = opened_rows;
    entries = same_table;
    long = long;
    node = node;
    others = others;
    arrays = refl;
    before = λ s. (before_part s, in_left s);
    after = λ s. (after_part s, in_right s);
    nodes = refl;
  }
