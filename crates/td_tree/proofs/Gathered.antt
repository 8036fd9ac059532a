-- A stretch of tokens gathered in one leaf leaves a tree.
use Rattle.std.proofs.Common.{◌≡◌, ◌≢◌, ◌⊎◌, ◌+◌, ◌-◌, ◌*◌, ◌/◌, ◌%◌, ◌<◌, ◌≤◌, ◌^◌, ℕ, zero, suc, List, []}
use Rattle.std.proofs.Common.{◌∷◌, ◌++◌, Bool, true, false, if◌then◌else◌, length, get_or, refl, sym, ap}
use Rattle.std.proofs.Common.{◌∙◌, subst, inl, inr, ⊎_elim, arith, length-append}
use Rattle.std.proofs.lemmas.List.{get_or_append_left, get_or_push}
use Rattle.std.proofs.lemmas.Bool.{cases_eq, cases_lt}
use Rattle.td_base.specs.Lists.{In}
use Rattle.td_base.proofs.Lists.{In-append, In-front, In-back, In-map, map_In, across, successive_back}
use Rattle.td_path.specs.declared.slot.Slot.{Slot}
use Rattle.td_doc.specs.Document.{is_empty_list, IsDocument}
use Rattle.td_doc.specs.Flatten.{flatten}
use Rattle.td_doc.proofs.Flattened.{flatten_document}
use Rattle.td_list.specs.Items.{Item, IsItem, AreApart, AreNew, weight_of}
use Rattle.td_list.proofs.Names.{weight-append, apart-between, apart-ends, item-append, item-front, item-back}
use Rattle.td_brackets.specs.Brackets.{Token, Open, Atom, Close, Leaf, Entry, Level, AllFit}
use Rattle.td_brackets.specs.Brackets.{numbers_at, numbers_of, rows_of, IsWord, IsBrackets}
use Rattle.td_brackets.specs.Laws.{leaf_word, live_number, live_numbers}
use Rattle.td_brackets.specs.RowNumbers.{row_numbers_at, row_numbers}
use Rattle.td_brackets.proofs.Words.{Node as Parted, node}
use Rattle.td_brackets.proofs.NodeRows.{numbers-append}
use Rattle.td_brackets.proofs.Entries.{row_numbers-append}
use Rattle.td_brackets.proofs.Flattened.{live_in, flat_brackets}
use Rattle.td_brackets.proofs.Kept.{from_token}
use Rattle.td_brackets.proofs.SidesOf.{split_at}
use Rattle.td_base.specs.declared.bit.Bit.TheVariants.{Left, Right}
use Rattle.td_tree.specs.declared.tree_row.RowState.{RowState}
use Rattle.td_tree.specs.declared.tree_row.RowState.TheVariants.{Node, InArray, Gone}
use Rattle.td_tree.specs.Parts.{RowValue, Parts, row_at, state_at, table, array_at, part, row_of_array, row_token}
use Rattle.td_tree.specs.Parts.{kind_token, token_of, tokens_of, tokens, doc_rows, token_weight, nodes_of, IsPart}
use Rattle.td_tree.specs.Parts.{IsKind, IsToken, leaf_item, leaf_items, Cut, OneLeaf, NoRows, IsAt, IsTree}
use Rattle.td_tree.specs.Parts.{IsFlattened}
use Rattle.td_tree.proofs.ArrayParts.{part_in, part_place}
use Rattle.td_tree.proofs.ItemTokens.{leaf_token, tokens-append, Grows, Unmoved, part_stays, item_stays, tokens_stay}
use Rattle.td_tree.proofs.Cuts.{cut_map, emptied}
use Rattle.td_tree.proofs.Pieces.{nodes-append, leaf_word_numbers, leaf_word_nodes, leaf_items_tokens, leaf_items_are}
use Rattle.td_tree.proofs.Pieces.{leaf_items_weigh, leaf_items_apart, leaf_items_name, leaf_items_in}
use Rattle.td_tree.proofs.Numbers.{number_inside, stands_once}
use Rattle.td_tree.proofs.Trees.{array_index, own_number, node_of}
use Rattle.td_tree.proofs.ItemKinds.{Kind, IsOpen, IsRow, IsLeaf, IsClose, kind_of}
use Rattle.td_tree.proofs.Grown.{rows_long, number_known}
use Rattle.td_tree.proofs.Deleting.{open_number, leaf_number}

gone_not_array : (a i : ℕ) → Gone ≡ InArray a i → ⊥
gone_not_array a i e = cc

in_or_not : (x : ℕ) (xs : List ℕ) → In x xs ⊎ (In x xs → ⊥)
in_or_not x [] = inr (λ z. z)
in_or_not x (y ∷ xs) = ⊎_elim (λ (e : x ≡ y). inl (inl e))
    (λ (n : x ≢ y). ⊎_elim (λ (i : In x xs). inl (inr i)) (λ (m : In x xs → ⊥). inr (λ k. ⊎_elim n m k))
    (in_or_not x xs)) (cases_eq x y)

-- at which place an element stands
pub place_in : (xs : List ℕ) (x : ℕ) → In x xs → (j : ℕ) × (j < length xs) × (x ≡ get_or xs j 0)
place_in [] x i = absurd i
place_in (y ∷ xs) x i =
    ⊎_elim (λ (e : x ≡ y). (0, omega arith, e)) (λ (k : In x xs). let r : (j : ℕ) × (j < length xs)
    × (x ≡ get_or xs j 0) = place_in xs x k in (suc r.0, more r.0 (length xs) r.1, r.2)) i
  where
    more : (j n : ℕ) → j < n → suc j < suc n
    more j n h = omega arith

pub in_place : {X : Type 0} (xs : List X) (d : X) (j : ℕ) → j < length xs → In (get_or xs j d) xs
in_place [] d j h = absurd (omega arith)
in_place (x ∷ xs) d zero h = inl refl
in_place (x ∷ xs) d (suc j) h = inr (in_place xs d j (omega arith))

-- the rows of leaves are live
pub leaf_live_in : (table : ℕ → Entry) (ts : List Token) (rs : List ℕ) (s : ℕ) → In (Leaf rs) ts → In s rs
    → In s (live_numbers table ts)
leaf_live_in table [] rs s i j = absurd i
leaf_live_in table (t ∷ ts) rs s i j =
    ⊎_elim (λ (e : Leaf rs ≡ t). In-front s (live_number table t) (live_numbers table ts)
    (subst (λ (q : Token). In s (live_number table q)) e j))
    (λ (k : In (Leaf rs) ts). In-back s (live_number table t) (live_numbers table ts)
    (leaf_live_in table ts rs s k j)) i

-- as many atoms as brackets
abbrev lefts : List Level → ℕ
lefts [] = 0
lefts ((r, Left) ∷ stack) = 1 + lefts stack
lefts ((r, Right) ∷ stack) = lefts stack

left_of : (l : Level) (stack : List Level) (r : ℕ) → l ≡ (r, Left) → lefts (l ∷ stack) ≡ 1 + lefts stack
left_of l stack r e = ap (λ (k : Level). lefts (k ∷ stack)) e

right_of : (l : Level) (stack : List Level) (r : ℕ) → l ≡ (r, Right) → lefts (l ∷ stack) ≡ lefts stack
right_of l stack r e = ap (λ (k : Level). lefts (k ∷ stack)) e

row_count : (stack : List Level) (ts : List Token) → AllFit stack ts
    → length (row_numbers ts) ≤ length (numbers_of ts) + lefts stack
row_count stack [] f = omega arith
row_count stack (Open r ∷ ts) f = let ih = row_count ((r, Left) ∷ stack) ts f.1 in omega arith
row_count [] (Atom r ∷ ts) f = absurd f.0
row_count (l ∷ stack) (Atom r ∷ ts) f = let ih = row_count ((l.0, Right) ∷ stack) ts f.1 in
    let e = left_of l stack r f.0 in omega arith
row_count [] (Close r ∷ ts) f = absurd f.0
row_count (l ∷ stack) (Close r ∷ ts) f = let ih = row_count stack ts f.1 in let e = right_of l stack r f.0 in
    omega arith
row_count stack (Leaf rs ∷ ts) f = let ih = row_count stack ts f.1 in let a = length-append rs (row_numbers ts) in
    let b = length-append rs (numbers_of ts) in omega arith

live_count : (table : ℕ → Entry) (ts : List Token) → length (live_numbers table ts) ≤ length (row_numbers ts)
live_count table [] = omega arith
live_count table (t ∷ ts) =
    let ih = live_count table ts in
    let a = length-append (live_number table t) (live_numbers table ts) in
    let b = length-append (row_numbers_at t) (row_numbers ts) in
    let c = at t in
    omega arith
  where
    one : (r : ℕ) (b : Bool) → length (if b then r ∷ [] else []) ≤ 1
    one r true = omega arith
    one r false = omega arith

    at : (t : Token) → length (live_number table t) ≤ length (row_numbers_at t)
    at (Open r) = omega arith
    at (Atom r) = one r (is_empty_list (table r).deletes)
    at (Close r) = omega arith
    at (Leaf rs) = omega arith

module _ (p : Parts) (t : IsTree p) where
  -- a row of a leaf is in an array
  leaf_state : (k r w : ℕ) (s : RowState) → IsKind p k s w → (rs : List ℕ) → Leaf rs
      ≡ kind_token k r (row_token p s r w) → (y : ℕ) → In y rs → (a : ℕ) × (c : ℕ) × (state_at p y ≡ InArray a c)
  leaf_state zero r w s h rs f y m = absurd (no rs r f)
    where
      no : (rs : List ℕ) (r : ℕ) → Leaf rs ≡ Open r → ⊥
      no rs r e = cc
  leaf_state (suc zero) r w Node h rs f y m = absurd (no rs r f)
    where
      no : (rs : List ℕ) (r : ℕ) → Leaf rs ≡ Atom r → ⊥
      no rs r e = cc
  leaf_state (suc zero) r w (InArray a c) h rs f y m =
      let place : (k : ℕ) × (c - w / 2 ≤ k) × (k < c - w / 2 + w)
      × (y ≡ get_or (array_at p a) k 0) = part_place (array_at p a) (c - w / 2) w y
      (subst (In y) (same rs (part (array_at p a) (c - w / 2) w) f) m) in
      (a, place.0, ap (state_at p) place.3 ∙ h.1.stand place.0 place.1 place.2)
    where
      same : (rs ss : List ℕ) → Leaf rs ≡ Leaf ss → rs ≡ ss
      same rs ss e = cc
  leaf_state (suc zero) r w Gone h rs f y m = absurd h
  leaf_state (suc (suc k)) r w s h rs f y m = absurd (no rs r f)
    where
      no : (rs : List ℕ) (r : ℕ) → Leaf rs ≡ Close r → ⊥
      no rs r e = cc

  pub leaf_row_state : (items : List Item) → ((i : Item) → In i items → In i p.items) → (rs : List ℕ)
      → In (Leaf rs) (tokens_of p items) → (y : ℕ) → In y rs → (a : ℕ) × (c : ℕ) × (state_at p y ≡ InArray a c)
  leaf_row_state items g rs i y m =
      let j = map_In (token_of p) (Leaf rs) items i in
      leaf_state (j.0.name % 3) (j.0.name / 3) j.0.weight (state_at p (j.0.name / 3)) (t.each j.0 (g j.0 j.1)).kind rs
      j.2 y m

  -- the weight of items is the number of live rows
  pub weight_count : (items : List Item) → ((i : Item) → In i items → In i p.items) → weight_of items
      ≡ length (live_numbers (table p) (tokens_of p items))
  weight_count [] g = refl
  weight_count (i ∷ items) g =
      let ih = weight_count items (λ j m. g j (inr m)) in
      let w = (t.each i (g i (inl refl))).weighed in
      let a = length-append (live_number (table p) (token_of p i)) (live_numbers (table p) (tokens_of p items)) in
      let c = at (token_of p i) in
      omega arith
    where
      one : (r : ℕ) (b : Bool) → (if b then 1 else 0) ≡ length (if b then r ∷ [] else [])
      one r true = refl
      one r false = refl

      at : (u : Token) → token_weight (table p) u ≡ length (live_number (table p) u)
      at (Open r) = refl
      at (Atom r) = one r (is_empty_list (table p r).deletes)
      at (Close r) = refl
      at (Leaf rs) = refl

module _ (p : Parts) (t : IsTree p) (front mid back : List Item) (is : p.items ≡ front ++ (mid ++ back))
    (w : IsWord (tokens_of p mid)) (slot : Slot)
    (flat : rows_of (table p) (tokens_of p front ++ (leaf_word (live_numbers (table p) (tokens_of p mid))
    ++ tokens_of p back)) ≡ flatten slot (doc_rows p)) where
  abbrev W : List Token
  W = tokens_of p mid

  abbrev L : List ℕ
  L = live_numbers (table p) (tokens_of p mid)

  was_tokens : tokens p ≡ tokens_of p front ++ (tokens_of p mid ++ tokens_of p back)
  was_tokens = ap (tokens_of p) is ∙ tokens-append p front (mid ++ back)
      ∙ ap (λ (q : List Token). tokens_of p front ++ q) (tokens-append p mid back)

  was : IsBrackets (table p) (tokens_of p front ++ (tokens_of p mid ++ tokens_of p back))
  was = subst (IsBrackets (table p)) was_tokens t.brackets

  in_mid : (i : Item) → In i mid → In i p.items
  in_mid i m = subst (In i) (sym is) (In-back i front (mid ++ back) (In-front i mid back m))

  beside : (i : Item) → In i front ⊎ In i back → In i p.items
  beside i o = subst (In i) (sym is) (⊎_elim (λ (m : In i front). In-front i front (mid ++ back) m)
      (λ (m : In i back). In-back i front (mid ++ back) (In-back i mid back m)) o)

  pub live_number_in : (s : ℕ) → In s L → In s (numbers_of W)
  live_number_in s i = live_in (table p) (tokens_of p front) W (tokens_of p back) w was s i

  -- a token of the stretch stands nowhere else
  token_once : (u : Token) → In u W → (i : Item) → In i front ⊎ In i back → token_of p i ≡ u → ⊥
  token_once u m i o e =
      ⊎_elim
      (λ (k : In i front). across (λ (a b : Token). a ≢ b) (tokens_of p front) (W ++ tokens_of p back) was.once u u
      (subst (λ (x : Token). In x (tokens_of p front)) e (In-map (token_of p) i front k))
      (In-front u W (tokens_of p back) m) refl)
      (λ (k : In i back). across (λ (a b : Token). a ≢ b) W (tokens_of p back)
      (successive_back (λ (a b : Token). a ≢ b) (tokens_of p front) (W ++ tokens_of p back) was.once) u u m
      (subst (λ (x : Token). In x (tokens_of p back)) e (In-map (token_of p) i back k)) refl) o

  number_once : (x : ℕ) → In x (numbers_of W) → (i : Item) → In i front ⊎ In i back → In x (numbers_at (token_of p i))
      → ⊥
  number_once x m i o j =
      stands_once (table p) (tokens_of p front) W (tokens_of p back) x was.apart m
      (⊎_elim (λ (k : In i front). inl (number_inside p front i x k j))
      (λ (k : In i back). inr (number_inside p back i x k j)) o)

  closed_in : (r : ℕ) → In (Open r) W → In (Atom r) W × In (Close r) W
  closed_in r m =
      let s = split_at (Open r) W m in
      let n : Parted r s.front s.back = node s.front s.back r (subst IsWord s.is w) in
      let parts : W ≡ s.front ++ Open r ∷ (n.left ++ Atom r ∷ (n.right ++ Close r ∷ n.back)) = s.is
      ∙ ap (λ (q : List Token). s.front ++ Open r ∷ q) n.is in (
        subst (In (Atom r)) (sym parts) (In-back (Atom r) s.front
            (Open r ∷ (n.left ++ Atom r ∷ (n.right ++ Close r ∷ n.back)))
            (inr (In-back (Atom r) n.left (Atom r ∷ (n.right ++ Close r ∷ n.back)) (inl refl)))),
        subst (In (Close r)) (sym parts) (In-back (Close r) s.front
            (Open r ∷ (n.left ++ Atom r ∷ (n.right ++ Close r ∷ n.back)))
            (inr (In-back (Close r) n.left (Atom r ∷ (n.right ++ Close r ∷ n.back))
            (inr (In-back (Close r) n.right (Close r ∷ n.back) (inl refl)))))),
      )

  pub alone : (i : Item) → In i front ⊎ In i back → (r : ℕ) → In r (numbers_of W) → (r ≡ i.name / 3)
      ⊎ In r (numbers_at (token_of p i)) → ⊥
  alone i o r m u =
      ⊎_elim
      (λ (e : r ≡ i.name / 3). ⊎_elim (λ (k : In (Open r) W). opened e k (kind_of p t i (beside i o)))
      (λ (k : (rs : List ℕ) × In (Leaf rs) W × In r rs).
      let s : (a : ℕ) × (c : ℕ) × (state_at p r ≡ InArray a c) = leaf_row_state p t mid in_mid k.0 k.1 r k.2 in
      let own = own_number p t i s.0 s.1 (beside i o) (ap (state_at p) (sym e) ∙ s.2) in
      number_once r m i o (subst (λ (x : ℕ). In x (numbers_at (token_of p i))) (sym e) own.1)) (from_token r W m))
      (λ (j : In r (numbers_at (token_of p i))). number_once r m i o j) u
    where
      opened : r ≡ i.name / 3 → In (Open r) W → Kind p i → ⊥
      opened e k (IsOpen f g) = number_once r m i o (subst (λ (x : Token). In r (numbers_at x)) (sym g) (inl e))
      opened e k (IsRow f h g) = token_once (Atom r) (closed_in r k).0 i o (g ∙ ap Atom (sym e))
      opened e k (IsLeaf f h g) = number_once r m i o
          (subst (λ (x : Token). In r (numbers_at x)) (sym g.is)
          (subst (λ (x : ℕ). In x (g.before ++ i.name / 3 ∷ g.after)) (sym e)
          (In-back (i.name / 3) g.before (i.name / 3 ∷ g.after) (inl refl))))
      opened e k (IsClose f g) = token_once (Close r) (closed_in r k).1 i o (g ∙ ap Close (sym e))

  module _ (q : Parts)
      (items_are : q.items ≡ front ++ (leaf_items q (length p.arrays) 0
      (length (live_numbers (table p) (tokens_of p mid))) ++ back))
      (arrays_are : q.arrays ≡ p.arrays ++ live_numbers (table p) (tokens_of p mid) ∷ [])
      (entries : table q ≡ table p) (long : length q.rows ≡ length p.rows)
      (inside : (j : ℕ) → j < length (live_numbers (table p) (tokens_of p mid))
      → state_at q (get_or (live_numbers (table p) (tokens_of p mid)) j 0) ≡ InArray (length p.arrays) j)
      (dead : (r : ℕ) → In r (numbers_of (tokens_of p mid)) → (In r (live_numbers (table p) (tokens_of p mid)) → ⊥)
      → state_at q r ≡ Gone)
      (outside : (r : ℕ) → (In r (numbers_of (tokens_of p mid)) → ⊥) → row_at q r ≡ row_at p r)
      (nodes : q.nodes + nodes_of (tokens_of p mid) ≡ p.nodes)
      (count : q.count + length (row_numbers (tokens_of p mid))
      ≡ p.count + length (live_numbers (table p) (tokens_of p mid))) where
    abbrev a : ℕ
    a = length p.arrays

    abbrev n : ℕ
    n = length (live_numbers (table p) (tokens_of p mid))

    abbrev piece : List Item
    piece = leaf_items q (length p.arrays) 0 (length (live_numbers (table p) (tokens_of p mid)))

    arrays_long : length q.arrays ≡ a + 1
    arrays_long = ap (λ (xs : List (List ℕ)). length xs) arrays_are ∙ length-append p.arrays (L ∷ [])

    new_array : array_at q a ≡ L
    new_array = ap (λ (xs : List (List ℕ)). get_or xs a []) arrays_are ∙ get_or_push p.arrays L [] a refl

    old_array : (b : ℕ) → b < a → array_at q b ≡ array_at p b
    old_array b m = ap (λ (xs : List (List ℕ)). get_or xs b []) arrays_are ∙ get_or_append_left p.arrays (L ∷ []) [] b m

    grows : Grows p q
    grows = record { rows = omega (arith, long); arrays = omega (arith, arrays_long); same = old_array }

    unmoved : (i : Item) → In i front ⊎ In i back → Unmoved p q i
    unmoved i o r u = outside r (λ m. alone i o r m u)

    stay : (items : List Item) → ((i : Item) → In i items → In i front ⊎ In i back) → tokens_of q items
        ≡ tokens_of p items
    stay items g = tokens_stay p q grows items (λ i m. (t.each i (beside i (g i m)), unmoved i (g i m)))

    the_part : 0 < n → IsPart q a 0 n
    the_part s =
        let size = ap (λ (xs : List ℕ). length xs) new_array in
        record {
          array = omega (arith, arrays_long);
          some = s;
          within = omega arith;
          stand = λ k b c. subst (λ (xs : List ℕ). state_at q (get_or xs k 0) ≡ InArray a k) (sym new_array)
              (inside k (omega arith));
        }

    live_known : (j : ℕ) → j < n → get_or L j 0 < length p.rows
    live_known j m = number_known p t mid in_mid (get_or L j 0) (live_number_in (get_or L j 0) (in_place L 0 j m))

    top_known : 0 < n → row_of_array q a (0 + n / 2) < length q.rows
    top_known s =
        let k = live_known (0 + n / 2) (omega arith) in
        subst (λ (xs : List ℕ). get_or xs (0 + n / 2) 0 < length q.rows) (sym new_array) (omega (arith, long))

    piece_tokens : tokens_of q piece ≡ leaf_word L
    piece_tokens = leaf_items_tokens q a 0 n the_part
        ∙ ap leaf_word (ap (λ (xs : List ℕ). part xs 0 n) new_array ∙ take_all L)
      where
        take_all : (xs : List ℕ) → part xs 0 (length xs) ≡ xs
        take_all [] = refl
        take_all (x ∷ xs) = ap (λ (ys : List ℕ). x ∷ ys) (take_all xs)

    new_tokens : tokens q ≡ tokens_of p front ++ (leaf_word L ++ tokens_of p back)
    new_tokens =
        ap (tokens_of q) items_are ∙ tokens-append q front (piece ++ back)
        ∙ (λ i. stay front (λ j m. inl m) i ++ tokens-append q piece back i)
        ∙ (λ i. tokens_of p front ++ (piece_tokens i ++ stay back (λ j m. inr m) i))

    pub gathered_rows : doc_rows q ≡ flatten slot (doc_rows p)
    gathered_rows = (λ i. rows_of (entries i) (new_tokens i)) ∙ flat

    brackets : IsBrackets (table q) (tokens q)
    brackets =
        subst (λ (f : ℕ → Entry). IsBrackets f (tokens q)) (sym entries) (subst (IsBrackets (table p)) (sym new_tokens)
        (flat_brackets (table p) (tokens_of p front) W (tokens_of p back) w was
        (subst IsDocument (sym flat) (flatten_document (doc_rows p) slot t.brackets.document))))

    each : (i : Item) → In i q.items → IsToken q i
    each i m =
        ⊎_elim (λ (f : In i front). item_stays p q grows i (t.each i (beside i (inl f))) (unmoved i (inl f)))
        (λ (x : In i (piece ++ back)).
        ⊎_elim (λ (f : In i piece). leaf_items_are q a 0 n (λ s. (the_part s, top_known s)) i f)
        (λ (f : In i back). item_stays p q grows i (t.each i (beside i (inr f))) (unmoved i (inr f)))
        (In-append i piece back x))
        (In-append i front (piece ++ back) (subst (In i) items_are m))

    beside_apart : AreApart (front ++ back)
    beside_apart = apart-ends front mid back (subst AreApart is t.apart)

    top_in : 0 < n → In (row_of_array q a (0 + n / 2)) (numbers_of W)
    top_in s = subst (λ (xs : List ℕ). In (get_or xs (0 + n / 2) 0) (numbers_of W)) (sym new_array)
        (live_number_in (get_or L (0 + n / 2) 0) (in_place L 0 (0 + n / 2) (omega arith)))

    pub piece_new : AreNew piece (front ++ back)
    piece_new x i j =
        let r = leaf_items_name q a 0 n x i in
        let k = map_In (λ (y : Item). y.name) x (front ++ back) j in
        alone k.0 (In-append k.0 front back k.1) (row_of_array q a (0 + n / 2)) (top_in r.0)
        (inl (third (row_of_array q a (0 + n / 2)) k.0.name r.1 k.2))
      where
        third : (u m : ℕ) → x ≡ 3 * u + 1 → x ≡ m → u ≡ m / 3
        third u m e f = omega arith

    pub piece_apart : AreApart piece
    piece_apart = leaf_items_apart q a 0 n

    -- where rows are
    at_kept : (r : ℕ) (s : RowState) → (In r (numbers_of W) → ⊥) → IsAt p r s → IsAt q r s
    at_kept r Node away i =
        subst (IsItem (3 * r)) (sym items_are)
        (⊎_elim (λ (k : IsItem (3 * r) front). item-front (3 * r) front (piece ++ back) k)
        (λ (k : IsItem (3 * r) (mid ++ back)).
        ⊎_elim (λ (l : IsItem (3 * r) mid). absurd (in_stretch l))
        (λ (l : IsItem (3 * r) back). item-back (3 * r) front (piece ++ back) (item-back (3 * r) piece back l))
        (item-append (3 * r) mid back k))
        (item-append (3 * r) front (mid ++ back) (subst (IsItem (3 * r)) is i)))
      where
        in_stretch : IsItem (3 * r) mid → ⊥
        in_stretch l =
            let k = map_In (λ (y : Item). y.name) (3 * r) mid l in
            at k.0 k.1 k.2 (kind_of p t k.0 (in_mid k.0 k.1))
          where
            at : (i : Item) → In i mid → 3 * r ≡ i.name → Kind p i → ⊥
            at i m e (IsOpen f g) =
                let same : i.name / 3 ≡ r = omega arith in
                away (open_number W r (subst (λ (x : Token). In x W) (g ∙ ap Open same) (In-map (token_of p) i mid m)))
            at i m e (IsRow f h g) = absurd (omega arith)
            at i m e (IsLeaf f h g) = absurd (omega arith)
            at i m e (IsClose f g) = absurd (omega arith)
    at_kept r (InArray b k) away i =
        let low = i.0 in (
          omega (arith, arrays_long),
          subst (λ (xs : List ℕ). k < length xs) (sym (old_array b i.0)) i.1,
          ap
              (λ (xs : List ℕ). get_or xs k 0) (old_array b i.0) ∙ i.2,
        )
    at_kept r Gone away i = tt

    at : (r : ℕ) → r < length q.rows → IsAt q r (state_at q r)
    at r m =
        ⊎_elim
        (λ (k : In r (numbers_of W)).
        ⊎_elim
        (λ (l : In r L).
        let j = place_in L r l in
        let state : state_at q r ≡ InArray a j.0 = ap (state_at q) j.2 ∙ inside j.0 j.1 in
        subst (IsAt q r) (sym state) (
          omega (arith, arrays_long),
          subst (λ (xs : List ℕ). j.0 < length xs)
              (sym new_array) j.1,
          ap (λ (xs : List ℕ). get_or xs j.0 0) new_array ∙ sym j.2,
        ))
        (λ (l : In r L → ⊥). subst (IsAt q r) (sym (dead r k l)) tt) (in_or_not r L))
        (λ (k : In r (numbers_of W) → ⊥). subst (IsAt q r) (sym (ap (λ (v : RowValue). v.state) (outside r k)))
        (at_kept r (state_at p r) k (t.at r (omega (arith, m, long))))) (in_or_not r (numbers_of W))

    -- a row that was gathered is in no other array
    not_there : (r b k : ℕ) → b < a → In r (numbers_of W) → state_at q r ≢ InArray b k
    not_there r b k low m e =
        ⊎_elim
        (λ (l : In r L). let j = place_in L r l in let same =
        (array_index b k a j.0 (sym e ∙ ap (state_at q) j.2 ∙ inside j.0 j.1)).0 in below b a low same)
        (λ (l : In r L → ⊥). gone_not_array b k (sym (dead r m l) ∙ e)) (in_or_not r L)
      where
        below : (b a : ℕ) → b < a → b ≡ a → ⊥
        below b a l e = omega arith

    leaf_cut : (b f m : ℕ) → b < a → IsPart p b f m → In (leaf_item p b f m) p.items → Cut q b f m
    leaf_cut b f m low o i =
        ⊎_elim (λ (k : In (leaf_item p b f m) front). kept (inl k))
        (λ (k : In (leaf_item p b f m) (mid ++ back)).
        ⊎_elim
        (λ (l : In (leaf_item p b f m) mid).
        emptied q b (m + 1) f m (omega arith) (λ k c d e.
        not_there (row_of_array p b k) b k low
        (leaf_number W (part (array_at p b) f m) (row_of_array p b k)
        (subst (λ (x : Token). In x W) (leaf_token p b f m o) (In-map (token_of p) (leaf_item p b f m) mid l))
        (part_in (array_at p b) f m k c d o.within))
        (ap (λ (xs : List ℕ). state_at q (get_or xs k 0)) (sym (old_array b low)) ∙ e)))
        (λ (l : In (leaf_item p b f m) back). kept (inr l)) (In-append (leaf_item p b f m) mid back k))
        (In-append (leaf_item p b f m) front (mid ++ back) (subst (In (leaf_item p b f m)) is i))
      where
        in_items : In (leaf_item p b f m) front ⊎ In (leaf_item p b f m) back → In (leaf_item p b f m) q.items
        in_items k =
            subst (In (leaf_item p b f m)) (sym items_are)
            (⊎_elim (λ (l : In (leaf_item p b f m) front). In-front (leaf_item p b f m) front (piece ++ back) l)
            (λ (l : In (leaf_item p b f m) back). In-back (leaf_item p b f m) front (piece ++ back)
            (In-back (leaf_item p b f m) piece back l)) k)

        kept : In (leaf_item p b f m) front ⊎ In (leaf_item p b f m) back → Cut q b f m
        kept k =
            OneLeaf f m (part_stays p q grows b f m o (λ x j. unmoved (leaf_item p b f m) k x
            (inr (subst (λ (y : Token). In x (numbers_at y)) (sym (leaf_token p b f m o)) j))))
            (subst (λ (xs : List ℕ). In (record { name = 3 * get_or xs (f + m / 2) 0 + 1; weight = m; marked = true })
            q.items) (sym (old_array b low)) (in_items k))

    old_cut : (b : ℕ) → b < a → Cut q b 0 (length (array_at q b))
    old_cut b low =
        subst (λ (xs : List ℕ). Cut q b 0 (length xs)) (sym (old_array b low))
        (cut_map p q b
        (λ k m away e. ⊎_elim (λ (i : In (row_of_array p b k) (numbers_of W)). not_there (row_of_array p b k) b k low
        i (ap (λ (xs : List ℕ). state_at q (get_or xs k 0)) (sym (old_array b low)) ∙ e))
        (λ (i : In (row_of_array p b k) (numbers_of W) → ⊥). away
        (sym (ap (λ (v : RowValue). v.state) (outside (row_of_array p b k) i))
        ∙ ap (λ (xs : List ℕ). state_at q (get_or xs k 0)) (sym (old_array b low)) ∙ e))
        (in_or_not (row_of_array p b k) (numbers_of W)))
        (λ f m o i. leaf_cut b f m low o i) 0 (length (array_at p b)) (t.cut b low) (omega arith))

    leaf_there : 0 < n → In (leaf_item q a 0 n) q.items
    leaf_there s = subst (In (leaf_item q a 0 n)) (sym items_are)
        (In-back (leaf_item q a 0 n) front (piece ++ back)
        (In-front (leaf_item q a 0 n) piece back (leaf_items_in q a 0 n s)))

    cut_upto : (m : ℕ) → m ≡ n → Cut q a 0 m
    cut_upto zero e = NoRows 0
    cut_upto (suc m) e = subst (λ (x : ℕ). Cut q a 0 x) (sym e)
        (OneLeaf 0 n (the_part (omega arith)) (leaf_there (omega arith)))

    new_cut : Cut q a 0 (length (array_at q a))
    new_cut = cut_upto (length (array_at q a)) (ap (λ (xs : List ℕ). length xs) new_array)

    either : (b : ℕ) → b < length q.arrays → (b < a) ⊎ (b ≡ a)
    either b m = ⊎_elim (λ (l : b < a). inl l) (λ (l : a ≤ b). inr (omega (arith, arrays_long))) (cases_lt b a)

    -- counts
    heavy : weight_of mid ≡ n
    heavy = weight_count p t mid in_mid

    weights : weight_of q.items ≡ weight_of p.items
    weights =
        let now = ap weight_of items_are ∙ weight-append front (piece ++ back) in
        let mid_now = weight-append piece back in
        let before = ap weight_of is ∙ weight-append front (mid ++ back) in
        let mid_before = weight-append mid back in
        let one = leaf_items_weigh q a 0 n in
        omega (arith, heavy)

    rows_now : length (doc_rows q) + length (row_numbers W) ≡ length (doc_rows p) + n
    rows_now =
        let one = rows_long (table q) [] (tokens q) in
        let two = rows_long (table p) [] (tokens p) in
        let three = ap (λ (ts : List Token). length (row_numbers ts)) new_tokens
        ∙ ap (λ (xs : List ℕ). length xs) (row_numbers-append (tokens_of p front)
        (leaf_word L ++ tokens_of p back)) in
        let four = ap (λ (xs : List ℕ). length xs) (row_numbers-append (leaf_word L) (tokens_of p back)) in
        let five = ap (λ (ts : List Token). length (row_numbers ts)) was_tokens
        ∙ ap (λ (xs : List ℕ). length xs) (row_numbers-append (tokens_of p front) (W ++ tokens_of p back)) in
        let six = ap (λ (xs : List ℕ). length xs) (row_numbers-append W (tokens_of p back)) in
        let seven = length-append (row_numbers (tokens_of p front)) (row_numbers (leaf_word L ++ tokens_of p back)) in
        let eight = length-append (row_numbers (leaf_word L)) (row_numbers (tokens_of p back)) in
        let nine = length-append (row_numbers (tokens_of p front)) (row_numbers (W ++ tokens_of p back)) in
        let ten = length-append (row_numbers W) (row_numbers (tokens_of p back)) in
        let leaf = leaf_rows L in
        omega arith
      where
        leaf_rows : (rs : List ℕ) → length (row_numbers (leaf_word rs)) ≡ length rs
        leaf_rows [] = refl
        leaf_rows (r ∷ rs) = let e = length-append (r ∷ rs) [] in omega arith

    few_rows : n ≤ length (numbers_of W)
    few_rows = let one = live_count (table p) W in let two = row_count [] W w.0 in omega arith

    pub is_gathered : IsFlattened p q slot
    is_gathered = record {
      tree = record {
        brackets = brackets;
        apart = subst AreApart (sym items_are) (apart-between front piece back beside_apart piece_apart piece_new);
        each = each;
        at = at;
        cut = λ b m. ⊎_elim (λ (l : b < a). old_cut b l)
            (λ (e : b ≡ a). subst (λ (x : ℕ). Cut q x 0 (length (array_at q x))) (sym e) new_cut) (either b m);
        named = λ b k m o.
            ⊎_elim (λ (l : b < a). let below = t.named b k l
            (subst (λ (xs : List ℕ). k < length xs) (old_array b l) o) in
            subst (λ (xs : List ℕ). get_or xs k 0 < length q.rows) (sym (old_array b l)) (omega (arith, long)))
            (λ (e : b ≡ a).
            let here : array_at q b ≡ L = ap (array_at q) e ∙ new_array in
            let below = live_known k (subst (λ (xs : List ℕ). k < length xs) here o) in
            subst (λ (xs : List ℕ). get_or xs k 0 < length q.rows) (sym here) (omega (arith, long))) (either b m);
        short = λ b m.
            ⊎_elim (λ (l : b < a). subst (λ (xs : List ℕ). length xs ≤ 2 ^ 30) (sym (old_array b l)) (t.short b l))
            (λ (e : b ≡ a).
            let light = t.light in
            let most = t.most in
            let parts = ap weight_of is ∙ weight-append front (mid ++ back) in
            let mids = weight-append mid back in
            subst (λ (xs : List ℕ). length xs ≤ 2 ^ 30) (sym (ap (array_at q) e ∙ new_array)) (omega (arith, heavy)))
            (either b m);
        counted =
            let c = t.counted in
            let one = ap nodes_of new_tokens ∙ nodes-append (tokens_of p front) (leaf_word L ++ tokens_of p back) in
            let two = nodes-append (leaf_word L) (tokens_of p back) in
            let three = ap nodes_of was_tokens ∙ nodes-append (tokens_of p front) (W ++ tokens_of p back) in
            let four = nodes-append W (tokens_of p back) in
            let five = leaf_word_nodes L in
            omega (arith, nodes);
        all = let c = t.all in omega (arith, count, rows_now);
        many = let m = t.many in let c = live_count (table p) W in omega (arith, long, count);
        few =
            let c = t.few in
            let one = ap (λ (ts : List Token). length (numbers_of ts)) new_tokens
            ∙ ap (λ (xs : List ℕ). length xs) (numbers-append (tokens_of p front)
            (leaf_word L ++ tokens_of p back)) in
            let two = ap (λ (xs : List ℕ). length xs) (numbers-append (leaf_word L) (tokens_of p back)) in
            let three = ap (λ (ts : List Token). length (numbers_of ts)) was_tokens
            ∙ ap (λ (xs : List ℕ). length xs) (numbers-append (tokens_of p front) (W ++ tokens_of p back)) in
            let four = ap (λ (xs : List ℕ). length xs) (numbers-append W (tokens_of p back)) in
            let five = length-append (numbers_of (tokens_of p front)) (numbers_of (leaf_word L ++ tokens_of p back)) in
            let six = length-append (numbers_of (leaf_word L)) (numbers_of (tokens_of p back)) in
            let seven = length-append (numbers_of (tokens_of p front)) (numbers_of (W ++ tokens_of p back)) in
            let eight = length-append (numbers_of W) (numbers_of (tokens_of p back)) in
            let nine = ap (λ (xs : List ℕ). length xs) (leaf_word_numbers L) in
            omega (arith, long, few_rows);
        light = let c = t.light in omega (arith, long, weights);
        most = let c = t.most in omega (arith, long);
      };
      rows = gathered_rows;
      entries = entries;
      gone = λ r e.
          ⊎_elim
          (λ (k : In r (numbers_of W)).
          ⊎_elim (λ (l : In r L). absurd (live_not_gone r k e)) (λ (l : In r L → ⊥). dead r k l) (in_or_not r L))
          (λ (k : In r (numbers_of W) → ⊥). ap (λ (v : RowValue). v.state) (outside r k) ∙ e)
          (in_or_not r (numbers_of W));
      long = long;
      nodes = omega (arith, nodes);
    }
      where
        live_not_gone : (r : ℕ) → In r (numbers_of W) → state_at p r ≡ Gone → ⊥
        live_not_gone r k e =
            ⊎_elim
            (λ (o : In (Open r) W).
            let m = map_In (token_of p) (Open r) mid o in
            open_gone m.0 m.1 m.2 (kind_of p t m.0 (in_mid m.0 m.1)))
            (λ (o : (rs : List ℕ) × In (Leaf rs) W × In r rs). let s : (b : ℕ) × (c : ℕ)
            × (state_at p r ≡ InArray b c) = leaf_row_state p t mid in_mid o.0 o.1 r o.2 in
            gone_not_array s.0 s.1 (sym e ∙ s.2)) (from_token r W k)
          where
            node_gone : Node ≡ Gone → ⊥
            node_gone e = cc

            open_gone : (i : Item) → In i mid → Open r ≡ token_of p i → Kind p i → ⊥
            open_gone i m f (IsOpen g h) = node_gone (sym (at_node i m (no_row g))
                ∙ ap (state_at p) (sym (same_open (f ∙ h))) ∙ e)
              where
                same_open : {s : ℕ} → Open r ≡ Open s → r ≡ s
                same_open e = cc

                no_row : i.name % 3 ≡ 0 → i.name % 3 ≢ 1
                no_row g h = absurd (omega arith)

                at_node : (i : Item) → In i mid → i.name % 3 ≢ 1 → state_at p (i.name / 3) ≡ Node
                at_node i m h = node_of p t i (in_mid i m) h
            open_gone i m f (IsRow g h k) = no (i.name / 3) (f ∙ k)
              where
                no : (s : ℕ) → Open r ≡ Atom s → ⊥
                no s e = cc
            open_gone i m f (IsLeaf g h k) = no (k.before ++ i.name / 3 ∷ k.after) (f ∙ k.is)
              where
                no : (rs : List ℕ) → Open r ≡ Leaf rs → ⊥
                no rs e = cc
            open_gone i m f (IsClose g h) = no (i.name / 3) (f ∙ h)
              where
                no : (s : ℕ) → Open r ≡ Close s → ⊥
                no s e = cc
