-- New rows, put among the items.
use Rattle.std.proofs.Common.{◌≡◌, ◌⊎◌, ◌+◌, ◌-◌, ◌*◌, ◌/◌, ◌%◌, ◌<◌, ◌≤◌, ◌^◌, ℕ, zero, suc, List, []}
use Rattle.std.proofs.Common.{◌∷◌, ◌++◌, length, get_or, map, refl, sym, ap, ◌∙◌, subst, inl, inr, ⊎_elim}
use Rattle.std.proofs.Common.{arith, append_assoc, length-append, Option, true}
use Rattle.std.proofs.lemmas.List.{append-nil, get_or_append_left, length-map}
use Rattle.std.proofs.lemmas.Bool.{cases_lt}
use Rattle.td_base.specs.Lists.{In}
use Rattle.td_base.specs.RunAtoms.{NamedAtom}
use Rattle.td_base.proofs.Lists.{In-append, In-front, In-back, map_In}
use Rattle.td_path.specs.declared.slot_path.SlotPath.{SlotPath}
use Rattle.td_doc.specs.Array.{named}
use Rattle.td_doc.proofs.ArrayRows.{array_names}
use Rattle.td_list.specs.Items.{Item, IsItem, AreApart, AreNew, first_name, put_at, weight_of}
use Rattle.td_list.proofs.Names.{weight-append, apart-between, apart-parts, item-append, item-front, item-back}
use Rattle.td_list.proofs.Parted.{before_at, from_at}
use Rattle.td_brackets.specs.Brackets.{Token, Open, Atom, Close, Leaf, Entry, Level, move, atom_of, leaf_rows}
use Rattle.td_brackets.specs.Brackets.{slot_of, row_at as token_rows, rows_from, numbers_at, numbers_of, IsBrackets}
use Rattle.td_brackets.specs.RowNumbers.{row_numbers_at, row_numbers}
use Rattle.td_brackets.proofs.NodeRows.{numbers-append}
use Rattle.td_brackets.proofs.Entries.{row_numbers-append}
use Rattle.td_tree.specs.declared.tree_row.RowState.{RowState}
use Rattle.td_tree.specs.declared.tree_row.RowState.TheVariants.{Node, InArray, Gone}
use Rattle.td_tree.specs.Parts.{RowValue, Parts, nobody, row_at, state_at, table, array_at, row_of_array}
use Rattle.td_tree.specs.Parts.{row_token, kind_token, token_of, tokens_of, tokens, doc_rows, nodes_of, IsPart}
use Rattle.td_tree.specs.Parts.{IsKind, IsToken, leaf_item, Cut, OneLeaf, IsAt, IsTree}
use Rattle.td_tree.proofs.ArrayParts.{part_place}
use Rattle.td_tree.proofs.ItemTokens.{leaf_token, tokens-append, Grows, Unmoved, part_stays, item_stays, tokens_stay}
use Rattle.td_tree.proofs.Cuts.{cut_map}
use Rattle.td_tree.proofs.Pieces.{nodes-append}

-- a piece put before the first of some items, or at the end
pub put_parts : (at : Option ℕ) (piece front back : List Item) → AreApart (front ++ back) → first_name back ≡ at
    → put_at at piece (front ++ back) ≡ front ++ (piece ++ back)
put_parts at piece front [] apart e =
    ap (λ (o : Option ℕ). put_at o piece (front ++ [])) (sym e) ∙ (λ i. append-nil front i ++ piece)
    ∙ ap (λ (q : List Item). front ++ q) (sym (append-nil piece))
put_parts at piece front (i ∷ back) apart e =
    ap (λ (o : Option ℕ). put_at o piece (front ++ i ∷ back)) (sym e)
    ∙ (λ j. before_at i.name front i back refl away j ++ piece ++ from_at i.name front i back refl away j)
    ∙ append_assoc front piece (i ∷ back)
  where
    away : IsItem i.name front → ⊥
    away k = apart-parts front (i ∷ back) apart i.name k (inl refl)

-- how many rows some tokens mean
pub rows_long : (table : ℕ → Entry) (stack : List Level) (ts : List Token) → length (rows_from table stack ts)
    ≡ length (row_numbers ts)
rows_long table stack [] = refl
rows_long table stack (t ∷ ts) =
    let one = length-append (token_rows table stack t) (rows_from table (move stack t) ts) in
    let two = length-append (row_numbers_at t) (row_numbers ts) in
    let ih = rows_long table (move stack t) ts in
    let here = at stack t in
    omega arith
  where
    at : (stack : List Level) (t : Token) → length (token_rows table stack t) ≡ length (row_numbers_at t)
    at stack (Open r) = refl
    at stack (Atom r) = refl
    at stack (Close r) = refl
    at stack (Leaf rs) =
        let slot : SlotPath = slot_of table stack in
        let names = ap (λ (xs : List NamedAtom). length xs) (array_names slot (map (atom_of table) rs)) in
        let one = length-map (leaf_rows table slot rs) named in
        let two = length-map rs (atom_of table) in
        omega arith

module _ (p : Parts) (t : IsTree p) where
  -- the rows of tokens are known
  kind_known : (k r w x : ℕ) (s : RowState) → IsKind p k s w → r < length p.rows
      → In x (numbers_at (kind_token k r (row_token p s r w))) → x < length p.rows
  kind_known zero r w x s h l i = ⊎_elim (λ (e : x ≡ r). subst (λ (y : ℕ). y < length p.rows) (sym e) l)
      (λ (z : ⊥). absurd z) i
  kind_known (suc zero) r w x Node h l i = absurd i
  kind_known (suc zero) r w x (InArray a c) h l i =
      let f : (k : ℕ) × (c - w / 2 ≤ k) × (k < c - w / 2 + w)
      × (x ≡ get_or (array_at p a) k 0) = part_place (array_at p a) (c - w / 2) w x i in
      let below = f.2 in
      let within = h.1.within in
      subst (λ (y : ℕ). y < length p.rows) (sym f.3) (t.named a f.0 h.1.array (omega arith))
  kind_known (suc zero) r w x Gone h l i = absurd h
  kind_known (suc (suc k)) r w x s h l i = absurd i

  pub item_known : (i : Item) → In i p.items → (x : ℕ) → (x ≡ i.name / 3) ⊎ In x (numbers_at (token_of p i))
      → x < length p.rows
  item_known i m x o =
      let tok = t.each i m in
      ⊎_elim (λ (e : x ≡ i.name / 3). subst (λ (y : ℕ). y < length p.rows) (sym e) tok.known)
      (λ (j : In x (numbers_at (token_of p i))). kind_known (i.name % 3) (i.name / 3) i.weight x
      (state_at p (i.name / 3)) tok.kind tok.known j) o

  pub number_known : (items : List Item) → ((i : Item) → In i items → In i p.items) → (x : ℕ)
      → In x (numbers_of (tokens_of p items)) → x < length p.rows
  number_known [] g x i = absurd i
  number_known (j ∷ items) g x i =
      ⊎_elim (λ (k : In x (numbers_at (token_of p j))). item_known j (g j (inl refl)) x (inr k))
      (λ (k : In x (numbers_of (tokens_of p items))). number_known items (λ l m. g l (inr m)) x k)
      (In-append x (numbers_at (token_of p j)) (numbers_of (tokens_of p items)) i)

module _ (p : Parts) (t : IsTree p) (front back : List Item) (is : p.items ≡ front ++ back) (q : Parts)
    (piece : List Item) (more : List RowValue) (extra : List (List ℕ))
    (items_are : q.items ≡ front ++ (piece ++ back)) (rows_are : q.rows ≡ p.rows ++ more)
    (arrays_are : q.arrays ≡ p.arrays ++ extra) where
  pub long : length q.rows ≡ length p.rows + length more
  long = ap (λ (xs : List RowValue). length xs) rows_are ∙ length-append p.rows more

  arrays_long : length q.arrays ≡ length p.arrays + length extra
  arrays_long = ap (λ (xs : List (List ℕ)). length xs) arrays_are ∙ length-append p.arrays extra

  pub old_array : (a : ℕ) → a < length p.arrays → array_at q a ≡ array_at p a
  old_array a l = ap (λ (xs : List (List ℕ)). get_or xs a []) arrays_are ∙ get_or_append_left p.arrays extra [] a l

  pub old_row : (r : ℕ) → r < length p.rows → row_at q r ≡ row_at p r
  old_row r l = ap (λ (xs : List RowValue). get_or xs r nobody) rows_are ∙ get_or_append_left p.rows more nobody r l

  grows : Grows p q
  grows = record { rows = omega (arith, long); arrays = omega (arith, arrays_long); same = old_array }

  there : (i : Item) → In i front ⊎ In i back → In i p.items
  there i o = subst (In i) (sym is) (⊎_elim (λ (m : In i front). In-front i front back m)
      (λ (m : In i back). In-back i front back m) o)

  unmoved : (i : Item) → In i p.items → Unmoved p q i
  unmoved i m r o = old_row r (item_known p t i m r o)

  pub front_same : tokens_of q front ≡ tokens_of p front
  front_same = tokens_stay p q grows front (λ i m. (t.each i (there i (inl m)), unmoved i (there i (inl m))))

  pub back_same : tokens_of q back ≡ tokens_of p back
  back_same = tokens_stay p q grows back (λ i m. (t.each i (there i (inr m)), unmoved i (there i (inr m))))

  pub agree : (s : ℕ) → In s (numbers_of (tokens p)) → table q s ≡ table p s
  agree s i = ap (λ (v : RowValue). v.entry) (old_row s (number_known p t p.items (λ j m. m) s i))

  pub old_tokens : tokens p ≡ tokens_of p front ++ tokens_of p back
  old_tokens = ap (tokens_of p) is ∙ tokens-append p front back

  pub old_apart : AreApart (front ++ back)
  old_apart = subst AreApart is t.apart

  module _ (W : List Token) (piece_is : tokens_of q piece ≡ W) where
    pub new_tokens : tokens q ≡ tokens_of p front ++ (W ++ tokens_of p back)
    new_tokens = ap (tokens_of q) items_are ∙ tokens-append q front (piece ++ back)
        ∙ (λ i. front_same i ++ tokens-append q piece back i) ∙ (λ i. tokens_of p front ++ (piece_is i ++ back_same i))

    module _ (brackets : IsBrackets (table q) (tokens_of p front ++ (W ++ tokens_of p back)))
        (each_new : (i : Item) → In i piece → IsToken q i) (apart_new : AreApart piece)
        (fresh : (x : ℕ) → IsItem x piece → length p.rows ≤ x / 3)
        (at_new : (r : ℕ) → length p.rows ≤ r → r < length q.rows → IsAt q r (state_at q r))
        (cut_new : (a : ℕ) → length p.arrays ≤ a → a < length q.arrays → Cut q a 0 (length (array_at q a)))
        (named_new : (a k : ℕ) → length p.arrays ≤ a → a < length q.arrays → k < length (array_at q a)
        → row_of_array q a k < length q.rows)
        (short_new : (a : ℕ) → length p.arrays ≤ a → a < length q.arrays → length (array_at q a) ≤ 2 ^ 30)
        (nodes_are : q.nodes ≡ p.nodes + nodes_of W) (count_is : q.count ≡ p.count + length (row_numbers W))
        (rows_are_few : length (row_numbers W) ≤ length more) (numbers_are : length (numbers_of W) ≤ length more)
        (weight_is : weight_of piece ≤ length more) (most : length q.rows < 2 ^ 30) where
      pub fresh_piece : AreNew piece (front ++ back)
      fresh_piece x i j =
          let k = map_In (λ (y : Item). y.name) x (front ++ back) j in
          let known = (t.each k.0 (subst (In k.0) (sym is) k.1)).known in
          let new = fresh x i in
          below (length p.rows) (x / 3) (subst (λ (y : ℕ). y / 3 < length p.rows) (sym k.2) known) new
        where
          below : (a b : ℕ) → b < a → a ≤ b → ⊥
          below a b l m = omega arith

      each : (i : Item) → In i q.items → IsToken q i
      each i m =
          ⊎_elim (λ (f : In i front). item_stays p q grows i (t.each i (there i (inl f))) (unmoved i (there i (inl f))))
          (λ (x : In i (piece ++ back)). ⊎_elim (λ (f : In i piece). each_new i f)
          (λ (f : In i back). item_stays p q grows i (t.each i (there i (inr f))) (unmoved i (there i (inr f))))
          (In-append i piece back x))
          (In-append i front (piece ++ back) (subst (In i) items_are m))

      kept : (x : ℕ) → IsItem x p.items → IsItem x q.items
      kept x i =
          subst (IsItem x) (sym items_are)
          (⊎_elim (λ (j : IsItem x front). item-front x front (piece ++ back) j)
          (λ (j : IsItem x back). item-back x front (piece ++ back) (item-back x piece back j))
          (item-append x front back (subst (IsItem x) is i)))

      kept_item : (i : Item) → In i p.items → In i q.items
      kept_item i m =
          subst (In i) (sym items_are)
          (⊎_elim (λ (j : In i front). In-front i front (piece ++ back) j)
          (λ (j : In i back). In-back i front (piece ++ back) (In-back i piece back j))
          (In-append i front back (subst (In i) is m)))

      at_kept : (r : ℕ) (s : RowState) → IsAt p r s → IsAt q r s
      at_kept r Node i = kept (3 * r) i
      at_kept r (InArray a k) i =
          let below = i.0 in (
            omega (arith, arrays_long),
            subst (λ (xs : List ℕ). k < length xs) (sym (old_array a i.0)) i.1,
            ap
                (λ (xs : List ℕ). get_or xs k 0) (old_array a i.0) ∙ i.2,
          )
      at_kept r Gone i = tt

      at : (r : ℕ) → r < length q.rows → IsAt q r (state_at q r)
      at r l =
          ⊎_elim (λ (o : r < length p.rows). subst (IsAt q r) (sym (ap (λ (v : RowValue). v.state) (old_row r o)))
          (at_kept r (state_at p r) (t.at r o)))
          (λ (o : length p.rows ≤ r). at_new r o l) (cases_lt r (length p.rows))

      old_cut : (a : ℕ) → a < length p.arrays → Cut q a 0 (length (array_at q a))
      old_cut a l =
          subst (λ (xs : List ℕ). Cut q a 0 (length xs)) (sym (old_array a l))
          (cut_map p q a
          (λ k m away e. away (sym (ap (λ (v : RowValue). v.state) (old_row (row_of_array p a k) (t.named a k l m)))
          ∙ ap (λ (xs : List ℕ). state_at q (get_or xs k 0)) (sym (old_array a l)) ∙ e))
          (λ f m o i. leaf f m o i) 0 (length (array_at p a)) (t.cut a l) (omega arith))
        where
          leaf : (f m : ℕ) → IsPart p a f m → In (leaf_item p a f m) p.items → Cut q a f m
          leaf f m o i =
              OneLeaf f m (part_stays p q grows a f m o (λ x j. unmoved (leaf_item p a f m) i x
              (inr (subst (λ (y : Token). In x (numbers_at y)) (sym (leaf_token p a f m o)) j))))
              (subst (λ (xs : List ℕ). In (record {
                name = 3 * get_or xs (f + m / 2) 0 + 1;
                weight = m;
                marked = true;
              }) q.items) (sym (old_array a l)) (kept_item (leaf_item p a f m) i))

      new_rows : length (doc_rows q) ≡ length (doc_rows p) + length (row_numbers W)
      new_rows =
          let now = rows_long (table q) [] (tokens q) in
          let was = rows_long (table p) [] (tokens p) in
          let one = ap (λ (ts : List Token). length (row_numbers ts)) new_tokens
          ∙ ap (λ (xs : List ℕ). length xs) (row_numbers-append (tokens_of p front) (W ++ tokens_of p back)) in
          let two = ap (λ (xs : List ℕ). length xs) (row_numbers-append W (tokens_of p back)) in
          let three = ap (λ (ts : List Token). length (row_numbers ts)) old_tokens
          ∙ ap (λ (xs : List ℕ). length xs) (row_numbers-append (tokens_of p front) (tokens_of p back)) in
          let four = length-append (row_numbers (tokens_of p front)) (row_numbers (W ++ tokens_of p back)) in
          let five = length-append (row_numbers W) (row_numbers (tokens_of p back)) in
          let six = length-append (row_numbers (tokens_of p front)) (row_numbers (tokens_of p back)) in
          omega arith

      pub grown_tree : IsTree q
      grown_tree = record {
        brackets = subst (IsBrackets (table q)) (sym new_tokens) brackets;
        apart = subst AreApart (sym items_are) (apart-between front piece back old_apart apart_new fresh_piece);
        each = each;
        at = at;
        cut = λ a l. ⊎_elim (λ (o : a < length p.arrays). old_cut a o) (λ (o : length p.arrays ≤ a). cut_new a o l)
            (cases_lt a (length p.arrays));
        named = λ a k l m.
            ⊎_elim (λ (o : a < length p.arrays). let below =
            t.named a k o (subst (λ (xs : List ℕ). k < length xs) (old_array a o) m) in
            subst (λ (xs : List ℕ). get_or xs k 0 < length q.rows) (sym (old_array a o)) (omega (arith, long)))
            (λ (o : length p.arrays ≤ a). named_new a k o l m) (cases_lt a (length p.arrays));
        short = λ a l. ⊎_elim (λ (o : a < length p.arrays). subst (λ (xs : List ℕ). length xs ≤ 2 ^ 30)
            (sym (old_array a o)) (t.short a o)) (λ (o : length p.arrays ≤ a). short_new a o l)
            (cases_lt a (length p.arrays));
        counted =
            let c = t.counted in
            let one = ap nodes_of new_tokens ∙ nodes-append (tokens_of p front) (W ++ tokens_of p back) in
            let two = nodes-append W (tokens_of p back) in
            let three = ap nodes_of old_tokens ∙ nodes-append (tokens_of p front) (tokens_of p back) in
            omega (arith, nodes_are);
        all = let c = t.all in omega (arith, count_is, new_rows);
        many = let c = t.many in omega (arith, long, count_is, rows_are_few);
        few =
            let c = t.few in
            let one = ap (λ (ts : List Token). length (numbers_of ts)) new_tokens
            ∙ ap (λ (xs : List ℕ). length xs) (numbers-append (tokens_of p front) (W ++ tokens_of p back)) in
            let two = ap (λ (xs : List ℕ). length xs) (numbers-append W (tokens_of p back)) in
            let three = ap (λ (ts : List Token). length (numbers_of ts)) old_tokens
            ∙ ap (λ (xs : List ℕ). length xs) (numbers-append (tokens_of p front) (tokens_of p back)) in
            let four = length-append (numbers_of (tokens_of p front)) (numbers_of (W ++ tokens_of p back)) in
            let five = length-append (numbers_of W) (numbers_of (tokens_of p back)) in
            let six = length-append (numbers_of (tokens_of p front)) (numbers_of (tokens_of p back)) in
            omega (arith, long, numbers_are);
        light =
            let c = t.light in
            let one = ap weight_of items_are ∙ weight-append front (piece ++ back) in
            let two = weight-append piece back in
            let three = ap weight_of is ∙ weight-append front back in
            omega (arith, long, weight_is);
        most = most;
      }
