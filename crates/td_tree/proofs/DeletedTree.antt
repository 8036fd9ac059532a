-- A node deleted in a tree.
use Rattle.std.proofs.Common.{◌≡◌, ◌≢◌, ◌+◌, ◌*◌, ◌/◌, ◌%◌, ◌<◌, ◌≤◌, ℕ, zero, suc, List, [], ◌∷◌, ◌++◌, Bool}
use Rattle.std.proofs.Common.{if◌then◌else◌, length, set, get_or, refl, sym, ap, ◌∙◌, subst, inr, ⊎_elim, arith, ◌-◌}
use Rattle.std.proofs.lemmas.List.{get_or-set_same, get_or-set_other, length-set, length-map, map-append}
use Rattle.std.proofs.lemmas.Bool.{cases_eq}
use Rattle.td_base.specs.Value.{DotValue}
use Rattle.td_base.specs.Lists.{In, Successive}
use Rattle.td_base.proofs.Lists.{In-append, In-front, In-back, In-map, map_In, successive_imp}
use Rattle.td_doc.specs.Document.{DocRow, is_empty_list, IsDocument}
use Rattle.td_doc.specs.Deletion.{mark_deleted, delete}
use Rattle.td_doc.proofs.Deleted.{delete_document}
use Rattle.td_list.specs.Items.{Item, names, IsItem, renew, weight_of}
use Rattle.td_list.proofs.Names.{weight-append}
use Rattle.td_list.proofs.Parted.{Parted, parted, before_is, after_is, not_behind}
use Rattle.td_brackets.specs.Brackets.{Token, Open, Atom, Close, Leaf, rows_of, numbers_of, IsBrackets}
use Rattle.td_brackets.specs.RowNumbers.{row_numbers}
use Rattle.td_tree.specs.declared.tree_row.RowState.{RowState}
use Rattle.td_tree.specs.declared.tree_row.RowState.TheVariants.{Node, InArray, Gone}
use Rattle.td_tree.specs.Parts.{RowValue, Parts, nobody, row_at, state_at, table, array_at, part}
use Rattle.td_tree.specs.Parts.{row_of_array, row_token, kind_token, token_of, tokens_of, tokens, doc_rows}
use Rattle.td_tree.specs.Parts.{nodes_of, token_weight, is_row_token, atom_item, IsPart, IsKind, IsToken}
use Rattle.td_tree.specs.Parts.{leaf_item, OneLeaf, IsAt, IsTree, IsDeleted}
use Rattle.td_tree.proofs.ItemTokens.{tokens-append, node_token, atom_name}
use Rattle.td_tree.proofs.Cuts.{cut_map}
use Rattle.td_tree.proofs.Pieces.{atom_is_token}
use Rattle.td_tree.proofs.Trees.{node_not_array}
use Rattle.td_tree.proofs.ArrayParts.{part_place}
use Rattle.td_tree.proofs.Places.{open_there, atom_there, name_atom, atom_opened}
use Rattle.td_tree.proofs.Deleting.{deleted, rows_deleted, add_dot_some, apart_two}
use Rattle.td_tree.proofs.Deleting.{open_number, leaf_number, row_token_of}

module _ (p : Parts) (t : IsTree p) (x : ℕ) (l : x < length p.rows) (e : state_at p x ≡ Node) (by : DotValue) where
  abbrev pub with_delete : Parts
  with_delete = record {
    items = renew (atom_item x 0) p.items;
    rows = set p.rows x (record { entry = deleted (table p x) by; state = state_at p x });
    arrays = p.arrays;
    nodes = p.nodes;
    count = p.count;
  }

  abbrev q : Parts
  q = with_delete

  pub there : IsItem (3 * x + 1) p.items
  there = atom_name p p.items x (atom_there p t x l e)

  abbrev pd : Parted (3 * x + 1) p.items
  pd = parted (3 * x + 1) p.items there

  items_are : q.items ≡ pd.front ++ atom_item x 0 ∷ pd.back
  items_are = λ i. before_is (3 * x + 1) p.items there i ++ atom_item x 0 ∷ after_is (3 * x + 1) p.items there i

  names_same : names q.items ≡ names p.items
  names_same =
      ap names items_are ∙ map-append (λ (i : Item). i.name) pd.front (atom_item x 0 ∷ pd.back)
      ∙ (λ i. names pd.front ++ sym pd.named i ∷ names pd.back)
      ∙ sym (map-append (λ (i : Item). i.name) pd.front (pd.item ∷ pd.back)) ∙ ap names (sym pd.is)

  here : row_at q x ≡ record { entry = deleted (table p x) by; state = state_at p x }
  here = get_or-set_same p.rows x (record { entry = deleted (table p x) by; state = state_at p x }) nobody l

  other : (s : ℕ) → s ≢ x → row_at q s ≡ row_at p s
  other s n = get_or-set_other p.rows x s (record { entry = deleted (table p x) by; state = state_at p x }) nobody n

  states : (s : ℕ) → state_at q s ≡ state_at p s
  states s = ⊎_elim (λ (f : s ≡ x). ap (state_at q) f ∙ ap (λ (v : RowValue). v.state) here ∙ ap (state_at p) (sym f))
      (λ (n : s ≢ x). ap (λ (v : RowValue). v.state) (other s n)) (cases_eq s x)

  ids : (s : ℕ) → (table q s).id ≡ (table p s).id
  ids s = ⊎_elim (λ (f : s ≡ x). ap (λ (k : ℕ). (table q k).id) f ∙ ap (λ (v : RowValue). v.entry.id) here
      ∙ ap (λ (k : ℕ). (table p k).id) (sym f)) (λ (n : s ≢ x). ap (λ (v : RowValue). v.entry.id) (other s n))
      (cases_eq s x)

  long : length q.rows ≡ length p.rows
  long = length-set p.rows x (record { entry = deleted (table p x) by; state = state_at p x })

  -- tokens
  same_row_token : (s : RowState) (r n : ℕ) → row_token q s r n ≡ row_token p s r n
  same_row_token Node r n = refl
  same_row_token (InArray a i) r n = refl
  same_row_token Gone r n = refl

  token_same : (i : Item) → token_of q i ≡ token_of p i
  token_same i =
      ap (λ (s : RowState). kind_token (i.name % 3) (i.name / 3) (row_token q s (i.name / 3) i.weight))
      (states (i.name / 3))
      ∙ ap (kind_token (i.name % 3) (i.name / 3)) (same_row_token (state_at p (i.name / 3)) (i.name / 3) i.weight)

  tokens_same : (items : List Item) → tokens_of q items ≡ tokens_of p items
  tokens_same [] = refl
  tokens_same (i ∷ items) = λ j. token_same i j ∷ tokens_same items j

  item_is : token_of p pd.item ≡ Atom x
  item_is =
      ap (λ (n : ℕ). kind_token (n % 3) (n / 3) (row_token p (state_at p (n / 3)) (n / 3) pd.item.weight)) pd.named
      ∙ node_token p x pd.item.weight e

  node_now : state_at q x ≡ Node
  node_now = states x ∙ e

  all_same : tokens q ≡ tokens p
  all_same =
      ap (tokens_of q) items_are ∙ tokens-append q pd.front (atom_item x 0 ∷ pd.back)
      ∙ (λ i. tokens_same pd.front i ++ (node_token q x 0 node_now ∙ sym item_is) i ∷ tokens_same pd.back i)
      ∙ sym (tokens-append p pd.front (pd.item ∷ pd.back)) ∙ ap (tokens_of p) (sym pd.is)

  -- rows
  x_number : In x (numbers_of (tokens p))
  x_number = open_number (tokens p) x (open_there p t x l e)

  row_number : (s : ℕ) → In s (row_numbers (tokens p)) → In s (numbers_of (tokens p))
  row_number s i =
      ⊎_elim (λ (a : In (Atom s) (tokens p)). open_number (tokens p) s (atom_opened p t s a))
      (λ (a : (rs : List ℕ) × In (Leaf rs) (tokens p) × In s rs). leaf_number (tokens p) a.0 s a.1 a.2)
      (row_token_of (tokens p) s i)

  leaf_state : (k r w : ℕ) (s : RowState) → IsKind p k s w → (rs : List ℕ) → Leaf rs
      ≡ kind_token k r (row_token p s r w) → (y : ℕ) → In y rs → state_at p y ≢ Node
  leaf_state zero r w s h rs f y m = absurd (no rs r f)
    where
      no : (rs : List ℕ) (r : ℕ) → Leaf rs ≡ Open r → ⊥
      no rs r e = cc
  leaf_state (suc zero) r w Node h rs f y m = absurd (no rs r f)
    where
      no : (rs : List ℕ) (r : ℕ) → Leaf rs ≡ Atom r → ⊥
      no rs r e = cc
  leaf_state (suc zero) r w (InArray a c) h rs f y m =
      let place : (k : ℕ) × (c - w / 2 ≤ k) × (k < c - w / 2 + w)
      × (y ≡ get_or (array_at p a) k 0) = part_place (array_at p a) (c - w / 2) w y
      (subst (In y) (same rs (part (array_at p a) (c - w / 2) w) f) m) in
      λ n. node_not_array a place.0 (sym n ∙ ap (state_at p) place.3 ∙ h.1.stand place.0 place.1 place.2)
    where
      same : (rs ss : List ℕ) → Leaf rs ≡ Leaf ss → rs ≡ ss
      same rs ss e = cc
  leaf_state (suc zero) r w Gone h rs f y m = absurd h
  leaf_state (suc (suc k)) r w s h rs f y m = absurd (no rs r f)
    where
      no : (rs : List ℕ) (r : ℕ) → Leaf rs ≡ Close r → ⊥
      no rs r e = cc

  not_in_leaf : (rs : List ℕ) → In (Leaf rs) (tokens p) → (s : ℕ) → In s rs → s ≢ x
  not_in_leaf rs i s m f =
      let j = map_In (token_of p) (Leaf rs) p.items i in
      leaf_state (j.0.name % 3) (j.0.name / 3) j.0.weight (state_at p (j.0.name / 3)) (t.each j.0 j.1).kind rs j.2 s m
      (ap (state_at p) f ∙ e)

  pub rows_now : doc_rows q ≡ delete (table p x).id by (doc_rows p)
  rows_now =
      ap (rows_of (table q)) all_same
      ∙ rows_deleted (table p) (table q) x by ids (ap (λ (v : RowValue). v.entry) here)
      (λ s n. ap (λ (v : RowValue). v.entry) (other s n)) [] (tokens p)
      (λ s i n. apart_two (table p) (numbers_of (tokens p)) t.brackets.apart s x (row_number s i) x_number n)
      not_in_leaf

  brackets : IsBrackets (table q) (tokens q)
  brackets = subst (IsBrackets (table q)) (sym all_same) (record {
    word = t.brackets.word;
    once = t.brackets.once;
    apart = successive_imp (λ (r s : ℕ). (table p r).id ≢ (table p s).id)
        (λ (r s : ℕ). (table q r).id ≢ (table q s).id) (λ r s n f. n (sym (ids r) ∙ f ∙ ids s))
        (numbers_of (tokens p)) t.brackets.apart;
    live = λ rs r i m. ap (λ (v : RowValue). v.entry.deletes) (other r (not_in_leaf rs i r m))
        ∙ t.brackets.live rs r i m;
    document = subst IsDocument (sym (ap (rows_of (table q)) (sym all_same) ∙ rows_now))
        (delete_document (table p x).id by (doc_rows p) t.brackets.document);
  })

  -- items
  part_same : (a f n : ℕ) → IsPart p a f n → IsPart q a f n
  part_same a f n o = record {
    array = o.array;
    some = o.some;
    within = o.within;
    stand = λ k b c. states (row_of_array p a k) ∙ o.stand k b c;
  }

  kind_same : (k : ℕ) (s : RowState) (w : ℕ) → IsKind p k s w → IsKind q k s w
  kind_same zero s w h = h
  kind_same (suc zero) Node w h = tt
  kind_same (suc zero) (InArray a i) w h = (h.0, part_same a (i - w / 2) w h.1)
  kind_same (suc zero) Gone w h = h
  kind_same (suc (suc k)) s w h = h

  weight_same : (u : Token) → ((r : ℕ) → u ≡ Atom r → r ≢ x) → token_weight (table p) u ≡ token_weight (table q) u
  weight_same (Open r) n = refl
  weight_same (Atom r) n = ap (λ (v : RowValue). if is_empty_list v.entry.deletes then 1 else 0)
      (sym (other r (n r refl)))
  weight_same (Close r) n = refl
  weight_same (Leaf rs) n = refl

  item_same : (i : Item) → In i p.items → i.name ≢ 3 * x + 1 → IsToken q i
  item_same i m n =
      let tok = t.each i m in
      let known = tok.known in
      record {
        known = omega (arith, long);
        kind = subst (λ (s : RowState). IsKind q (i.name % 3) s i.weight) (sym (states (i.name / 3)))
            (kind_same (i.name % 3) (state_at p (i.name / 3)) i.weight tok.kind);
        weighed = tok.weighed ∙ weight_same (token_of p i)
            (λ r f g. n (name_atom p i r f ∙ ap (λ (y : ℕ). 3 * y + 1) g))
            ∙ ap (token_weight (table q)) (sym (token_same i));
        marked = tok.marked ∙ ap is_row_token (sym (token_same i));
      }

  front_name : (i : Item) → In i pd.front → i.name ≢ 3 * x + 1
  front_name i m f = pd.away (subst (λ (y : ℕ). IsItem y pd.front) f (In-map (λ (j : Item). j.name) i pd.front m))

  back_name : (i : Item) → In i pd.back → i.name ≢ 3 * x + 1
  back_name i m f = not_behind (3 * x + 1) p.items there t.apart
      (subst (λ (y : ℕ). IsItem y pd.back) f (In-map (λ (j : Item). j.name) i pd.back m))

  in_front : (i : Item) → In i pd.front → In i p.items
  in_front i m = subst (In i) (sym pd.is) (In-front i pd.front (pd.item ∷ pd.back) m)

  in_back : (i : Item) → In i pd.back → In i p.items
  in_back i m = subst (In i) (sym pd.is) (In-back i pd.front (pd.item ∷ pd.back) (inr m))

  new_weight : ◌≡◌ {A = ℕ} 0 (if is_empty_list (table q x).deletes then 1 else 0)
  new_weight = sym (ap (λ (v : RowValue). if is_empty_list v.entry.deletes then 1 else 0) here
      ∙ ap (λ (b : Bool). if b then 1 else 0) (add_dot_some by (table p x).deletes))

  each : (i : Item) → In i q.items → IsToken q i
  each i m =
      ⊎_elim (λ (f : In i pd.front). item_same i (in_front i f) (front_name i f))
      (λ (k : In i (atom_item x 0 ∷ pd.back)).
      ⊎_elim (λ (f : i ≡ atom_item x 0). subst (IsToken q) (sym f)
      (atom_is_token q x 0 (omega (arith, long)) node_now new_weight))
      (λ (f : In i pd.back). item_same i (in_back i f) (back_name i f)) k)
      (In-append i pd.front (atom_item x 0 ∷ pd.back) (subst (In i) items_are m))

  at_same : (r : ℕ) (s : RowState) → IsAt p r s → IsAt q r s
  at_same r Node i = subst (In (3 * r)) (sym names_same) i
  at_same r (InArray a k) i = i
  at_same r Gone i = tt

  leaf_kept : (a f m : ℕ) → IsPart p a f m → In (leaf_item p a f m) p.items → In (leaf_item p a f m) q.items
  leaf_kept a f m o i =
      subst (In (leaf_item p a f m)) (sym items_are)
      (⊎_elim (λ (k : In (leaf_item p a f m) pd.front). In-front (leaf_item p a f m) pd.front
      (atom_item x 0 ∷ pd.back) k)
      (λ (k : In (leaf_item p a f m) (pd.item ∷ pd.back)).
      ⊎_elim
      (λ (g : leaf_item p a f m ≡ pd.item).
      let some = o.some in
      let top : row_of_array p a (f + m / 2) ≡ x = thrice (row_of_array p a (f + m / 2))
      (ap (λ (j : Item). j.name) g ∙ pd.named) in
      absurd (node_not_array a (f + m / 2) (sym e ∙ ap (state_at p) (sym top)
      ∙ o.stand (f + m / 2) (omega arith) (omega arith))))
      (λ (g : In (leaf_item p a f m) pd.back). In-back (leaf_item p a f m) pd.front (atom_item x 0 ∷ pd.back) (inr g))
      k)
      (In-append (leaf_item p a f m) pd.front (pd.item ∷ pd.back) (subst (In (leaf_item p a f m)) pd.is i)))
    where
      thrice : (y : ℕ) → 3 * y + 1 ≡ 3 * x + 1 → y ≡ x
      thrice y g = omega arith

  rows_count : length (doc_rows q) ≡ length (doc_rows p)
  rows_count = ap (λ (rows : List DocRow). length rows) rows_now
      ∙ length-map (doc_rows p) (mark_deleted (table p x).id by)

  pub lighter : weight_of q.items ≤ weight_of p.items
  lighter =
      let now = ap weight_of items_are ∙ weight-append pd.front (atom_item x 0 ∷ pd.back) in
      let was = ap weight_of pd.is ∙ weight-append pd.front (pd.item ∷ pd.back) in
      omega arith

  pub is_deleted : IsDeleted p q x by
  is_deleted = record {
    tree = record {
      brackets = brackets;
      apart = subst (Successive (λ (a b : ℕ). a ≢ b)) (sym names_same) t.apart;
      each = each;
      at = λ r m. subst (IsAt q r) (sym (states r)) (at_same r (state_at p r) (t.at r (omega (arith, long))));
      cut = λ a m. cut_map p q a (λ k o away f. away (sym (states (row_of_array p a k)) ∙ f))
          (λ f n o i. OneLeaf f n (part_same a f n o) (leaf_kept a f n o i)) 0 (length (array_at p a)) (t.cut a m)
          (omega arith);
      named = λ a k m o. let w = t.named a k m o in omega (arith, long);
      short = t.short;
      counted = t.counted ∙ ap nodes_of (sym all_same);
      all = t.all ∙ sym rows_count;
      many = let m = t.many in omega (arith, long);
      few = let f = t.few in subst (λ (n : ℕ). n ≤ length q.rows)
          (ap (λ (ts : List Token). length (numbers_of ts)) (sym all_same)) (omega (arith, long));
      light = let w = t.light in omega (arith, long, lighter);
      most = let w = t.most in omega (arith, long);
    };
    rows = rows_now;
    ids = ids;
    states = states;
    deletes = ap (λ (v : RowValue). v.entry.deletes) here;
    others = λ s n. ap (λ (v : RowValue). v.entry) (other s n);
    long = long;
    nodes = refl;
  }
