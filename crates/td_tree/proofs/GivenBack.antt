-- Arrays in which no row stands may be given back.
use Rattle.std.proofs.Common.{◌≡◌, ◌⊎◌, ◌+◌, ◌-◌, ◌*◌, ◌/◌, ◌%◌, ◌<◌, ◌≤◌, ◌^◌, ℕ, zero, suc, List}
use Rattle.std.proofs.Common.{[], ◌∷◌, Bool, if◌then◌else◌, length, get_or, refl, sym, ap, ◌∙◌}
use Rattle.std.proofs.Common.{subst, inl, inr, ⊎_elim, arith, Some, None}
use Rattle.td_base.specs.Lists.{In}
use Rattle.td_base.proofs.Lists.{In-map}
use Rattle.td_doc.specs.Document.{DocRow}
use Rattle.td_list.specs.Items.{Item, IsItem, AreApart, weight_of, items_before, first_name}
use Rattle.td_list.proofs.Parted.{here_named}
use Rattle.td_brackets.specs.Brackets.{Token, Leaf, Entry, numbers_of, rows_of, IsBrackets}
use Rattle.td_tree.specs.declared.tree_row.RowState.{RowState}
use Rattle.td_tree.specs.declared.tree_row.RowState.TheVariants.{Node, InArray, Gone}
use Rattle.td_tree.specs.Parts.{RowValue, Parts, nobody, state_at, table, array_at, part, row_of_array}
use Rattle.td_tree.specs.Parts.{row_token, kind_token, token_of, tokens_of, tokens, doc_rows, token_weight}
use Rattle.td_tree.specs.Parts.{is_row_token, nodes_of, IsPart, IsKind, IsToken, atom_item, leaf_item, Cut}
use Rattle.td_tree.specs.Parts.{OneLeaf, NoRows, IsAt, IsTree, AreInLast, IsSameTree}
use Rattle.td_tree.specs.Stretches.{leaf_of}
use Rattle.td_tree.proofs.Cuts.{cut_map}
use Rattle.td_tree.proofs.Shown.{leaf_with}
use Rattle.td_tree.proofs.SlotStretches.{leaf_name}
use Rattle.td_tree.proofs.Trees.{array_index}

-- where all items are one leaf, each row of an array stands in the array of that leaf
pub in_array : (q : Parts) → IsTree q → (rows : List ℕ) (n : ℕ) → q.items ≡ leaf_of rows
    → (0 < length rows → state_at q (get_or rows (length rows / 2) 0) ≡ InArray n (length rows / 2))
    → (r a i : ℕ) → r < length q.rows → state_at q r ≡ InArray a i → a ≡ n
in_array q t rows n items top r a i l e =
    let k = leaf_with q t r a i l e in
    let there : In (leaf_item q a k.from k.count) (leaf_of rows) =
    subst (In (leaf_item q a k.from k.count)) items k.there in
    let named = leaf_name rows (3 * row_of_array q a (k.from + k.count / 2) + 1)
    (In-map (λ (x : Item). x.name) (leaf_item q a k.from k.count) (leaf_of rows) there) in
    let same : row_of_array q a (k.from + k.count / 2)
    ≡ get_or rows (length rows / 2) 0 = one_third (row_of_array q a (k.from + k.count / 2))
    (get_or rows (length rows / 2) 0) named.1 in
    let some = k.is_part.some in
    let stands : state_at q (row_of_array q a (k.from + k.count / 2))
    ≡ InArray a (k.from + k.count / 2) = k.is_part.stand (k.from + k.count / 2) (omega arith) (omega arith) in
    (array_index a (k.from + k.count / 2) n (length rows / 2) (sym stands ∙ ap (state_at q) same ∙ top named.0)).0
  where
    one_third : (x y : ℕ) → 3 * x + 1 ≡ 3 * y + 1 → x ≡ y
    one_third x y e = omega arith

-- nor is there one where there are no items
pub in_none : (q : Parts) → IsTree q → q.items ≡ [] → AreInLast q
in_none q t items r a i l e =
    let k = leaf_with q t r a i l e in
    absurd (subst (In (leaf_item q a k.from k.count)) items k.there)

pub no_first : (items : List Item) → first_name items ≡ None → items ≡ []
no_first [] e = refl
no_first (i ∷ items) e = absurd (some i.name e)
  where
    some : (x : ℕ) → Some x ≡ None → ⊥
    some x e = cc

-- nothing stands before the first item
pub none_before : (items : List Item) (x : ℕ) → first_name items ≡ Some x → items_before x items ≡ []
none_before [] x e = refl
none_before (i ∷ items) x e = ap (λ (b : Bool). if b then [] else i ∷ items_before x items) (here_named x i (same e))
  where
    same : Some i.name ≡ Some x → i.name ≡ x
    same e = cc

module _ (p q : Parts) (t : IsTree p) (items : q.items ≡ p.items) (rows : q.rows ≡ p.rows) (nodes : q.nodes ≡ p.nodes)
    (count : q.count ≡ p.count) (long : length q.arrays ≡ length p.arrays)
    (each : (a : ℕ) → (array_at q a ≡ array_at p a) ⊎ ((a + 1 < length p.arrays) × (array_at q a ≡ [])))
    (last : AreInLast p) where
  entries : table q ≡ table p
  entries = λ i r. (get_or (rows i) r nobody).entry

  state : (r : ℕ) → state_at q r ≡ state_at p r
  state r = ap (λ (xs : List RowValue). (get_or xs r nobody).state) rows

  -- an array in which a row stands is as before
  kept : (r a i : ℕ) → r < length p.rows → state_at p r ≡ InArray a i → array_at q a ≡ array_at p a
  kept r a i l e =
      ⊎_elim (λ (s : array_at q a ≡ array_at p a). s)
      (λ (n : (a + 1 < length p.arrays) × (array_at q a ≡ [])). absurd
      (not_last a (length p.arrays) n.0 (last r a i l e))) (each a)
    where
      not_last : (a n : ℕ) → a + 1 < n → a + 1 ≡ n → ⊥
      not_last a n l e = omega arith

  part_same : (a from n : ℕ) → array_at q a ≡ array_at p a → IsPart p a from n → IsPart q a from n
  part_same a from n s o =
      let l = o.array in
      record {
        array = omega (arith, long);
        some = o.some;
        within = subst (λ (xs : List ℕ). from + n ≤ length xs) (sym s) o.within;
        stand = λ k b c. subst (λ (xs : List ℕ). state_at q (get_or xs k 0) ≡ InArray a k) (sym s)
            (state (get_or (array_at p a) k 0) ∙ o.stand k b c);
      }

  kind_same : (k : ℕ) (s : RowState) (r w : ℕ) → r < length p.rows → state_at p r ≡ s
      → kind_token k r (row_token q s r w) ≡ kind_token k r (row_token p s r w)
  kind_same zero s r w l e = refl
  kind_same (suc zero) Node r w l e = refl
  kind_same (suc zero) (InArray a i) r w l e = ap (λ (xs : List ℕ). Leaf (part xs (i - w / 2) w)) (kept r a i l e)
  kind_same (suc zero) Gone r w l e = refl
  kind_same (suc (suc k)) s r w l e = refl

  kind_stays : (k : ℕ) (s : RowState) (r w : ℕ) → r < length p.rows → state_at p r ≡ s → IsKind p k s w → IsKind q k s w
  kind_stays zero s r w l e c = c
  kind_stays (suc zero) Node r w l e c = tt
  kind_stays (suc zero) (InArray a i) r w l e c = (c.0, part_same a (i - w / 2) w (kept r a i l e) c.1)
  kind_stays (suc zero) Gone r w l e c = c
  kind_stays (suc (suc k)) s r w l e c = c

  token_same : (i : Item) → IsToken p i → token_of q i ≡ token_of p i
  token_same i k =
      ap (λ (s : RowState). kind_token (i.name % 3) (i.name / 3) (row_token q s (i.name / 3) i.weight))
      (state (i.name / 3))
      ∙ kind_same (i.name % 3) (state_at p (i.name / 3)) (i.name / 3) i.weight k.known refl

  all_same : (part : List Item) → ((i : Item) → In i part → In i p.items) → tokens_of q part ≡ tokens_of p part
  all_same [] g = refl
  all_same (i ∷ part) g = λ j. token_same i (t.each i (g i (inl refl))) j ∷ all_same part (λ k m. g k (inr m)) j

  same_tokens : tokens q ≡ tokens p
  same_tokens = ap (tokens_of q) items ∙ all_same p.items (λ i m. m)

  same_doc : doc_rows q ≡ doc_rows p
  same_doc = λ i. rows_of (entries i) (same_tokens i)

  each_same : (i : Item) → In i q.items → IsToken q i
  each_same i m =
      let k = t.each i (subst (In i) items m) in
      record {
        known = subst (λ (xs : List RowValue). i.name / 3 < length xs) (sym rows) k.known;
        kind = subst (λ (s : RowState). IsKind q (i.name % 3) s i.weight) (sym (state (i.name / 3)))
            (kind_stays (i.name % 3) (state_at p (i.name / 3)) (i.name / 3) i.weight k.known refl k.kind);
        weighed = k.weighed ∙ (λ j. token_weight (sym entries j) (sym (token_same i k) j));
        marked = k.marked ∙ ap is_row_token (sym (token_same i k));
      }

  at_state : (r : ℕ) (s : RowState) → r < length p.rows → state_at p r ≡ s → IsAt p r s → IsAt q r s
  at_state r Node l e i = subst (IsItem (3 * r)) (sym items) i
  at_state r (InArray a k) l e i =
      let s = kept r a k l e in
      let b = i.0 in (
        omega (arith, long),
        subst (λ (xs : List ℕ). k < length xs) (sym s) i.1,
        ap (λ (xs : List ℕ). get_or xs k 0) s
            ∙ i.2,
      )
  at_state r Gone l e i = tt

  at : (r : ℕ) → r < length q.rows → IsAt q r (state_at q r)
  at r l =
      let m : r < length p.rows = subst (λ (xs : List RowValue). r < length xs) rows l in
      subst (IsAt q r) (sym (state r)) (at_state r (state_at p r) m refl (t.at r m))

  leaf_kept : (a f n : ℕ) → array_at q a ≡ array_at p a → In (leaf_item p a f n) p.items
      → In (leaf_item q a f n) q.items
  leaf_kept a f n s i = subst (λ (xs : List ℕ). In (atom_item (get_or xs (f + n / 2) 0) n) q.items) (sym s)
      (subst (In (leaf_item p a f n)) (sym items) i)

  cut_kept : (a : ℕ) → a < length p.arrays → array_at q a ≡ array_at p a → Cut q a 0 (length (array_at q a))
  cut_kept a l s =
      subst (λ (xs : List ℕ). Cut q a 0 (length xs)) (sym s)
      (cut_map p q a (λ k m away e. away (sym (state (row_of_array p a k))
      ∙ ap (λ (xs : List ℕ). state_at q (get_or xs k 0)) (sym s) ∙ e))
      (λ f n o i. OneLeaf f n (part_same a f n s o) (leaf_kept a f n s i)) 0 (length (array_at p a)) (t.cut a l)
      (omega arith))

  cut : (a : ℕ) → a < length q.arrays → Cut q a 0 (length (array_at q a))
  cut a l =
      ⊎_elim (λ (s : array_at q a ≡ array_at p a). cut_kept a (omega (arith, long)) s)
      (λ (n : (a + 1 < length p.arrays) × (array_at q a ≡ [])). subst (λ (xs : List ℕ). Cut q a 0 (length xs))
      (sym n.1) (NoRows 0)) (each a)

  named : (a k : ℕ) → a < length q.arrays → k < length (array_at q a) → row_of_array q a k < length q.rows
  named a k l m =
      ⊎_elim
      (λ (s : array_at q a ≡ array_at p a).
      subst (λ (xs : List ℕ). get_or xs k 0 < length q.rows) (sym s)
      (subst (λ (xs : List RowValue). row_of_array p a k < length xs) (sym rows)
      (t.named a k (omega (arith, long)) (subst (λ (xs : List ℕ). k < length xs) s m))))
      (λ (n : (a + 1 < length p.arrays) × (array_at q a ≡ [])). absurd
      (none_below k (subst (λ (xs : List ℕ). k < length xs) n.1 m))) (each a)
    where
      none_below : (k : ℕ) → k < 0 → ⊥
      none_below k l = omega arith

  short : (a : ℕ) → a < length q.arrays → length (array_at q a) ≤ 2 ^ 30
  short a l =
      ⊎_elim (λ (s : array_at q a ≡ array_at p a). subst (λ (xs : List ℕ). length xs ≤ 2 ^ 30) (sym s)
      (t.short a (omega (arith, long))))
      (λ (n : (a + 1 < length p.arrays) × (array_at q a ≡ [])). subst (λ (xs : List ℕ). length xs ≤ 2 ^ 30) (sym n.1)
      (omega arith)) (each a)

  pub given_back : IsSameTree p q
  given_back =
      let rows_long = ap (λ (xs : List RowValue). length xs) rows in
      record {
        tree = record {
          brackets = subst (λ (f : ℕ → Entry). IsBrackets f (tokens q)) (sym entries)
              (subst (IsBrackets (table p)) (sym same_tokens) t.brackets);
          apart = subst AreApart (sym items) t.apart;
          each = each_same;
          at = at;
          cut = cut;
          named = named;
          short = short;
          counted = nodes ∙ t.counted ∙ ap nodes_of (sym same_tokens);
          all = count ∙ t.all ∙ ap (λ (xs : List DocRow). length xs) (sym same_doc);
          many = let m = t.many in omega (arith, count, rows_long);
          few = let m = t.few in let numbers = ap (λ (ts : List Token). length (numbers_of ts)) same_tokens in
              omega (arith, numbers, rows_long);
          light = let m = t.light in let weight = ap weight_of items in omega (arith, weight, rows_long);
          most = let m = t.most in omega (arith, rows_long);
        };
        doc = same_doc;
        rows = rows;
        nodes = nodes;
      }
