-- The rows of a tree in the order of its items.
use Rattle.std.proofs.Common.{◌≡◌, ◌≢◌, ◌⊎◌, ◌+◌, ◌-◌, ◌*◌, ◌/◌, ◌%◌, ◌<◌, ◌≤◌, ℕ, zero, suc, List, [], ◌∷◌, ◌++◌}
use Rattle.std.proofs.Common.{map, length, take, get_or, refl, sym, ap, ◌∙◌, subst, inl, inr, ⊎_elim, arith}
use Rattle.std.proofs.lemmas.List.{append-nil, take_more}
use Rattle.td_base.specs.Lists.{In, Successive}
use Rattle.td_base.proofs.Lists.{In-append, In-front, In-back, map_In, In-map}
use Rattle.td_list.specs.Items.{Item, IsItem}
use Rattle.td_list.specs.Places.{nothing}
use Rattle.td_brackets.specs.Brackets.{Token, Open, Atom, Close, IsBrackets}
use Rattle.td_brackets.specs.RowNumbers.{row_numbers_at, row_numbers, entry_of}
use Rattle.td_brackets.proofs.Words.{Node, node}
use Rattle.td_brackets.proofs.SidesOf.{split_at}
use Rattle.td_brackets.proofs.Entries.{row_numbers-append, entries_are, numbers_apart}
use Rattle.td_tree.specs.declared.tree_row.RowState.{RowState}
use Rattle.td_tree.specs.declared.tree_row.RowState.TheVariants.{Node as IsNode, InArray, Gone}
use Rattle.td_tree.specs.Parts.{Parts, state_at, table, array_at, part, row_of_array, row_token}
use Rattle.td_tree.specs.Parts.{kind_token, token_of, tokens_of, tokens, doc_rows, IsPart, IsKind}
use Rattle.td_tree.specs.Parts.{leaf_item, Cut, NoRows, OneLeaf, InTwo, IsAt, IsTree}
use Rattle.td_tree.specs.Reading.{shown_at, shown}
use Rattle.td_tree.proofs.ArrayParts.{part_in, part_place}
use Rattle.td_tree.proofs.ItemTokens.{leaf_token, tokens-append}

pub shown-append : (p : Parts) (xs ys : List Item) → shown p (xs ++ ys) ≡ shown p xs ++ shown p ys
shown-append p xs ys = ap row_numbers (tokens-append p xs ys) ∙ row_numbers-append (tokens_of p xs) (tokens_of p ys)

pub shown_more : (p : Parts) (items : List Item) (k : ℕ) → k < length items → shown p (take (k + 1) items)
    ≡ shown p (take k items) ++ shown_at p (get_or items k nothing)
shown_more p items k b =
    ap (shown p) (take_more items k nothing b) ∙ shown-append p (take k items) (get_or items k nothing ∷ [])
    ∙ ap (λ (rs : List ℕ). shown p (take k items) ++ rs) (append-nil (shown_at p (get_or items k nothing)))

pub shown_inside : (p : Parts) (items : List Item) (i : Item) (r : ℕ) → In i items → In r (shown_at p i)
    → In r (shown p items)
shown_inside p [] i r m n = absurd m
shown_inside p (j ∷ items) i r m n =
    ⊎_elim (λ (e : i ≡ j). In-front r (shown_at p j) (shown p items) (subst (λ (k : Item). In r (shown_at p k)) e n))
    (λ (k : In i items). In-back r (shown_at p j) (shown p items) (shown_inside p items i r k n)) m

-- each of them is of an item
pub shown_item : (p : Parts) (items : List Item) (r : ℕ) → In r (shown p items) → (i : Item) × In i items
    × In r (shown_at p i)
shown_item p [] r m = absurd m
shown_item p (j ∷ items) r m =
    ⊎_elim (λ (k : In r (shown_at p j)). (j, inl refl, k))
    (λ (k : In r (shown p items)). let o : (i : Item) × In i items × In r (shown_at p i) = shown_item p items r k in
    (o.0, inr o.1, o.2)) (In-append r (shown_at p j) (shown p items) m)

-- rows with a place

module _ (p : Parts) (t : IsTree p) where
  -- the entries of the rows are those of their numbers
  pub entries : map entry_of (doc_rows p) ≡ map (table p) (shown p p.items)
  entries = entries_are (table p) [] (tokens p) t.brackets.live

  pub apart : Successive (λ (r s : ℕ). (table p r).id ≢ (table p s).id) (shown p p.items)
  apart = numbers_apart (table p) (shown p p.items) (doc_rows p) entries t.brackets.document.apart

  kind_shown : (k q w r : ℕ) (s : RowState) → q < length p.rows → state_at p q ≡ s → IsKind p k s w
      → In r (row_numbers_at (kind_token k q (row_token p s q w))) → (r < length p.rows) × (state_at p r ≢ Gone)
  kind_shown zero q w r s l e h i = absurd i
  kind_shown (suc zero) q w r IsNode l e h i =
      ⊎_elim (λ (f : r ≡ q). (
        subst (λ (x : ℕ). x < length p.rows) (sym f) l,
        λ g. not_gone
            (sym e ∙ ap (state_at p) (sym f) ∙ g),
      )) (λ (z : ⊥). absurd z) i
    where
      not_gone : IsNode ≡ Gone → ⊥
      not_gone e = cc
  kind_shown (suc zero) q w r (InArray a c) l e h i =
      let k = part_place (array_at p a) (c - w / 2) w r i in
      let there = h.1.within in (
        subst (λ (x : ℕ). x < length p.rows) (sym k.3)
            (t.named a k.0 h.1.array (below k.0 (c - w / 2 + w) (length (array_at p a)) k.2 there)),
        λ g. not_gone a k.0 (sym (h.1.stand k.0 k.1 k.2) ∙ ap (state_at p) (sym k.3) ∙ g),
      )
    where
      below : (x y z : ℕ) → x < y → y ≤ z → x < z
      below x y z l m = omega arith

      not_gone : (a c : ℕ) → InArray a c ≡ Gone → ⊥
      not_gone a c e = cc
  kind_shown (suc zero) q w r Gone l e h i = absurd h
  kind_shown (suc (suc k)) q w r s l e h i = absurd i

  -- what is shown is a row that is not gone
  pub shown_stays : (r : ℕ) → In r (shown p p.items) → (r < length p.rows) × (state_at p r ≢ Gone)
  shown_stays r m =
      let i = shown_item p p.items r m in
      let k = t.each i.0 i.1 in
      kind_shown (i.0.name % 3) (i.0.name / 3) i.0.weight r (state_at p (i.0.name / 3)) k.known refl k.kind i.2

  -- the leaf of a row of an array
  pub record InLeaf (a c : ℕ) : Type 0 where
    pub from : ℕ
    pub count : ℕ
    pub is_part : IsPart p a from count
    pub there : In (leaf_item p a from count) p.items
    pub low : from ≤ c
    pub high : c < from + count

  in_cut : (a c : ℕ) (from n : ℕ) → Cut p a from n → from ≤ c → c < from + n → state_at p (row_of_array p a c)
      ≡ InArray a c → InLeaf a c
  in_cut a c from n (NoRows f) l h e = absurd (omega arith)
  in_cut a c from n (OneLeaf f m is i) l h e = record
      { from = f; count = m; is_part = is; there = i; low = l; high = h }
  in_cut a c from n (InTwo f m s other left right) l h e =
      ⊎_elim (λ (k : c < f + m / 2). in_cut a c f (m / 2) left l k e)
      (λ (k : (c ≡ f + m / 2) ⊎ (f + m / 2 < c)).
      ⊎_elim (λ (g : c ≡ f + m / 2). absurd (other (subst (λ (x : ℕ). state_at p (row_of_array p a x) ≡ InArray a x) g
      e)))
      (λ (g : f + m / 2 < c). in_cut a c (f + m / 2 + 1) (m - m / 2 - 1) right (omega arith) (high f m c h g) e) k)
      (three c (f + m / 2))
    where
      three : (x y : ℕ) → (x < y) ⊎ ((x ≡ y) ⊎ (y < x))
      three zero zero = inr (inl refl)
      three zero (suc y) = inl (omega arith)
      three (suc x) zero = inr (inr (omega arith))
      three (suc x) (suc y) =
          ⊎_elim (λ (h : x < y). inl (omega arith)) (λ (h : (x ≡ y) ⊎ (y < x)). ⊎_elim
          (λ (e : x ≡ y). inr (inl (ap suc e))) (λ (g : y < x). inr (inr (omega arith))) h) (three x y)

      high : (f m c : ℕ) → c < f + m → f + m / 2 < c → c < f + m / 2 + 1 + (m - m / 2 - 1)
      high f m c h g = omega arith

  pub leaf_with : (r a c : ℕ) → r < length p.rows → state_at p r ≡ InArray a c → InLeaf a c
  leaf_with r a c l e =
      let at : IsAt p r (InArray a c) = subst (IsAt p r) e (t.at r l) in
      in_cut a c 0 (length (array_at p a)) (t.cut a at.0) (omega arith) (omega (arith, at.1)) (ap (state_at p) at.2 ∙ e)

  stands_at : (r : ℕ) (s : RowState) → r < length p.rows → state_at p r ≡ s → s ≢ Gone → In r (shown p p.items)
  stands_at r IsNode l e n =
      let here : IsItem (3 * r) p.items = subst (IsAt p r) e (t.at r l) in
      let m = map_In (λ (i : Item). i.name) (3 * r) p.items here in
      let i : Item = m.0 in
      let is_open : token_of p i ≡ Open r = opened i.name i.weight (sym m.2) in
      let there : In (Open r) (tokens p) = subst (λ (q : Token). In q (tokens p)) is_open
      (In-map (token_of p) i p.items m.1) in
      let s = split_at (Open r) (tokens p) there in
      let b : IsBrackets (table p) (s.front ++ Open r ∷ s.back) = subst (IsBrackets (table p)) s.is t.brackets in
      let k : Node r s.front s.back = node s.front s.back r b.word in
      subst (λ (q : List Token). In r (row_numbers q))
      (sym (s.is ∙ ap (λ (q : List Token). s.front ++ Open r ∷ q) k.is))
      (subst (In r) (sym (row_numbers-append s.front (Open r ∷ (k.left ++ Atom r ∷ (k.right ++ Close r ∷ k.back)))))
      (In-back r (row_numbers s.front) (row_numbers (k.left ++ Atom r ∷ (k.right ++ Close r ∷ k.back)))
      (subst (In r) (sym (row_numbers-append k.left (Atom r ∷ (k.right ++ Close r ∷ k.back))))
      (In-back r (row_numbers k.left) (r ∷ row_numbers (k.right ++ Close r ∷ k.back)) (inl refl)))))
    where
      opened : (x w : ℕ) → x ≡ 3 * r → kind_token (x % 3) (x / 3) (row_token p (state_at p (x / 3)) (x / 3) w) ≡ Open r
      opened x w e = at_name (x % 3) (x / 3) (omega arith) (omega arith)
        where
          at_name : (k q : ℕ) → k ≡ 0 → q ≡ r → kind_token k q (row_token p (state_at p q) q w) ≡ Open r
          at_name k q e f = λ i. kind_token (e i) (f i) (row_token p (state_at p (f i)) (f i) w)
  stands_at r (InArray a c) l e n =
      let at : IsAt p r (InArray a c) = subst (IsAt p r) e (t.at r l) in
      let k = leaf_with r a c l e in
      shown_inside p p.items (leaf_item p a k.from k.count) r k.there
      (subst (λ (q : Token). In r (row_numbers_at q)) (sym (leaf_token p a k.from k.count k.is_part))
      (subst (λ (x : ℕ). In x (part (array_at p a) k.from k.count)) at.2
      (part_in (array_at p a) k.from k.count c k.low k.high k.is_part.within)))
  stands_at r Gone l e n = absurd (n refl)

  -- and each row that is not gone is shown
  pub stands : (r : ℕ) → r < length p.rows → state_at p r ≢ Gone → In r (shown p p.items)
  stands r l n = stands_at r (state_at p r) l refl n
