-- A stretch that is one leaf is flat.
use Rattle.std.proofs.Common.{◌≡◌, ◌∙◌, ◌+◌, ◌/◌, ◌%◌, ◌<◌, ◌++◌, ◌∷◌, ℕ, List, [], length, ap, inl, refl, sym, subst}
use Rattle.std.proofs.Common.{arith, Option, Some}
use Rattle.std.proofs.lemmas.List.{append-nil}
use Rattle.td_base.specs.Lists.{In}
use Rattle.td_base.proofs.Lists.{In-back}
use Rattle.td_path.specs.declared.slot.Slot.{Slot}
use Rattle.td_list.specs.Items.{Item, items_after, first_name}
use Rattle.td_brackets.specs.Brackets.{Token, Leaf, rows_of}
use Rattle.td_brackets.specs.Laws.{leaf_word, live_numbers}
use Rattle.td_tree.specs.Parts.{Parts, state_at, table, token_of, tokens_of, nodes_of, IsTree, IsFlattened}
use Rattle.td_tree.specs.Stretches.{IsOneLeaf, IsSlotStretch}
use Rattle.td_tree.specs.Walks.{IsStretch}
use Rattle.td_tree.proofs.ItemKinds.{IsLeafToken, Kind, IsOpen, IsRow, IsLeaf, IsClose, kind_of}
use Rattle.td_tree.proofs.ItemTokens.{tokens-append}
use Rattle.td_tree.proofs.Places.{after_item}
use Rattle.td_tree.proofs.Walked.{ended}

-- a leaf is the word of its rows, which are live
word_is : (before : List ℕ) (r : ℕ) (after : List ℕ) → leaf_word (before ++ r ∷ after) ≡ Leaf (before ++ r ∷ after) ∷ []
word_is [] r after = refl
word_is (x ∷ before) r after = refl

leaf_is : (p : Parts) (token : Token) (r : ℕ) → IsLeafToken p token r
    → token ∷ [] ≡ leaf_word (live_numbers (table p) (token ∷ []))
leaf_is p token r l =
    ap (λ (u : Token). u ∷ []) l.is ∙ sym (word_is l.before r l.after)
    ∙ ap leaf_word (sym (append-nil (l.before ++ r ∷ l.after)))
    ∙ ap (λ (u : Token). leaf_word (live_numbers (table p) (u ∷ []))) (sym l.is)

module _ (p : Parts) (t : IsTree p) (first : ℕ) (end : Option ℕ) (o : IsOneLeaf p first end) where
  -- the only item of a stretch
  record IsOnly (inner : List Item) : Type 0 where
    pub item : Item
    pub is : inner ≡ item ∷ []
    pub leaf : IsLeafToken p (token_of p item) (item.name / 3)

  leaf_token : (i : Item) → In i p.items → i.name ≡ first → IsLeafToken p (token_of p i) (i.name / 3)
  leaf_token i m e = of_kind (kind_of p t i m)
    where
      row : i.name % 3 ≡ 1
      row = ap (λ (x : ℕ). x % 3) e ∙ o.row

      of_kind : Kind p i → IsLeafToken p (token_of p i) (i.name / 3)
      of_kind (IsOpen k f) = absurd (omega (arith, row, k))
      of_kind (IsRow k f g) = absurd (o.leaf (ap (λ (x : ℕ). state_at p (x / 3)) (sym e) ∙ f))
      of_kind (IsLeaf k f l) = l
      of_kind (IsClose k f) = absurd (omega (arith, row, k))

  only : (s : IsStretch p (Some first) end) → 0 < length s.inner → IsOnly s.inner
  only s some = at s.inner refl some s.starts
    where
      same : (x y : ℕ) → Some x ≡ Some y → x ≡ y
      same x y e = cc

      at : (inner : List Item) → s.inner ≡ inner → 0 < length inner → first_name (inner ++ s.back) ≡ Some first
          → IsOnly s.inner
      at [] e l h = absurd (omega arith)
      at (i ∷ rest) e l h =
          let named = same i.name first h in
          let is : p.items ≡ s.front ++ i ∷ (rest ++ s.back) = s.is
          ∙ ap (λ (q : List Item). s.front ++ (q ++ s.back)) e in
          let next : first_name (rest ++ s.back) ≡ end =
          ap first_name (sym (after_item p t s.front i (rest ++ s.back) is))
          ∙ ap (λ (x : ℕ). first_name (items_after x p.items)) named ∙ o.next in
          record {
            item = i;
            is = ended p t (Some first) end s (first_name (rest ++ s.back)) next
                (record { done = i ∷ []; rest = rest; is = e; here = refl });
            leaf = leaf_token i (subst (In i) (sym is) (In-back i s.front (i ∷ (rest ++ s.back)) (inl refl))) named;
          }

  -- so the slot is flat
  pub one_flat : (slot : Slot) → IsSlotStretch p slot first end → IsFlattened p p slot
  one_flat slot s = record {
    tree = t;
    rows =
        ap (rows_of (table p)) (ap (tokens_of p) s.stretch.is
        ∙ tokens-append p s.stretch.front (s.stretch.inner ++ s.stretch.back)
        ∙ ap (λ (q : List Token). tokens_of p s.stretch.front ++ q)
        (tokens-append p s.stretch.inner s.stretch.back ∙ ap (λ (q : List Token). q ++ tokens_of p s.stretch.back) inner))
        ∙ s.flat;
    entries = refl;
    gone = λ r f. f;
    long = refl;
    nodes = omega arith;
  }
    where
      one : IsOnly s.stretch.inner
      one = only s.stretch s.some

      inner : tokens_of p s.stretch.inner ≡ leaf_word (live_numbers (table p) (tokens_of p s.stretch.inner))
      inner = ap (tokens_of p) one.is ∙ leaf_is p (token_of p one.item) (one.item.name / 3) one.leaf
          ∙ ap (λ (q : List Item). leaf_word (live_numbers (table p) (tokens_of p q))) (sym one.is)

  pub one_has_no_nodes : (s : IsStretch p (Some first) end) → p.nodes + nodes_of (tokens_of p s.inner) ≡ p.nodes
  one_has_no_nodes s = let none = at s.inner refl in omega arith
    where
      at : (inner : List Item) → s.inner ≡ inner → nodes_of (tokens_of p s.inner) ≡ 0
      at [] e = ap (λ (q : List Item). nodes_of (tokens_of p q)) e
      at (i ∷ rest) e =
          let one = only s (subst (λ (q : List Item). 0 < length q) (sym e) (omega arith)) in
          ap (λ (q : List Item). nodes_of (tokens_of p q)) one.is ∙ ap (λ (u : Token). nodes_of (u ∷ [])) one.leaf.is
