-- The items on a side of a node, and what is read off them.
use Rattle.std.proofs.Common.{◌≡◌, ◌≢◌, ◌⊎◌, ◌+◌, ◌*◌, ℕ, List, [], ◌∷◌, ◌++◌, Bool, true, false, ◌&&◌, nat_lt}
use Rattle.std.proofs.Common.{nat_eq, map, length, Option, Some, None, refl, sym, ap, ◌∙◌, subst, inl, inr}
use Rattle.std.proofs.Common.{⊎_elim, arith, append_assoc, length-append, is_some, true≢false}
use Rattle.std.proofs.lemmas.Bool.{eq-eqb, eqb-true, lt-ltb, le-ltb, cases_Bool}
use Rattle.td_base.specs.declared.bit.Bit.{Bit}
use Rattle.td_base.specs.declared.bit.Bit.TheVariants.{Left, Right}
use Rattle.td_base.specs.Value.{AtomIdValue}
use Rattle.td_base.specs.Lists.{In, Successive}
use Rattle.td_base.proofs.Lists.{In-append, In-front, In-back, In-map, map_In, all_in, across, successive_back}
use Rattle.td_base.proofs.Rising.{rises_tri}
use Rattle.td_base.proofs.Searches.{find_none}
use Rattle.td_path.specs.declared.slot.Slot.{Slot}
use Rattle.td_path.specs.declared.slot.Slot.TheVariants.{At}
use Rattle.td_doc.specs.Document.{DocRow, row_id, has_id, find_row, is_empty_list}
use Rattle.td_doc.specs.Slots.{rows_in_slot, is_empty_slot, is_within}
use Rattle.td_doc.proofs.Placement.{self_id}
use Rattle.td_list.specs.Items.{Item, names, IsItem, AreApart, first_name, items_before, items_after, place_of}
use Rattle.td_list.proofs.Parted.{before_at, after_at}
use Rattle.td_list.proofs.Names.{apart-parts, apart-back}
use Rattle.td_brackets.specs.Brackets.{Token, Leaf, Entry, IsWord, rows_of}
use Rattle.td_brackets.specs.RowNumbers.{entry_of}
use Rattle.td_brackets.proofs.NodeRows.{word_rows}
use Rattle.td_brackets.proofs.Entries.{entries_are, not_found}
use Rattle.td_tree.specs.Parts.{Parts, table, token_of, tokens_of, tokens, doc_rows, IsTree}
use Rattle.td_tree.specs.Reading.{shown_at, shown, side_start, side_end, is_name}
use Rattle.td_tree.proofs.Shown.{shown_inside, shown_item, apart}
use Rattle.td_tree.proofs.NodeParts.{NodeAt}
use Rattle.td_tree.proofs.Orders.{item_in}

-- the items of a side
pub record SideItems (p : Parts) (x : ℕ) (bit : Bit) : Type 0 where
  pub front : List Item
  pub start : Item
  pub inner : List Item
  pub ending : Item
  pub back : List Item
  pub is : p.items ≡ front ++ start ∷ (inner ++ ending ∷ back)
  pub start_named : start.name ≡ side_start x bit
  pub end_named : ending.name ≡ side_end x bit
  pub word : IsWord (tokens_of p inner)
  pub rows : map entry_of (rows_in_slot (doc_rows p) (At (table p x).id bit)) ≡ map (table p) (shown p inner)

pub side_items : (p : Parts) (x : ℕ) → NodeAt p x → (bit : Bit) → SideItems p x bit
side_items p x n Left = record {
  front = n.front;
  start = n.opens;
  inner = n.left;
  ending = n.atom;
  back = n.right ++ n.closes ∷ n.back;
  is = n.is;
  start_named = n.open_named;
  end_named = n.atom_named;
  word = n.left_word;
  rows = n.told.in_left;
}
side_items p x n Right = record {
  front = n.front ++ n.opens ∷ n.left;
  start = n.atom;
  inner = n.right;
  ending = n.closes;
  back = n.back;
  is = n.is ∙ sym (append_assoc n.front (n.opens ∷ n.left) (n.atom ∷ (n.right ++ n.closes ∷ n.back)));
  start_named = n.atom_named;
  end_named = n.close_named ∙ two;
  word = n.right_word;
  rows = n.told.in_right;
}
  where
    two : 3 * x + 2 ≡ 3 * x + 1 + 1
    two = omega arith

-- of rows with the entries of some numbers

pub empty_same : (table : ℕ → Entry) (rows : List DocRow) (numbers : List ℕ) → map entry_of rows ≡ map table numbers
    → is_empty_list rows ≡ is_empty_list numbers
empty_same table [] [] e = refl
empty_same table [] (n ∷ numbers) e = absurd cc
empty_same table (r ∷ rows) [] e = absurd cc
empty_same table (r ∷ rows) (n ∷ numbers) e = refl

found : (x : AtomIdValue) (rows : List DocRow) (q : DocRow) → In q rows → row_id q ≡ x → (o : Option DocRow)
    → find_row x rows ≡ o → is_some o ≡ true
found x rows q i e None f = absurd (true≢false
    (sym (self_id q) ∙ ap (λ (y : AtomIdValue). has_id y q) e ∙ find_none (has_id x) rows q f i))
found x rows q i e (Some r) f = refl

module _ (p : Parts) (t : IsTree p) where
  -- rows of one identity are one
  pub one_number : (r s : ℕ) → In r (shown p p.items) → In s (shown p p.items) → (table p r).id ≡ (table p s).id → r ≡ s
  one_number r s i j e =
      ⊎_elim (λ (k : r ≡ s). k)
      (λ (k : ((table p r).id ≢ (table p s).id) ⊎ ((table p s).id ≢ (table p r).id)). ⊎_elim
      (λ (n : (table p r).id ≢ (table p s).id). absurd (n e))
      (λ (n : (table p s).id ≢ (table p r).id). absurd (n (sym e))) k)
      (rises_tri (λ (a b : ℕ). (table p a).id ≢ (table p b).id) (shown p p.items) (apart p t) r s i j)

  -- whether a row is in a slot with these rows
  pub within_is : (slot : Slot) (numbers : List ℕ) → map entry_of (rows_in_slot (doc_rows p) slot)
      ≡ map (table p) numbers → ((r : ℕ) → In r numbers → In r (shown p p.items)) → (y : ℕ) → In y (shown p p.items)
      → (c : Bool) → (In y numbers × (c ≡ true)) ⊎ ((In y numbers → ⊥) × (c ≡ false)) → c
      ≡ is_within (doc_rows p) (table p y).id slot
  within_is slot numbers e sub y j c d =
      ⊎_elim
      (λ (k : In y numbers × (c ≡ true)).
      let q = map_In entry_of (table p y) (rows_in_slot (doc_rows p) slot)
      (subst (In (table p y)) (sym e) (In-map (table p) y numbers k.0)) in
      k.1 ∙ sym (found (table p y).id (rows_in_slot (doc_rows p) slot) q.0 q.1 (sym (ap (λ (v : Entry). v.id) q.2))
      (find_row (table p y).id (rows_in_slot (doc_rows p) slot)) refl))
      (λ (k : (In y numbers → ⊥) × (c ≡ false)).
      k.1 ∙ sym (ap is_some (not_found (table p) numbers (rows_in_slot (doc_rows p) slot) e (table p y).id
      (λ r i f. k.0 (subst (λ (s : ℕ). In s numbers) (one_number r y (sub r i) j f) i)))))
      d

  -- an item that has a row is the only one
  pub one_holder : (i j : Item) (y : ℕ) → In i p.items → In j p.items → In y (shown_at p i) → In y (shown_at p j) → i
      ≡ j
  one_holder i j y m n a b =
      let k = item_in p t i m in
      let apart_parts : Successive (λ (r s : ℕ). (table p r).id ≢ (table p s).id)
      (shown p (items_before i.name p.items) ++ (shown_at p i ++ shown p (items_after i.name p.items))) =
      subst (Successive (λ (r s : ℕ). (table p r).id ≢ (table p s).id)) k.shown_is (apart p t) in
      ⊎_elim
      (λ (f : In j (items_before i.name p.items)).
      absurd (across (λ (r s : ℕ). (table p r).id ≢ (table p s).id) (shown p (items_before i.name p.items))
      (shown_at p i ++ shown p (items_after i.name p.items)) apart_parts y y
      (shown_inside p (items_before i.name p.items) j y f b)
      (In-front y (shown_at p i) (shown p (items_after i.name p.items)) a) refl))
      (λ (f : In j (i ∷ items_after i.name p.items)).
      ⊎_elim (λ (e : j ≡ i). sym e)
      (λ (g : In j (items_after i.name p.items)).
      absurd (across (λ (r s : ℕ). (table p r).id ≢ (table p s).id) (shown_at p i)
      (shown p (items_after i.name p.items))
      (successive_back (λ (r s : ℕ). (table p r).id ≢ (table p s).id) (shown p (items_before i.name p.items))
      (shown_at p i ++ shown p (items_after i.name p.items)) apart_parts)
      y y a (shown_inside p (items_after i.name p.items) j y g b) refl)) f)
      (In-append j (items_before i.name p.items) (i ∷ items_after i.name p.items) (subst (In j) k.is n))

  -- places of items

  pub place_at : (front : List Item) (i : Item) (back : List Item) (x : ℕ) → p.items ≡ front ++ i ∷ back → i.name ≡ x
      → place_of x p.items ≡ length front
  place_at front i back x e f = ap (place_of x) e
      ∙ ap length (before_at x front i back f (λ k. apart-parts front (i ∷ back) (subst AreApart e t.apart) x k
      (inl (sym f))))

  pub after_is_at : (front : List Item) (i : Item) (back : List Item) (x : ℕ) → p.items ≡ front ++ i ∷ back → i.name
      ≡ x → items_after x p.items ≡ back
  after_is_at front i back x e f = ap (items_after x) e
      ∙ after_at x front i back f (λ k. apart-parts front (i ∷ back) (subst AreApart e t.apart) x k (inl (sym f)))

  module _ (x : ℕ) (bit : Bit) (s : SideItems p x bit) where
    all_is : p.items ≡ (s.front ++ s.start ∷ s.inner) ++ s.ending ∷ s.back
    all_is = s.is ∙ sym (append_assoc s.front (s.start ∷ s.inner) (s.ending ∷ s.back))

    start_in : In s.start p.items
    start_in = subst (In s.start) (sym s.is) (In-back s.start s.front (s.start ∷ (s.inner ++ s.ending ∷ s.back))
        (inl refl))

    end_in : In s.ending p.items
    end_in = subst (In s.ending) (sym all_is) (In-back s.ending (s.front ++ s.start ∷ s.inner) (s.ending ∷ s.back)
        (inl refl))

    pub start_there : IsItem (side_start x bit) p.items
    start_there = subst (λ (y : ℕ). IsItem y p.items) s.start_named
        (In-map (λ (i : Item). i.name) s.start p.items start_in)

    pub end_there : IsItem (side_end x bit) p.items
    end_there = subst (λ (y : ℕ). IsItem y p.items) s.end_named (In-map (λ (i : Item). i.name) s.ending p.items end_in)

    inner_in : (i : Item) → In i s.inner → In i p.items
    inner_in i m = subst (In i) (sym s.is) (In-back i s.front (s.start ∷ (s.inner ++ s.ending ∷ s.back))
        (inr (In-front i s.inner (s.ending ∷ s.back) m)))

    pub inner_shown : (r : ℕ) → In r (shown p s.inner) → In r (shown p p.items)
    inner_shown r m = let i = shown_item p s.inner r m in shown_inside p p.items i.0 r (inner_in i.0 i.1) i.2

    inner_live : (rs : List ℕ) (r : ℕ) → In (Leaf rs) (tokens_of p s.inner) → In r rs → (table p r).deletes ≡ []
    inner_live rs r m n = t.brackets.live rs r (let i = map_In (token_of p) (Leaf rs) s.inner m in
        subst (λ (q : Token). In q (tokens p)) (sym i.2) (In-map (token_of p) i.0 p.items (inner_in i.0 i.1))) n

    -- nothing is on the side where its end follows its start
    empty_at : (inner : List Item) → inner ≡ s.inner
        → is_name (side_end x bit) (first_name (inner ++ s.ending ∷ s.back)) ≡ is_empty_list (tokens_of p inner)
    empty_at [] e = eq-eqb s.ending.name (side_end x bit) s.end_named
    empty_at (i ∷ inner) e =
        ⊎_elim
        (λ (f : nat_eq i.name (side_end x bit) ≡ true).
        let same : i.name ≡ s.ending.name = eqb-true i.name (side_end x bit) f ∙ sym s.end_named in
        let parts : p.items ≡ (s.front ++ s.start ∷ []) ++ i ∷ (inner ++ s.ending ∷ s.back) = s.is
        ∙ ap (λ (q : List Item). s.front ++ s.start ∷ (q ++ s.ending ∷ s.back)) (sym e)
        ∙ sym (append_assoc s.front (s.start ∷ []) (i ∷ (inner ++ s.ending ∷ s.back))) in
        let after : AreApart (i ∷ (inner ++ s.ending ∷ s.back)) =
        apart-back (s.front ++ s.start ∷ []) (i ∷ (inner ++ s.ending ∷ s.back)) (subst AreApart parts t.apart) in
        absurd (all_in (λ (y : ℕ). i.name ≢ y) (names (inner ++ s.ending ∷ s.back)) after.0 s.ending.name
        (In-map (λ (k : Item). k.name) s.ending (inner ++ s.ending ∷ s.back)
        (In-back s.ending inner (s.ending ∷ s.back) (inl refl))) same))
        (λ (f : nat_eq i.name (side_end x bit) ≡ false). f) (cases_Bool (nat_eq i.name (side_end x bit)))

    pub empty_is : is_name (side_end x bit) (first_name (items_after (side_start x bit) p.items))
        ≡ is_empty_slot (doc_rows p) (At (table p x).id bit)
    empty_is =
        ap (λ (q : List Item). is_name (side_end x bit) (first_name q))
        (after_is_at s.front s.start (s.inner ++ s.ending ∷ s.back) (side_start x bit) s.is s.start_named)
        ∙ empty_at s.inner refl
        ∙ sym (empty_same (table p) (rows_in_slot (doc_rows p) (At (table p x).id bit)) (shown p s.inner) s.rows
        ∙ sym (empty_same (table p) (rows_of (table p) (tokens_of p s.inner)) (shown p s.inner)
        (entries_are (table p) [] (tokens_of p s.inner) inner_live))
        ∙ word_rows (table p) [] (tokens_of p s.inner) s.word)

    -- a row is on the side where its item stands between start and end

    abbrev lt : ℕ → ℕ → Bool
    lt a b = nat_lt (place_of a p.items) (place_of b p.items)

    place_start : place_of (side_start x bit) p.items ≡ length s.front
    place_start = place_at s.front s.start (s.inner ++ s.ending ∷ s.back) (side_start x bit) s.is s.start_named

    place_end : place_of (side_end x bit) p.items ≡ length (s.front ++ s.start ∷ s.inner)
    place_end = place_at (s.front ++ s.start ∷ s.inner) s.ending s.back (side_end x bit) all_is s.end_named

    and_false : (b c : Bool) → c ≡ false → (b && c) ≡ false
    and_false true c e = e
    and_false false c e = refl

    first_false : (b c : Bool) → b ≡ false → (b && c) ≡ false
    first_false b c e = ap (λ (d : Bool). d && c) e

    both_true : (b c : Bool) → b ≡ true → c ≡ true → (b && c) ≡ true
    both_true b c e f = ap (λ (d : Bool). d && c) e ∙ f

    abbrev Between : Item → Type 0
    Between i = (In i s.inner × ((lt (side_start x bit) i.name && lt i.name (side_end x bit)) ≡ true))
        ⊎ ((In i s.inner → ⊥) × ((lt (side_start x bit) i.name && lt i.name (side_end x bit)) ≡ false))

    ends_long : length (s.front ++ s.start ∷ s.inner) ≡ length s.front + (1 + length s.inner)
    ends_long = length-append s.front (s.start ∷ s.inner) ∙ ap (λ (n : ℕ). length s.front + n) (omega arith)

    -- the place of an item of some stretch
    pub record Within (items : List Item) (i : Item) : Type 0 where
      pub before : List Item
      pub after : List Item
      pub is : items ≡ before ++ i ∷ after

    within : (items : List Item) (i : Item) → In i items → Within items i
    within [] i m = absurd m
    within (j ∷ items) i m =
        ⊎_elim (λ (e : i ≡ j). record { before = []; after = items; is = ap (λ (k : Item). k ∷ items) (sym e) })
        (λ (k : In i items). let w = within items i k in
        record { before = j ∷ w.before; after = w.after; is = ap (λ (q : List Item). j ∷ q) w.is }) m

    in_front : (i : Item) → In i s.front → Between i
    in_front i m =
        let w = within s.front i m in
        let e : p.items ≡ w.before ++ i ∷ (w.after ++ s.start ∷ (s.inner ++ s.ending ∷ s.back)) = s.is
        ∙ ap (λ (q : List Item). q ++ s.start ∷ (s.inner ++ s.ending ∷ s.back)) w.is
        ∙ append_assoc w.before (i ∷ w.after) (s.start ∷ (s.inner ++ s.ending ∷ s.back)) in
        let here = place_at w.before i (w.after ++ s.start ∷ (s.inner ++ s.ending ∷ s.back)) i.name e refl in
        let long = ap length w.is ∙ length-append w.before (i ∷ w.after) in
        let start = place_start in
        inr (
          (λ k. not_both i m k),
          first_false (lt (side_start x bit) i.name) (lt i.name (side_end x bit))
              (le-ltb (place_of (side_start x bit) p.items) (place_of i.name p.items) (omega arith)),
        )
      where
        not_both : (i : Item) → In i s.front → In i s.inner → ⊥
        not_both i m k =
            apart-parts s.front (s.start ∷ (s.inner ++ s.ending ∷ s.back)) (subst AreApart s.is t.apart) i.name
            (In-map (λ (j : Item). j.name) i s.front m)
            (inr (In-map (λ (j : Item). j.name) i (s.inner ++ s.ending ∷ s.back)
            (In-front i s.inner (s.ending ∷ s.back) k)))

    at_start : (i : Item) → i ≡ s.start → Between i
    at_start i e =
        let same : place_of i.name p.items ≡ place_of (side_start x bit) p.items =
        ap (λ (n : ℕ). place_of n p.items) (ap (λ (j : Item). j.name) e ∙ s.start_named) in
        inr (
          (λ k.
              apart-parts (s.front ++ s.start ∷ []) (s.inner ++ s.ending ∷ s.back)
              (subst AreApart (s.is ∙ sym (append_assoc s.front (s.start ∷ []) (s.inner ++ s.ending ∷ s.back)))
              t.apart) i.name
              (In-map (λ (j : Item). j.name) i (s.front ++ s.start ∷ []) (In-back i s.front (s.start ∷ []) (inl e)))
              (In-map (λ (j : Item). j.name) i (s.inner ++ s.ending ∷ s.back)
              (In-front i s.inner (s.ending ∷ s.back) k))),
          first_false (lt (side_start x bit) i.name) (lt i.name (side_end x bit))
              (le-ltb (place_of (side_start x bit) p.items) (place_of i.name p.items) (omega arith)),
        )

    in_inner : (i : Item) → In i s.inner → Between i
    in_inner i m =
        let w = within s.inner i m in
        let e : p.items ≡ (s.front ++ s.start ∷ w.before) ++ i ∷ (w.after ++ s.ending ∷ s.back) =
        s.is ∙ ap (λ (q : List Item). s.front ++ s.start ∷ (q ++ s.ending ∷ s.back)) w.is
        ∙ regroup s.front s.start w.before (i ∷ w.after) (s.ending ∷ s.back) in
        let here = place_at (s.front ++ s.start ∷ w.before) i (w.after ++ s.ending ∷ s.back) i.name e refl in
        let before_long = length-append s.front (s.start ∷ w.before) in
        let inner_long = ap length w.is ∙ length-append w.before (i ∷ w.after) in
        let start = place_start in
        let end = place_end in
        let long = ends_long in
        inl (
          m,
          both_true (lt (side_start x bit) i.name) (lt i.name (side_end x bit))
              (lt-ltb (place_of (side_start x bit) p.items) (place_of i.name p.items) (omega arith))
              (lt-ltb (place_of i.name p.items) (place_of (side_end x bit) p.items) (omega arith)),
        )
      where
        regroup : (a : List Item) (x : Item) (b c d : List Item) → a ++ x ∷ ((b ++ c) ++ d) ≡ (a ++ x ∷ b) ++ (c ++ d)
        regroup a x b c d = simp append_assoc

    behind : (i : Item) → In i (s.ending ∷ s.back) → Between i
    behind i m =
        let w = within (s.ending ∷ s.back) i m in
        let e : p.items ≡ ((s.front ++ s.start ∷ s.inner) ++ w.before) ++ i ∷ w.after = all_is
        ∙ ap (λ (q : List Item). (s.front ++ s.start ∷ s.inner) ++ q) w.is
        ∙ sym (append_assoc (s.front ++ s.start ∷ s.inner) w.before (i ∷ w.after)) in
        let here = place_at ((s.front ++ s.start ∷ s.inner) ++ w.before) i w.after i.name e refl in
        let long = length-append (s.front ++ s.start ∷ s.inner) w.before in
        let end = place_end in
        inr (
          (λ k.
              apart-parts (s.front ++ s.start ∷ s.inner) (s.ending ∷ s.back) (subst AreApart all_is t.apart) i.name
              (In-map (λ (j : Item). j.name) i (s.front ++ s.start ∷ s.inner)
              (In-back i s.front (s.start ∷ s.inner) (inr k)))
              (In-map (λ (j : Item). j.name) i (s.ending ∷ s.back) m)),
          and_false (lt (side_start x bit) i.name) (lt i.name (side_end x bit))
              (le-ltb (place_of i.name p.items) (place_of (side_end x bit) p.items) (omega arith)),
        )

    between : (i : Item) → In i p.items → Between i
    between i m =
        ⊎_elim (λ (k : In i s.front). in_front i k)
        (λ (k : In i (s.start ∷ (s.inner ++ s.ending ∷ s.back))).
        ⊎_elim (λ (e : i ≡ s.start). at_start i e) (λ (l : In i (s.inner ++ s.ending ∷ s.back)). ⊎_elim
        (λ (n : In i s.inner). in_inner i n) (λ (n : In i (s.ending ∷ s.back)). behind i n)
        (In-append i s.inner (s.ending ∷ s.back) l)) k)
        (In-append i s.front (s.start ∷ (s.inner ++ s.ending ∷ s.back)) (subst (In i) s.is m))

    pub between_is : (i : Item) (name y : ℕ) → In i p.items → i.name ≡ name → In y (shown_at p i)
        → (lt (side_start x bit) name && lt name (side_end x bit))
        ≡ is_within (doc_rows p) (table p y).id (At (table p x).id bit)
    between_is i name y m e h =
        subst (λ (n : ℕ). (lt (side_start x bit) n && lt n (side_end x bit))
        ≡ is_within (doc_rows p) (table p y).id (At (table p x).id bit)) e
        (within_is (At (table p x).id bit) (shown p s.inner) s.rows inner_shown y (shown_inside p p.items i y m h)
        (lt (side_start x bit) i.name && lt i.name (side_end x bit))
        (⊎_elim (λ (k : In i s.inner × ((lt (side_start x bit) i.name && lt i.name (side_end x bit)) ≡ true)). inl
        (shown_inside p s.inner i y k.0 h, k.1))
        (λ (k : (In i s.inner → ⊥) × ((lt (side_start x bit) i.name && lt i.name (side_end x bit)) ≡ false)).
        inr (
          (λ l. let j = shown_item p s.inner y l in
              k.0 (subst (λ (q : Item). In q s.inner) (one_holder j.0 i y (inner_in j.0 j.1) m j.2 h) j.1)),
          k.1,
        ))
        (between i m)))
