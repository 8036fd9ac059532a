-- The rows on the sides of a row that stands in a leaf.
use Rattle.std.proofs.Common.{◌≢◌, ◌∷◌, length, nat_eq, true≢false, ◌≡◌, ◌+◌, ◌-◌, ◌/◌, ◌∙◌, ◌≤◌, ◌<◌}
use Rattle.std.proofs.Common.{◌⊎◌, ℕ, List, [], map, sym, subst, ap, refl, inl, inr, arith, Option}
use Rattle.std.proofs.Common.{Bool, true, false, ◌==◌, ◌&&◌, nat_le, nat_lt}
use Rattle.std.proofs.lemmas.Bool.{and_parts, eq-eqb, eqb-true, le-leb, leb-true, lt-ltb, ltb-true}
use Rattle.std.proofs.lemmas.Bool.Decides.{nat_tests}
use Rattle.td_base.specs.Lists.{In}
use Rattle.td_base.specs.declared.bit.Bit.TheVariants.{Left, Right}
use Rattle.td_path.specs.declared.slot.Slot.{Slot}
use Rattle.td_path.specs.declared.slot.Slot.TheVariants.{At}
use Rattle.td_doc.specs.Document.{is_empty_list}
use Rattle.td_doc.specs.Slots.{rows_in_slot, is_within}
use Rattle.td_list.specs.Items.{items_before, items_after}
use Rattle.td_brackets.specs.Brackets.{move_all, slot_round, LeafIn}
use Rattle.td_brackets.specs.RowNumbers.{entry_of}
use Rattle.td_brackets.proofs.Deeper.{RowTold}
use Rattle.td_tree.specs.declared.tree_row.RowState.{RowState}
use Rattle.td_tree.specs.declared.tree_row.RowState.TheVariants.{Node, InArray, Gone}
use Rattle.td_tree.specs.Parts.{Parts, state_at, IsAt, Stand, table, array_at, part, row_of_array}
use Rattle.td_tree.specs.Parts.{leaf_item, tokens_of, doc_rows, IsPart, IsTree}
use Rattle.td_tree.specs.Reading.{slot_or, is_in_part, shown}
use Rattle.td_tree.proofs.ArrayParts.{part_length, part_in, part_place}
use Rattle.td_tree.proofs.Shown.{stands}
use Rattle.td_tree.proofs.SideItems.{within_is}
use Rattle.td_tree.proofs.LeafParts.{told, leaf_among}
use Rattle.td_tree.proofs.Orders.{item_in}

module _ (p : Parts) (t : IsTree p) (a i b from n f m : ℕ) (slot : Option Slot) (same : b ≡ a)
    (leaf : IsPart p a from n) (there : In (leaf_item p a from n) p.items)
    (is_part : IsPart p b f m) (middle : f + m / 2 ≡ i)
    (down : (round : Slot) → LeafIn (table p) (doc_rows p) (part (array_at p b) from n) round
    → LeafIn (table p) (doc_rows p) (part (array_at p b) f m) (slot_or round slot)) where
  abbrev pub round : Slot
  round = slot_round (table p) (move_all [] (tokens_of p (items_before (leaf_item p a from n).name p.items)))

  among : LeafIn (table p) (doc_rows p) (part (array_at p a) from n) round
  among =
      leaf_among p t a from n leaf (items_before (leaf_item p a from n).name p.items)
      (items_after (leaf_item p a from n).name p.items) (item_in p t (leaf_item p a from n) there).is

  inside : LeafIn (table p) (doc_rows p) (part (array_at p a) f m) (slot_or round slot)
  inside = subst (λ (k : ℕ). LeafIn (table p) (doc_rows p) (part (array_at p k) f m) (slot_or round slot)) same
      (down round (subst (λ (k : ℕ). LeafIn (table p) (doc_rows p) (part (array_at p k) from n) round) (sym same)
      among))

  pub leaf_told : RowTold (table p) (doc_rows p) (row_of_array p a (f + m / 2)) (slot_or round slot)
      (part (array_at p a) f (m / 2)) (part (array_at p a) (f + m / 2 + 1) (m - m / 2 - 1))
  leaf_told = told p a f m (subst (λ (k : ℕ). IsPart p k f m) same is_part) (slot_or round slot) inside

  pub leaf_left_rows : map entry_of (rows_in_slot (doc_rows p) (At (table p (row_of_array p a i)).id Left))
      ≡ map (table p) (part (array_at p a) f (m / 2))
  leaf_left_rows = ap (λ (k : ℕ). map entry_of (rows_in_slot (doc_rows p)
      (At (table p (row_of_array p a k)).id Left))) (sym middle) ∙ leaf_told.in_left

  pub leaf_right_rows : map entry_of (rows_in_slot (doc_rows p) (At (table p (row_of_array p a i)).id Right))
      ≡ map (table p) (part (array_at p a) (f + m / 2 + 1) (m - m / 2 - 1))
  leaf_right_rows = ap (λ (k : ℕ). map entry_of (rows_in_slot (doc_rows p)
      (At (table p (row_of_array p a k)).id Right))) (sym middle) ∙ leaf_told.in_right

-- a row of an array, by its state
pub array_place : (p : Parts) → IsTree p → (r a i : ℕ) → r < length p.rows → state_at p r ≡ InArray a i
    → (a < length p.arrays) × (i < length (array_at p a)) × (row_of_array p a i ≡ r)
array_place p t r a i l e = let at : IsAt p r (InArray a i) = subst (IsAt p r) e (t.at r l) in at

pub empty_part : (xs : List ℕ) (from n : ℕ) → from + n ≤ length xs → nat_eq n 0 ≡ is_empty_list (part xs from n)
empty_part xs from n h = by_length (part xs from n) n (part_length xs from n h)
  where
    by_length : (ys : List ℕ) (n : ℕ) → length ys ≡ n → nat_eq n 0 ≡ is_empty_list ys
    by_length [] n e = eq-eqb n 0 (sym e)
    by_length (y ∷ ys) n e = not_zero n (omega arith)
      where
        not_zero : (n : ℕ) → 0 < n → nat_eq n 0 ≡ false
        not_zero n h = grind (arith, nat_tests)

module _ (p : Parts) (t : IsTree p) (a from n : ℕ) (array : a < length p.arrays)
    (within : from + n ≤ length (array_at p a)) (stand : Stand p a from n) where
  in_some : (s : RowState) → is_in_part s a from n ≡ true → (k : ℕ) × (s ≡ InArray a k) × (from ≤ k) × (k < from + n)
  in_some Node e = absurd (true≢false (sym e))
  in_some (InArray b k) e =
      let first : (b == a) ≡ true = (and_parts (b == a) (nat_le from k && nat_lt k (from + n)) e).0 in
      let second : (nat_le from k && nat_lt k (from + n))
      ≡ true = (and_parts (b == a) (nat_le from k && nat_lt k (from + n)) e).1 in (
        k,
        ap (λ (c : ℕ). InArray c k) (eqb-true b a first),
        leb-true from k ((and_parts (nat_le from k) (nat_lt k (from + n)) second).0),
        ltb-true k (from + n) ((and_parts (nat_le from k) (nat_lt k (from + n)) second).1),
      )
  in_some Gone e = absurd (true≢false (sym e))

  in_all : (s : RowState) (k : ℕ) → s ≡ InArray a k → from ≤ k → k < from + n → is_in_part s a from n ≡ true
  in_all s k e l h =
      ap (λ (q : RowState). is_in_part q a from n) e
      ∙ ap (λ (b : Bool). b && (nat_le from k && nat_lt k (from + n))) (eq-eqb a a refl)
      ∙ ap (λ (b : Bool). b && nat_lt k (from + n)) (le-leb from k l) ∙ lt-ltb k (from + n) h

  part_shown : (r : ℕ) → In r (part (array_at p a) from n) → In r (shown p p.items)
  part_shown r m =
      let k = part_place (array_at p a) from n r m in
      let e = stand k.0 k.1 k.2 in
      subst (λ (x : ℕ). In x (shown p p.items)) (sym k.3)
      (stands p t (row_of_array p a k.0) (t.named a k.0 array
      (below k.0 (from + n) (length (array_at p a)) k.2 within)) (λ g. not_gone a k.0 (sym e ∙ g)))
    where
      below : (x y z : ℕ) → x < y → y ≤ z → x < z
      below x y z l m = omega arith

      not_gone : (a c : ℕ) → InArray a c ≡ Gone → ⊥
      not_gone a c e = cc

  decide : (y : ℕ) → y < length p.rows → (b : Bool) → is_in_part (state_at p y) a from n ≡ b
      → (In y (part (array_at p a) from n) × (b ≡ true)) ⊎ ((In y (part (array_at p a) from n) → ⊥) × (b ≡ false))
  decide y l true e =
      let k = in_some (state_at p y) e in
      let at = array_place p t y a k.0 l k.1 in
      inl (
        subst (λ (x : ℕ). In x (part (array_at p a) from n)) at.2
            (part_in (array_at p a) from n k.0 k.2 k.3 within),
        refl,
      )
  decide y l false e =
      inr (
        (λ m.
            let k = part_place (array_at p a) from n y m in
            true≢false (sym (in_all (state_at p y) k.0 (ap (state_at p) k.3 ∙ stand k.0 k.1 k.2) k.1 k.2) ∙ e)),
        refl,
      )

  pub in_part_is : (slot : Slot) → map entry_of (rows_in_slot (doc_rows p) slot)
      ≡ map (table p) (part (array_at p a) from n) → (y : ℕ) → y < length p.rows → state_at p y ≢ Gone
      → is_in_part (state_at p y) a from n ≡ is_within (doc_rows p) (table p y).id slot
  in_part_is slot rows y l s = within_is p t slot (part (array_at p a) from n) rows part_shown y (stands p t y l s)
      (is_in_part (state_at p y) a from n) (decide y l (is_in_part (state_at p y) a from n) refl)
