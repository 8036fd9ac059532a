-- What holds of all rows that a walk has passed.
use Rattle.std.proofs.Common.{◌≡◌, ◌<◌, ◌+◌, ℕ, suc, List, [], ◌∷◌, ◌++◌, Bool, true, false, ◌&&◌}
use Rattle.std.proofs.Common.{length, take, drop, get_or, map, Option, Some, None, refl, sym, ap}
use Rattle.std.proofs.Common.{◌∙◌, append_assoc, take-append-drop, drop-cons}
use Rattle.std.specs.List.{list_all}
use Rattle.std.proofs.lemmas.List.{append-nil}
use Rattle.std.proofs.lemmas.List.Folds.{list_all-append}
use Rattle.std.proofs.lemmas.Bool.{and_from}
use Rattle.td_doc.specs.Slots.{rows_in_slot, is_known}
use Rattle.td_base.specs.declared.bit.Bit.{Bit}
use Rattle.td_path.specs.declared.slot.Slot.{Slot}
use Rattle.td_path.specs.declared.slot.Slot.TheVariants.{Root}
use Rattle.td_list.specs.Items.{Item, first_name, items_after}
use Rattle.td_list.specs.Places.{nothing}
use Rattle.td_brackets.specs.RowNumbers.{entry_of, is_known_entry}
use Rattle.td_brackets.proofs.Entries.{all_known}
use Rattle.td_tree.specs.Parts.{Parts, table, doc_rows, IsTree}
use Rattle.td_tree.specs.Reading.{shown_at, shown, side_start, side_end}
use Rattle.td_tree.specs.Walks.{IsStretch}
use Rattle.td_tree.proofs.Shown.{shown-append, shown_more, entries}
use Rattle.td_doc.proofs.RootRows.{all_in_root}
use Rattle.td_tree.proofs.SideItems.{SideItems, after_is_at}

second_false : (a b c : Bool) → b ≡ false → (a && (b && c)) ≡ false
second_false true b c e = ap (λ (d : Bool). d && c) e
second_false false b c e = refl

module _ (test : ℕ → Bool) (p : Parts) where
  -- all of some items, and of those that follow them
  pub known_more : (xs ys : List Item) → list_all test (shown p xs) ≡ true → list_all test (shown p ys) ≡ true
      → list_all test (shown p (xs ++ ys)) ≡ true
  known_more xs ys e f = ap (list_all test) (shown-append p xs ys) ∙ list_all-append test (shown p xs) (shown p ys)
      ∙ and_from (list_all test (shown p xs)) (list_all test (shown p ys)) e f

  pub known_next : (items : List Item) (k : ℕ) → k < length items → list_all test (shown p (take k items)) ≡ true
      → list_all test (shown_at p (get_or items k nothing)) ≡ true
      → list_all test (shown p (take (k + 1) items)) ≡ true
  known_next items k b e f =
      ap (list_all test) (shown_more p items k b) ∙ list_all-append test (shown p (take k items))
      (shown_at p (get_or items k nothing))
      ∙ and_from (list_all test (shown p (take k items))) (list_all test (shown_at p (get_or items k nothing))) e f

  -- not all, where not all of some of them
  pub unknown_within : (all xs ys zs : List Item) → all ≡ xs ++ (ys ++ zs) → list_all test (shown p ys) ≡ false
      → list_all test (shown p all) ≡ false
  unknown_within all xs ys zs is e =
      ap (λ (q : List Item). list_all test (shown p q)) is ∙ ap (list_all test) (shown-append p xs (ys ++ zs))
      ∙ list_all-append test (shown p xs) (shown p (ys ++ zs))
      ∙ ap (λ (b : Bool). list_all test (shown p xs) && b)
      (ap (list_all test) (shown-append p ys zs) ∙ list_all-append test (shown p ys) (shown p zs))
      ∙ second_false (list_all test (shown p xs)) (list_all test (shown p ys)) (list_all test (shown p zs)) e

  pub unknown_at : (items : List Item) (k : ℕ) → k < length items
      → list_all test (shown_at p (get_or items k nothing)) ≡ false → list_all test (shown p items) ≡ false
  unknown_at items k b e =
      unknown_within items (take k items) (get_or items k nothing ∷ []) (drop (suc k) items)
      (sym (take-append-drop k items) ∙ ap (λ (q : List Item). take k items ++ q) (drop-cons items k nothing b))
      (ap (list_all test) (append-nil (shown_at p (get_or items k nothing))) ∙ e)

-- of rows in a slot
pub known_numbers : (p : Parts) (v : List ℕ) (slot : Slot) (numbers : List ℕ)
    → map entry_of (rows_in_slot (doc_rows p) slot) ≡ map (table p) numbers
    → list_all (λ (r : ℕ). is_known_entry v (table p r)) numbers ≡ is_known (doc_rows p) slot v
known_numbers p v slot numbers e = sym (all_known (table p) v numbers (rows_in_slot (doc_rows p) slot) e)

-- all items
abbrev pub all_stretch : (p : Parts) (first : Option ℕ) → first ≡ first_name p.items → IsStretch p first None
all_stretch p first e = record {
  front = [];
  inner = p.items;
  back = [];
  is = sym (append-nil p.items);
  starts = ap first_name (append-nil p.items) ∙ sym e;
  ends = refl;
}

-- the items on a side of a node
abbrev pub side_stretch : (p : Parts) (t : IsTree p) (x : ℕ) (bit : Bit) → SideItems p x bit → (first : Option ℕ)
    → first ≡ first_name (items_after (side_start x bit) p.items) → IsStretch p first (Some (side_end x bit))
side_stretch p t x bit s first e = record {
  front = s.front ++ s.start ∷ [];
  inner = s.inner;
  back = s.ending ∷ s.back;
  is = s.is ∙ sym (append_assoc s.front (s.start ∷ []) (s.inner ++ s.ending ∷ s.back));
  starts = ap first_name (sym (after_is_at p t s.front s.start (s.inner ++ s.ending ∷ s.back) (side_start x bit) s.is
      s.start_named)) ∙ sym e;
  ends = ap Some s.end_named;
}

-- the root has all rows
pub known_root : (p : Parts) (t : IsTree p) (v : List ℕ)
    → list_all (λ (r : ℕ). is_known_entry v (table p r)) (shown p p.items) ≡ is_known (doc_rows p) Root v
known_root p t v = known_numbers p v Root (shown p p.items) (ap (map entry_of) (all_in_root (doc_rows p)) ∙ entries p t)
