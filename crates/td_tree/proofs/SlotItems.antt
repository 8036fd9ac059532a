-- The items of a slot, and what stands for them when it is flattened.
use Rattle.std.proofs.Common.{◌≡◌, ◌≢◌, ◌+◌, ◌*◌, ◌<◌, ℕ, List, [], ◌∷◌, ◌++◌, length, map, refl, sym}
use Rattle.std.proofs.Common.{ap, ◌∙◌, subst, arith, append_assoc, Option, Some, None}
use Rattle.std.proofs.lemmas.List.{append-nil}
use Rattle.td_base.specs.declared.bit.Bit.{Bit}
use Rattle.td_base.specs.declared.bit.Bit.TheVariants.{Left, Right}
use Rattle.td_path.specs.declared.slot.Slot.{Slot}
use Rattle.td_path.specs.declared.slot.Slot.TheVariants.{Root, At}
use Rattle.td_path.specs.declared.slot_path.SlotPath.TheVariants.{Root as Whole}
use Rattle.td_doc.specs.Document.{live_rows}
use Rattle.td_doc.specs.Array.{named, array}
use Rattle.td_doc.proofs.SlotRows.{Split, split_flatten}
use Rattle.td_list.specs.Items.{Item, items_after, first_name}
use Rattle.td_brackets.specs.Brackets.{Token, Open, Atom, Close, move_all, rows_of, IsWord}
use Rattle.td_brackets.specs.Laws.{Sides, leaf_word, live_numbers}
use Rattle.td_brackets.proofs.SidesOf.{sides_of}
use Rattle.td_brackets.proofs.Leaves.{leaf_word_fits}
use Rattle.td_brackets.proofs.Flattened.{flattened_leaf}
use Rattle.td_tree.specs.declared.tree_row.RowState.TheVariants.{Node}
use Rattle.td_tree.specs.Parts.{Parts, state_at, table, token_of, tokens_of, tokens}
use Rattle.td_tree.specs.Parts.{doc_rows, nodes_of, IsTree, IsFlattened}
use Rattle.td_tree.specs.Reading.{side_start, side_end}
use Rattle.td_tree.specs.Walks.{IsStretch}
use Rattle.td_tree.specs.Stretches.{IsSlotItems, IsSlotStretch}
use Rattle.td_tree.proofs.ItemTokens.{tokens-append}
use Rattle.td_tree.proofs.NodeParts.{ItemsAt, items_at}
use Rattle.td_tree.proofs.Places.{open_there, after_item, name_open, name_atom, name_close}
use Rattle.td_tree.proofs.Walked.{ended}

-- where there are some
pub some_items : (p : Parts) (t : IsTree p) (slot : Slot) (name : ℕ) (end : Option ℕ)
    → IsSlotItems p slot (Some name) end → Some name ≢ end → IsSlotStretch p slot name end
some_items p t slot name end s n = record {
  stretch = s.stretch;
  some = more s.stretch.inner s.stretch.starts;
  word = s.word;
  flat = s.flat;
}
  where
    more : (inner : List Item) → first_name (inner ++ s.stretch.back) ≡ Some name → 0 < length inner
    more [] e = absurd (n (sym e ∙ s.stretch.ends))
    more (i ∷ inner) e = omega arith

-- where there are none
pub no_items : (p : Parts) (t : IsTree p) (slot : Slot) (first end : Option ℕ) → IsSlotItems p slot first end → first
    ≡ end → IsFlattened p p slot
no_items p t slot first end s e = record {
  tree = t;
  rows =
      ap (rows_of (table p)) (ap (tokens_of p) s.stretch.is
      ∙ tokens-append p s.stretch.front (s.stretch.inner ++ s.stretch.back)
      ∙ (λ i. tokens_of p s.stretch.front ++ tokens_of p (none i ++ s.stretch.back))
      ∙ (λ i. tokens_of p s.stretch.front ++ (leaf_word (live_numbers (table p) (tokens_of p (sym none i)))
      ++ tokens_of p s.stretch.back)))
      ∙ s.flat;
  entries = refl;
  gone = λ r f. f;
  long = refl;
  nodes = omega arith;
}
  where
    none : s.stretch.inner ≡ []
    none = ended p t first end s.stretch first e (record
        { done = []; rest = s.stretch.inner; is = refl; here = s.stretch.starts })

pub no_nodes : (p : Parts) (t : IsTree p) (first end : Option ℕ) (s : IsStretch p first end) → first ≡ end
    → p.nodes + nodes_of (tokens_of p s.inner) ≡ p.nodes
no_nodes p t first end s e =
    let none : s.inner ≡ [] = ended p t first end s first e
    (record { done = []; rest = s.inner; is = refl; here = s.starts }) in
    let zero_is = ap (λ (items : List Item). nodes_of (tokens_of p items)) none in
    omega arith

-- nothing stands there where the first is none
pub none_first : (p : Parts) (slot : Slot) (first end : Option ℕ) → IsSlotItems p slot first end → first ≡ None
    → first ≡ end
none_first p slot first end s e = at s.stretch.inner s.stretch.back (s.stretch.starts ∙ e) s.stretch.ends
  where
    no : (x : ℕ) → Some x ≡ None → ⊥
    no x e = cc

    at : (inner back : List Item) → first_name (inner ++ back) ≡ None → first_name back ≡ end → first ≡ end
    at [] back f g = e ∙ sym f ∙ g
    at (i ∷ inner) back f g = absurd (no i.name f)

-- the root
pub root_items : (p : Parts) → IsTree p → IsSlotItems p Root (first_name p.items) None
root_items p t = record {
  stretch = record {
    front = [];
    inner = p.items;
    back = [];
    is = sym (append-nil p.items);
    starts = ap first_name (append-nil p.items);
    ends = refl;
  };
  word = t.brackets.word;
  flat =
      ap (rows_of (table p)) (append-nil (leaf_word (live_numbers (table p) (tokens p))))
      ∙ flattened_leaf (table p) [] (tokens p)
      ∙ sym (append-nil (array Whole (map named (live_rows (doc_rows p)))))
      ∙ sym (split_flatten Whole (doc_rows p) whole);
}
  where
    whole : Split Whole (doc_rows p)
    whole = record {
      front = [];
      inside = doc_rows p;
      back = [];
      is = sym (append-nil (doc_rows p));
      before = λ r i. absurd i;
      within = λ r i. refl;
      after = λ r i. absurd i;
    }

module _ (p : Parts) (t : IsTree p) (x : ℕ) (l : x < length p.rows) (e : state_at p x ≡ Node) where
  abbrev s : Sides (table p) (tokens p) x
  s = sides_of (table p) (tokens p) x t.brackets (open_there p t x l e)

  abbrev one : ItemsAt p p.items s.front (Open x) (s.left ++ Atom x ∷ (s.right ++ Close x ∷ s.back))
  one = items_at p p.items s.front (Open x) (s.left ++ Atom x ∷ (s.right ++ Close x ∷ s.back)) s.is

  abbrev two : ItemsAt p one.after s.left (Atom x) (s.right ++ Close x ∷ s.back)
  two = items_at p one.after s.left (Atom x) (s.right ++ Close x ∷ s.back) one.after_is

  abbrev three : ItemsAt p two.after s.right (Close x) s.back
  three = items_at p two.after s.right (Close x) s.back two.after_is

  left_all : p.items ≡ one.before ++ one.item ∷ (two.before ++ two.item ∷ two.after)
  left_all = one.is ∙ ap (λ (q : List Item). one.before ++ one.item ∷ q) two.is

  right_all : p.items ≡ (one.before ++ one.item ∷ two.before) ++ two.item ∷ (three.before ++ three.item ∷ three.after)
  right_all = left_all ∙ ap (λ (q : List Item). one.before ++ one.item ∷ (two.before ++ two.item ∷ q)) three.is
      ∙ sym (append_assoc one.before (one.item ∷ two.before) (two.item ∷ (three.before ++ three.item ∷ three.after)))

  pub left_items : IsSlotItems p (At (table p x).id Left) (first_name (items_after (3 * x) p.items)) (Some (3 * x + 1))
  left_items = record {
    stretch = record {
      front = one.before ++ one.item ∷ [];
      inner = two.before;
      back = two.item ∷ two.after;
      is = left_all ∙ sym (append_assoc one.before (one.item ∷ []) (two.before ++ two.item ∷ two.after));
      starts = ap first_name (sym (after_item p t one.before one.item (two.before ++ two.item ∷ two.after) left_all)
          ∙ ap (λ (n : ℕ). items_after n p.items) (name_open p one.item x one.item_is));
      ends = ap Some (name_atom p two.item x two.item_is);
    };
    word = subst IsWord (sym two.before_is) s.left_word;
    flat =
        ap (rows_of (table p)) ((λ i. tokens-append p one.before (one.item ∷ []) i
        ++ (leaf_word (live_numbers (table p) (two.before_is i)) ++ two.item_is i ∷ two.after_is i))
        ∙ (λ i. (one.before_is i ++ one.item_is i ∷ [])
        ++ (leaf_word (live_numbers (table p) s.left) ++ Atom x ∷ (s.right ++ Close x ∷ s.back)))
        ∙ append_assoc s.front (Open x ∷ []) (leaf_word (live_numbers (table p) s.left)
        ++ Atom x ∷ (s.right ++ Close x ∷ s.back)))
        ∙ s.flat_left (leaf_word (live_numbers (table p) s.left)) (leaf_word_fits (live_numbers (table p) s.left))
        (flattened_leaf (table p) ((x, Left) ∷ move_all [] s.front) s.left);
  }

  pub right_items : IsSlotItems p (At (table p x).id Right) (first_name (items_after (3 * x + 1) p.items))
      (Some (3 * x + 2))
  right_items = record {
    stretch = record {
      front = (one.before ++ one.item ∷ two.before) ++ two.item ∷ [];
      inner = three.before;
      back = three.item ∷ three.after;
      is = right_all ∙ sym (append_assoc (one.before ++ one.item ∷ two.before) (two.item ∷ [])
          (three.before ++ three.item ∷ three.after));
      starts = ap first_name (sym (after_item p t (one.before ++ one.item ∷ two.before) two.item
          (three.before ++ three.item ∷ three.after) right_all)
          ∙ ap (λ (n : ℕ). items_after n p.items) (name_atom p two.item x two.item_is));
      ends = ap Some (name_close p three.item x three.item_is);
    };
    word = subst IsWord (sym three.before_is) s.right_word;
    flat =
        ap (rows_of (table p))
        ((λ i. (tokens-append p (one.before ++ one.item ∷ two.before) (two.item ∷ [])
        ∙ ap (λ (q : List Token). q ++ token_of p two.item ∷ [])
        (tokens-append p one.before (one.item ∷ two.before))) i
        ++ (leaf_word (live_numbers (table p) (three.before_is i)) ++ three.item_is i ∷ three.after_is i))
        ∙ (λ i. ((one.before_is i ++ one.item_is i ∷ two.before_is i) ++ two.item_is i ∷ [])
        ++ (leaf_word (live_numbers (table p) s.right) ++ Close x ∷ s.back))
        ∙ regroup s.front s.left (leaf_word (live_numbers (table p) s.right) ++ Close x ∷ s.back))
        ∙ s.flat_right (leaf_word (live_numbers (table p) s.right)) (leaf_word_fits (live_numbers (table p) s.right))
        (flattened_leaf (table p) ((x, Right) ∷ move_all [] s.front) s.right);
  }
    where
      regroup : (f a c : List Token) → ((f ++ Open x ∷ a) ++ Atom x ∷ []) ++ c ≡ f ++ Open x ∷ (a ++ Atom x ∷ c)
      regroup f a c = simp append_assoc

  pub side_items_of : (bit : Bit) → IsSlotItems p (At (table p x).id bit)
      (first_name (items_after (side_start x bit) p.items)) (Some (side_end x bit))
  side_items_of Left = left_items
  side_items_of Right = subst (λ (n : ℕ). IsSlotItems p (At (table p x).id Right)
      (first_name (items_after (3 * x + 1) p.items)) (Some n)) (omega arith) right_items
