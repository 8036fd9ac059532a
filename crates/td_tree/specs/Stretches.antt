-- A stretch of the tokens of a tree, gathered in one leaf.
use Rattle.std.specs.Prelude.{◌≡◌, ◌≢◌, ◌+◌, ◌/◌, ◌%◌, ◌<◌, ◌++◌, ℕ, List, [], ◌∷◌, length, get_or, Option, Some, None}
use Rattle.td_path.specs.declared.slot.Slot.{Slot}
use Rattle.td_doc.specs.Flatten.{flatten}
use Rattle.td_list.specs.Items.{Item, items_before, items_after, first_name}
use Rattle.td_brackets.specs.Brackets.{Token, Open, Atom, Close, Leaf, rows_of, IsWord}
use Rattle.td_brackets.specs.Laws.{live_number, live_numbers, leaf_word}
use Rattle.td_brackets.specs.RowNumbers.{row_numbers_at, row_numbers}
use Rattle.td_tree.specs.declared.tree_row.RowState.TheVariants.{Node}
use Rattle.td_tree.specs.Parts.{Parts, state_at, table, tokens_of, doc_rows, atom_item}
use Rattle.td_tree.specs.Walks.{IsStretch}

-- the rows with brackets among some tokens
abbrev pub open_numbers : List Token → List ℕ
open_numbers [] = []
open_numbers (Open r ∷ tokens) = r ∷ open_numbers tokens
open_numbers (Atom r ∷ tokens) = open_numbers tokens
open_numbers (Close r ∷ tokens) = open_numbers tokens
open_numbers (Leaf rs ∷ tokens) = open_numbers tokens

-- what is found among some tokens: the live rows, those with brackets, and how many tombstones
pub record IsFound (p : Parts) (ts : List Token) (live nodes : List ℕ) (dead : ℕ) : Type 0 where
  pub live_is : live ≡ live_numbers (table p) ts
  pub nodes_are : nodes ≡ open_numbers ts
  pub dead_is : dead + length live ≡ length (row_numbers ts)

-- all that an item adds
pub record IsFoundAt (p : Parts) (t : Token) (live nodes : List ℕ) (dead : ℕ) (live' nodes' : List ℕ) (dead' : ℕ)
    : Type 0 where
  pub live_is : live' ≡ live ++ live_number (table p) t
  pub nodes_are : nodes' ≡ nodes ++ open_numbers (t ∷ [])
  pub dead_is : dead' + length (live_number (table p) t) ≡ dead + length (row_numbers_at t)

-- all that some tokens add
pub record IsFoundAmong (p : Parts) (ts : List Token) (live nodes : List ℕ) (dead : ℕ) (live' nodes' : List ℕ)
    (dead' : ℕ) : Type 0 where
  pub live_is : live' ≡ live ++ live_numbers (table p) ts
  pub nodes_are : nodes' ≡ nodes ++ open_numbers ts
  pub dead_is : dead' + length (live_numbers (table p) ts) ≡ dead + length (row_numbers ts)

-- the items before an end: all, where it is none of them
abbrev pub items_up_to : Option ℕ → List Item → List Item
items_up_to None items = items
items_up_to (Some x) items = items_before x items

-- the leaf of some rows; none where there are none
abbrev pub leaf_of : List ℕ → List Item
leaf_of [] = []
leaf_of (r ∷ rs) = atom_item (get_or (r ∷ rs) (length (r ∷ rs) / 2) 0) (length (r ∷ rs)) ∷ []

-- the items from one on up to an end are one leaf
pub record IsOneLeaf (p : Parts) (first : ℕ) (end : Option ℕ) : Type 0 where
  pub row : first % 3 ≡ 1
  pub leaf : state_at p (first / 3) ≢ Node
  pub next : first_name (items_after first p.items) ≡ end

-- the items of a slot, from one on up to an end: with the leaf of their live rows in their place the rows are those of
-- the flatten
pub record IsSlotStretch (p : Parts) (slot : Slot) (first : ℕ) (end : Option ℕ) : Type 0 where
  pub stretch : IsStretch p (Some first) end
  pub some : 0 < length stretch.inner
  pub word : IsWord (tokens_of p stretch.inner)
  pub flat : rows_of (table p) (tokens_of p stretch.front
      ++ (leaf_word (live_numbers (table p) (tokens_of p stretch.inner)) ++ tokens_of p stretch.back))
      ≡ flatten slot (doc_rows p)

-- the items of a slot, which may be none
pub record IsSlotItems (p : Parts) (slot : Slot) (first end : Option ℕ) : Type 0 where
  pub stretch : IsStretch p first end
  pub word : IsWord (tokens_of p stretch.inner)
  pub flat : rows_of (table p) (tokens_of p stretch.front
      ++ (leaf_word (live_numbers (table p) (tokens_of p stretch.inner)) ++ tokens_of p stretch.back))
      ≡ flatten slot (doc_rows p)
