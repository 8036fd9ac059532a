-- How a tree keeps its tokens: in a list of items, named by the number of a row and the kind of the token, with the
-- rows by number and the arrays of leaves.
use Rattle.std.specs.Prelude.{◌≡◌, ◌≢◌, ◌⊎◌, ◌<◌, ◌≤◌, ◌^◌, ◌+◌, ◌-◌, ◌*◌, ◌/◌, ◌%◌, ◌++◌, ℕ}
use Rattle.std.specs.Prelude.{zero, suc, List, [], ◌∷◌, Bool, true, false, if◌then◌else◌, length}
use Rattle.std.specs.Prelude.{take, drop, get_or, map, Option, Some, None}
use Rattle.td_base.specs.Lists.{In}
use Rattle.td_base.specs.Value.{DotValue, AtomIdValue}
use Rattle.td_doc.specs.Document.{DocRow, is_empty_list}
use Rattle.td_doc.specs.Deletion.{delete, add_dot}
use Rattle.td_doc.specs.Flatten.{flatten}
use Rattle.td_path.specs.declared.slot.Slot.{Slot}
use Rattle.td_list.specs.Items.{Item, IsItem, AreApart, weight_of}
use Rattle.td_tree.specs.declared.tree_row.RowState.{RowState}
use Rattle.td_tree.specs.declared.tree_row.RowState.TheVariants.{Node, InArray, Gone}
use Rattle.td_brackets.specs.Brackets.{Token, Open, Atom, Close, Leaf, Entry, numbers_of, rows_of, IsBrackets}

-- a row with where it is
pub record RowValue : Type 0 where
  pub entry : Entry
  pub state : RowState

-- the rows by number, where their entries and where they are stand in two columns
abbrev pub rows_with : List Entry → List RowState → List RowValue
rows_with [] states = []
rows_with (entry ∷ entries) [] = []
rows_with (entry ∷ entries) (state ∷ states) = record { entry = entry; state = state } ∷ rows_with entries states

-- the parts of a tree: its tokens as items, the rows by number, the arrays by number, how many rows have brackets, and
-- how many the document has
pub record Parts : Type 0 where
  pub items : List Item
  pub rows : List RowValue
  pub arrays : List (List ℕ)
  pub nodes : ℕ
  pub count : ℕ

abbrev pub nobody : RowValue
nobody = record {
  entry = record { id = record { dot = record { site = 0; seq = 0 }; offset = 0 }; atom = []; deletes = [] };
  state = Gone;
}

abbrev pub row_at : Parts → ℕ → RowValue
row_at p r = get_or p.rows r nobody

abbrev pub state_at : Parts → ℕ → RowState
state_at p r = (row_at p r).state

abbrev pub table : Parts → ℕ → Entry
table p r = (row_at p r).entry

abbrev pub array_at : Parts → ℕ → List ℕ
array_at p a = get_or p.arrays a []

-- so many rows of an array, from a place on
abbrev pub part : List ℕ → ℕ → ℕ → List ℕ
part array from n = take n (drop from array)

-- the token of a row, by where it is: its atom, or the leaf of which it is the top
abbrev pub row_token : Parts → RowState → ℕ → ℕ → Token
row_token p Node r n = Atom r
row_token p (InArray a i) r n = Leaf (part (array_at p a) (i - n / 2) n)
row_token p Gone r n = Atom r

-- an item is named by three times its row, and 0, 1 or 2 for what opens it, the row itself, and what closes it
abbrev pub kind_token : ℕ → ℕ → Token → Token
kind_token zero r t = Open r
kind_token (suc zero) r t = t
kind_token (suc (suc k)) r t = Close r

abbrev pub token_of : Parts → Item → Token
token_of p i = kind_token (i.name % 3) (i.name / 3) (row_token p (state_at p (i.name / 3)) (i.name / 3) i.weight)

abbrev pub tokens_of : Parts → List Item → List Token
tokens_of p items = map (token_of p) items

abbrev pub tokens : Parts → List Token
tokens p = tokens_of p p.items

-- the rows of the document
abbrev pub doc_rows : Parts → List DocRow
doc_rows p = rows_of (table p) (tokens p)

-- a live row weighs one, a tombstone and a bracket nothing
abbrev pub token_weight : (ℕ → Entry) → Token → ℕ
token_weight table (Open r) = 0
token_weight table (Atom r) = if is_empty_list (table r).deletes then 1 else 0
token_weight table (Close r) = 0
token_weight table (Leaf rs) = length rs

-- rows are marked, and brackets are not
abbrev pub is_row_token : Token → Bool
is_row_token (Open r) = false
is_row_token (Atom r) = true
is_row_token (Close r) = false
is_row_token (Leaf rs) = true

-- the rows that have brackets
abbrev pub open_count : Token → ℕ
open_count (Open r) = 1
open_count (Atom r) = 0
open_count (Close r) = 0
open_count (Leaf rs) = 0

abbrev pub nodes_of : List Token → ℕ
nodes_of [] = 0
nodes_of (t ∷ tokens) = open_count t + nodes_of tokens

-- the row at a place of an array
abbrev pub row_of_array : Parts → ℕ → ℕ → ℕ
row_of_array p a k = get_or (array_at p a) k 0

-- the rows of a part of an array stand in it
abbrev pub Stand : Parts → ℕ → ℕ → ℕ → Type 0
Stand p a from n = (k : ℕ) → from ≤ k → k < from + n → state_at p (row_of_array p a k) ≡ InArray a k

-- a part of an array that is a leaf
pub record IsPart (p : Parts) (a from n : ℕ) : Type 0 where
  pub array : a < length p.arrays
  pub some : 0 < n
  pub within : from + n ≤ length (array_at p a)
  pub stand : Stand p a from n

-- what an item needs of its row: a row with brackets is a node, and else it is the top of a leaf
abbrev pub IsRowItem : Parts → RowState → ℕ → Type 0
IsRowItem p Node n = Unit {0}
IsRowItem p (InArray a i) n = (n / 2 ≤ i) × IsPart p a (i - n / 2) n
IsRowItem p Gone n = ⊥

abbrev pub IsKind : Parts → ℕ → RowState → ℕ → Type 0
IsKind p zero s n = s ≡ Node
IsKind p (suc zero) s n = IsRowItem p s n
IsKind p (suc (suc k)) s n = s ≡ Node

-- an item is the token of a row
pub record IsToken (p : Parts) (i : Item) : Type 0 where
  pub known : i.name / 3 < length p.rows
  pub kind : IsKind p (i.name % 3) (state_at p (i.name / 3)) i.weight
  pub weighed : i.weight ≡ token_weight (table p) (token_of p i)
  pub marked : i.marked ≡ is_row_token (token_of p i)

-- the items of a row
abbrev pub open_item : ℕ → Item
open_item r = record { name = 3 * r; weight = 0; marked = false }

abbrev pub atom_item : ℕ → ℕ → Item
atom_item r n = record { name = 3 * r + 1; weight = n; marked = true }

abbrev pub close_item : ℕ → Item
close_item r = record { name = 3 * r + 2; weight = 0; marked = false }

-- the item of a part of an array that is a leaf: it is named by its top, which has half of them before it
abbrev pub leaf_item : Parts → ℕ → ℕ → ℕ → Item
leaf_item p a from n = atom_item (row_of_array p a (from + n / 2)) n

abbrev pub leaf_items : Parts → ℕ → ℕ → ℕ → List Item
leaf_items p a from zero = []
leaf_items p a from (suc n) = leaf_item p a from (suc n) ∷ []

-- the items of a row with what stands on its sides
abbrev pub node_items : ℕ → List Item → List Item → List Item
node_items r left right = open_item r ∷ (left ++ atom_item r 1 ∷ (right ++ close_item r ∷ []))

-- an item that may be there
abbrev pub option_items : Option Item → List Item
option_items None = []
option_items (Some i) = i ∷ []

-- a part of an array, as it is cut by now: it stands whole, as a leaf, or its top is in the array no longer
pub data Cut (p : Parts) (a : ℕ) : ℕ → ℕ → Type 0 where
  NoRows : (from : ℕ) → Cut p a from 0
  OneLeaf : (from n : ℕ) → IsPart p a from n → In (leaf_item p a from n) p.items → Cut p a from n
  InTwo : (from n : ℕ) → 0 < n → state_at p (row_of_array p a (from + n / 2)) ≢ InArray a (from + n / 2)
      → Cut p a from (n / 2) → Cut p a (from + n / 2 + 1) (n - n / 2 - 1) → Cut p a from n

-- a row is where its state says
abbrev pub IsAt : Parts → ℕ → RowState → Type 0
IsAt p r Node = IsItem (3 * r) p.items
IsAt p r (InArray a i) = (a < length p.arrays) × (i < length (array_at p a)) × (row_of_array p a i ≡ r)
IsAt p r Gone = Unit {0}

pub record IsTree (p : Parts) : Type 0 where
  pub brackets : IsBrackets (table p) (tokens p)
  pub apart : AreApart p.items
  pub each : (i : Item) → In i p.items → IsToken p i
  pub at : (r : ℕ) → r < length p.rows → IsAt p r (state_at p r)
  pub cut : (a : ℕ) → a < length p.arrays → Cut p a 0 (length (array_at p a))
  -- an array names rows
  pub named : (a k : ℕ) → a < length p.arrays → k < length (array_at p a) → row_of_array p a k < length p.rows
  pub short : (a : ℕ) → a < length p.arrays → length (array_at p a) ≤ 2 ^ 30
  pub counted : p.nodes ≡ nodes_of (tokens p)
  pub all : p.count ≡ length (doc_rows p)
  pub many : p.count ≤ length p.rows
  -- each row is one of those that have numbers
  pub few : length (numbers_of (tokens p)) ≤ length p.rows
  pub light : weight_of p.items ≤ length p.rows
  pub most : length p.rows < 2 ^ 30

-- the same rows, and some more of them in brackets
pub record IsMoreOpen (p q : Parts) : Type 0 where
  pub tree : IsTree q
  pub rows : doc_rows q ≡ doc_rows p
  pub entries : table q ≡ table p
  pub long : length q.rows ≡ length p.rows
  pub gone : (r : ℕ) → state_at p r ≡ Gone → state_at q r ≡ Gone

-- an index leads from each identity to the newest row that has it; the others are gone
pub record IsNamed (find : AtomIdValue → Option ℕ) (rows : List RowValue) : Type 0 where
  pub found : (id : AtomIdValue) (r : ℕ) → find id ≡ Some r → (r < length rows) × ((get_or rows r nobody).entry.id ≡ id)
  pub here : (r : ℕ) → r < length rows
      → ((get_or rows r nobody).state ≡ Gone) ⊎ (find (get_or rows r nobody).entry.id ≡ Some r)

-- a row deleted: nothing else changes
pub record IsDeleted (p q : Parts) (r : ℕ) (by : DotValue) : Type 0 where
  pub tree : IsTree q
  pub rows : doc_rows q ≡ delete (table p r).id by (doc_rows p)
  pub ids : (s : ℕ) → (table q s).id ≡ (table p s).id
  pub states : (s : ℕ) → state_at q s ≡ state_at p s
  pub deletes : (table q r).deletes ≡ add_dot by (table p r).deletes
  pub others : (s : ℕ) → s ≢ r → table q s ≡ table p s
  pub long : length q.rows ≡ length p.rows
  pub nodes : q.nodes ≡ p.nodes

-- the rows of a slot made one leaf, and its tombstones gone
pub record IsFlattened (p q : Parts) (slot : Slot) : Type 0 where
  pub tree : IsTree q
  pub rows : doc_rows q ≡ flatten slot (doc_rows p)
  pub entries : table q ≡ table p
  pub gone : (r : ℕ) → state_at p r ≡ Gone → state_at q r ≡ Gone
  pub long : length q.rows ≡ length p.rows
  pub nodes : q.nodes ≤ p.nodes

-- each row of an array stands in the last one
abbrev pub AreInLast : Parts → Type 0
AreInLast p = (r a i : ℕ) → r < length p.rows → state_at p r ≡ InArray a i → a + 1 ≡ length p.arrays

-- the same tree, but for arrays in which no row stands
pub record IsSameTree (p q : Parts) : Type 0 where
  pub tree : IsTree q
  pub doc : doc_rows q ≡ doc_rows p
  pub rows : q.rows ≡ p.rows
  pub nodes : q.nodes ≡ p.nodes
