-- A leaf opened down to one of its rows, in one piece.
use Rattle.std.specs.Prelude.{◌≡◌, ◌<◌, ◌≤◌, ◌^◌, ◌+◌, ◌-◌, ◌*◌, ◌/◌, ◌++◌, ℕ, List, [], ◌∷◌, length, get_or, set}
use Rattle.td_base.specs.Lists.{In}
use Rattle.td_list.specs.Items.{Item, AreApart, AreNew, items_before, items_after, weight_of}
use Rattle.td_tree.specs.declared.stretch.Stretch.{Stretch}
use Rattle.td_tree.specs.declared.tree_row.RowState.{RowState}
use Rattle.td_tree.specs.declared.tree_row.RowState.TheVariants.{Node}
use Rattle.td_tree.specs.Parts.{RowValue, Parts, nobody, state_at, row_of_array, leaf_items, node_items, IsMoreOpen}

-- these rows are nodes
abbrev pub nodes_at : List ℕ → List RowValue → List RowValue
nodes_at [] rows = rows
nodes_at (r ∷ tops) rows = nodes_at tops (set rows r (record { entry = (get_or rows r nobody).entry; state = Node }))

-- the same, where rows are by their states alone
abbrev pub node_states : List ℕ → List RowState → List RowState
node_states [] states = states
node_states (r ∷ tops) states = node_states tops (set states r Node)

-- the items of a leaf that is opened one step
abbrev pub opened_items : Parts → ℕ → ℕ → ℕ → List Item
opened_items p a from n =
    node_items (row_of_array p a (from + n / 2))
    (leaf_items p a from (n / 2))
    (leaf_items p a (from + n / 2 + 1) (n - n / 2 - 1))

-- the name of a leaf
abbrev pub leaf_name : Parts → Stretch → ℕ
leaf_name p leaf = 3 * row_of_array p leaf.array (leaf.from + leaf.len / 2) + 1

-- a piece in place of a leaf, and some rows that are nodes then
abbrev pub with_way : Parts → Stretch → List Item → List ℕ → Parts
with_way p leaf piece tops = record {
  items = items_before (leaf_name p leaf) p.items ++ (piece ++ items_after (leaf_name p leaf) p.items);
  rows = nodes_at tops p.rows;
  arrays = p.arrays;
  nodes = p.nodes + length tops;
  count = p.count;
}

-- with the piece in place of the leaf the document is the same, and the row is a node
pub record IsWay (p : Parts) (leaf : Stretch) (index : ℕ) (piece : List Item) (tops : List ℕ) : Type 0 where
  pub kept : IsMoreOpen p (with_way p leaf piece tops)
  pub node : state_at (with_way p leaf piece tops) (row_of_array p leaf.array index) ≡ Node
  pub few : (d : ℕ) → leaf.len < 2 ^ d → length tops ≤ d
  -- the piece can be put there
  pub some : 0 < length piece
  pub apart : AreApart piece
  pub new : AreNew piece (items_before (leaf_name p leaf) p.items ++ items_after (leaf_name p leaf) p.items)
  pub light : weight_of p.items + weight_of piece < 2 ^ 31
  pub known : (r : ℕ) → In r tops → r < length p.rows
  pub counted : p.nodes + length tops < 2 ^ 32
