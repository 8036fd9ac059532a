-- How many rows get brackets by an edit.
use Rattle.std.specs.Prelude.{◌≡◌, ◌<◌, ◌≤◌, ◌+◌, ◌^◌, ℕ, List, length, Some}
use Rattle.td_base.specs.Lists.{In}
use Rattle.td_base.specs.Value.{AtomIdValue}
use Rattle.td_path.specs.Slot.{slot_atom}
use Rattle.td_path.specs.declared.slot.Slot.{Slot}
use Rattle.td_path.specs.declared.slot.Slot.TheVariants.{Root}
use Rattle.td_brackets.specs.Brackets.{Leaf}
use Rattle.td_tree.specs.declared.tree_row.RowState.TheVariants.{Node}
use Rattle.td_tree.specs.Parts.{Parts, state_at, table, tokens, nodes_of}

-- the atom stands in a leaf of so many
pub record IsInLeaf (p : Parts) (x : AtomIdValue) (count : ℕ) : Type 0 where
  pub rows : List ℕ
  pub row : ℕ
  pub leaf : In (Leaf rows) (tokens p)
  pub inside : In row rows
  pub named : (table p row).id ≡ x
  pub long : length rows ≡ count

-- the atom is a node
pub record IsNode (p : Parts) (x : AtomIdValue) : Type 0 where
  pub row : ℕ
  pub known : row < length p.rows
  pub node : state_at p row ≡ Node
  pub named : (table p row).id ≡ x

pub record AddsFew (p q : Parts) (x : AtomIdValue) (more : ℕ) : Type 0 where
  -- where the atom stands in a leaf, as many more nodes at most as the number of its atoms has binary digits, and so
  -- many
  pub in_leaf : (count digits : ℕ) → IsInLeaf p x count → count < 2 ^ digits
      → nodes_of (tokens q) ≤ nodes_of (tokens p) + digits + more
  -- where it is a node, so many
  pub at_node : IsNode p x → nodes_of (tokens q) ≤ nodes_of (tokens p) + more

-- the same for the atom of a slot; at the root so many
pub record AddsFewIn (p q : Parts) (slot : Slot) (more : ℕ) : Type 0 where
  pub at_atom : (x : AtomIdValue) → slot_atom slot ≡ Some x → AddsFew p q x more
  pub at_root : slot ≡ Root → nodes_of (tokens q) ≤ nodes_of (tokens p) + more
