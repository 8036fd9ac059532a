-- How where a row is is kept.
use Rattle.std.specs.Prelude.{◌<◌, ◌==◌, ⊤, ℕ, if◌then◌else◌}
use Rattle.td_tree.specs.declared.kept_state.TheConstants.{MOST_ARRAYS, NODE, GONE}
use Rattle.td_tree.specs.declared.tree_row.RowState.{RowState}
use Rattle.td_tree.specs.declared.tree_row.RowState.TheVariants.{Node, InArray, Gone}

abbrev pub state_of : ℕ → ℕ → RowState
state_of array index = if array == GONE then Gone else if array == NODE then Node else InArray array index

-- the array has no number that stands for another case
abbrev pub FitsKept : RowState → Type 0
FitsKept Node = ⊤
FitsKept (InArray array index) = array < MOST_ARRAYS
FitsKept Gone = ⊤
