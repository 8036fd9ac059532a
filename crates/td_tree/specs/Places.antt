-- Places of new rows among the items of a tree.
use Rattle.std.specs.Prelude.{◌≡◌, ◌≢◌, ◌⊎◌, ◌+◌, ◌/◌, ◌%◌, ◌++◌, ℕ, suc, List, [], ◌∷◌}
use Rattle.std.specs.Prelude.{false, length, Option, Some, IsTrue}
use Rattle.std.specs.Ordering.{is_lt}
use Rattle.td_base.specs.Order.{id_cmp}
use Rattle.std.specs.declared.cmp.Ordering.TheVariants.{Less}
use Rattle.td_base.specs.Lists.{In}
use Rattle.td_base.specs.Value.{DotValue, AtomIdValue}
use Rattle.td_path.specs.declared.slot.Slot.{Slot}
use Rattle.td_path.specs.Infix.{path_cmp}
use Rattle.td_path.specs.SlotPaths.{path_in}
use Rattle.td_doc.specs.Document.{DocRow}
use Rattle.td_doc.specs.Slots.{slot_path}
use Rattle.td_list.specs.Items.{Item, first_name, put_at}
use Rattle.td_brackets.specs.Brackets.{Level, Entry, move_all, slot_of, rows_of, rows_from}
use Rattle.td_tree.specs.declared.tree_row.RowState.TheVariants.{Node, InArray}
use Rattle.td_doc.specs.Answers.{is_rooted}
use Rattle.td_doc.specs.Insertion.{insert_atom, insert_run}
use Rattle.td_tree.specs.Parts.{RowValue, Parts, table, state_at, tokens_of, doc_rows, node_items, IsTree}

-- a place in the slot, before an item or at the end, before which each row stands before an atom x of the slot
pub record IsPlace (p : Parts) (slot : Slot) (x : AtomIdValue) (at : Option ℕ) : Type 0 where
  pub stack : List Level
  pub front : List Item
  pub back : List Item
  pub is : p.items ≡ front ++ back
  pub here : first_name back ≡ at
  pub moved : move_all [] (tokens_of p front) ≡ stack
  pub slot_is : slot_path (doc_rows p) slot ≡ Some (slot_of (table p) stack)
  pub before : (q : DocRow) → In q (rows_of (table p) (tokens_of p front))
      → path_cmp q.path (path_in (slot_of (table p) stack) x) ≡ Less

-- and behind which each stands after it
pub record IsNewPlace (p : Parts) (slot : Slot) (x : AtomIdValue) (at : Option ℕ) : Type 0 where
  pub place : IsPlace p slot x at
  pub after : (q : DocRow) → In q (rows_from (table p) place.stack (tokens_of p place.back))
      → path_cmp (path_in (slot_of (table p) place.stack) x) q.path ≡ Less

-- a sibling with a smaller identity, and the last of its tokens
abbrev pub IsSmaller : Parts → AtomIdValue → ℕ → ℕ → Type 0
IsSmaller p id name end =
    (id_cmp (table p (name / 3)).id id ≡ Less)
    × (((name % 3 ≡ 0) × (end ≡ name + 2)) ⊎ ((name % 3 ≡ 1) × (state_at p (name / 3) ≢ Node) × (end ≡ name)))

abbrev pub IsNotSmaller : Parts → AtomIdValue → ℕ → Type 0
IsNotSmaller p id name =
    (name % 3 ≢ 2) → (name % 3 ≡ 1 → state_at p (name / 3) ≢ Node)
    → is_lt (id_cmp (table p (name / 3)).id id) ≡ false

-- a new row in brackets of its own, at a place
pub record IsPut (p q : Parts) (at : Option ℕ) (id : AtomIdValue) (atom : List ℕ) : Type 0 where
  pub rows : q.rows ≡ p.rows ++ record { entry = record { id = id; atom = atom; deletes = [] }; state = Node } ∷ []
  pub items : q.items ≡ put_at at (node_items (length p.rows) [] []) p.items
  pub nodes : q.nodes ≡ p.nodes + 1
  pub there : (slot : Slot) → IsNewPlace p slot id at → IsTrue (is_rooted (doc_rows p) slot)
      → IsTree q × (doc_rows q ≡ insert_atom slot id atom (doc_rows p))

-- the rows of an insert's run, from an offset on, in an array
abbrev pub run_rows : ℕ → DotValue → ℕ → List (List ℕ) → List RowValue
run_rows array dot offset [] = []
run_rows array dot offset (atom ∷ run) =
    record {
      entry = record { id = record { dot = dot; offset = offset }; atom = atom; deletes = [] };
      state = InArray array offset;
    }
    ∷ run_rows array dot (suc offset) run

-- the same without where they are
abbrev pub run_entries : DotValue → ℕ → List (List ℕ) → List Entry
run_entries dot offset [] = []
run_entries dot offset (atom ∷ run) =
    record { id = record { dot = dot; offset = offset }; atom = atom; deletes = [] } ∷ run_entries dot (suc offset) run

-- the identity of the top of an insert's run, which is its middle atom
abbrev pub top_id : DotValue → List (List ℕ) → AtomIdValue
top_id dot run = record { dot = dot; offset = length run / 2 }

-- the rows of an insert's run in one new leaf, at a place of its top
pub record IsRunPut (p q : Parts) (at : Option ℕ) (dot : DotValue) (run : List (List ℕ)) : Type 0 where
  pub rows : q.rows ≡ p.rows ++ run_rows (length p.arrays) dot 0 run
  pub nodes : q.nodes ≡ p.nodes
  pub there : (slot : Slot) → IsNewPlace p slot (top_id dot run) at → IsTrue (is_rooted (doc_rows p) slot)
      → IsTree q × (doc_rows q ≡ insert_run slot dot run (doc_rows p))
