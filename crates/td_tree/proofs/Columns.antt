-- The rows by number, kept in two columns: their entries, and where they are.
use Rattle.std.proofs.Common.{◌≡◌, ◌++◌, ◌+◌, ℕ, zero, suc, List, [], ◌∷◌, length, map}
use Rattle.std.proofs.Common.{set, get_or, refl, sym, ap, ◌∙◌, arith}
use Rattle.std.proofs.lemmas.List.{length-set}
use Rattle.std.specs.List.{range_with_len}
use Rattle.td_base.specs.Value.{DotValue}
use Rattle.td_brackets.specs.Brackets.{Entry}
use Rattle.td_tree.specs.declared.tree_row.RowState.{RowState}
use Rattle.td_tree.specs.declared.tree_row.RowState.TheVariants.{Node, InArray, Gone}
use Rattle.td_tree.specs.Parts.{RowValue, nobody, rows_with}
use Rattle.td_tree.specs.Places.{run_rows, run_entries}
use Rattle.td_tree.specs.Ways.{nodes_at, node_states}

-- there is a row for each entry
pub rows_long : (es : List Entry) (ss : List RowState) → length es ≡ length ss → length (rows_with es ss) ≡ length es
rows_long [] ss same = refl
rows_long (e ∷ es) [] same = absurd (omega arith)
rows_long (e ∷ es) (s ∷ ss) same = ap suc (rows_long es ss (omega arith))

-- and for each state
pub states_long : (es : List Entry) (ss : List RowState) → length es ≡ length ss → length (rows_with es ss) ≡ length ss
states_long es ss same = rows_long es ss same ∙ same

-- a row is what the two columns have at its place
pub row_in : (es : List Entry) (ss : List RowState) → length es ≡ length ss → (r : ℕ)
    → get_or (rows_with es ss) r nobody ≡ record { entry = get_or es r nobody.entry; state = get_or ss r Gone }
row_in [] [] same r = refl
row_in [] (s ∷ ss) same r = absurd (omega arith)
row_in (e ∷ es) [] same r = absurd (omega arith)
row_in (e ∷ es) (s ∷ ss) same zero = refl
row_in (e ∷ es) (s ∷ ss) same (suc r) = row_in es ss (omega arith) r

pub entry_in : (es : List Entry) (ss : List RowState) → length es ≡ length ss → (r : ℕ)
    → (get_or (rows_with es ss) r nobody).entry ≡ get_or es r nobody.entry
entry_in es ss same r = ap (λ (v : RowValue). v.entry) (row_in es ss same r)

pub state_in : (es : List Entry) (ss : List RowState) → length es ≡ length ss → (r : ℕ)
    → (get_or (rows_with es ss) r nobody).state ≡ get_or ss r Gone
state_in es ss same r = ap (λ (v : RowValue). v.state) (row_in es ss same r)

-- one that has the same state as before is as it was
pub row_kept : (es : List Entry) (ss ts : List RowState) → length es ≡ length ss → length es ≡ length ts → (r : ℕ)
    → get_or ts r Gone ≡ get_or ss r Gone
    → get_or (rows_with es ts) r nobody ≡ get_or (rows_with es ss) r nobody
row_kept es ss ts one two r same = row_in es ts two r
    ∙ (λ i. record { entry = get_or es r nobody.entry; state = same i }) ∙ sym (row_in es ss one r)

-- a state set is that of its row
pub state_set : (es : List Entry) (ss : List RowState) → length es ≡ length ss → (r : ℕ) (s : RowState)
    → rows_with es (set ss r s) ≡ set (rows_with es ss) r
    (record { entry = (get_or (rows_with es ss) r nobody).entry; state = s })
state_set [] ss same r s = refl
state_set (e ∷ es) [] same r s = absurd (omega arith)
state_set (e ∷ es) (x ∷ ss) same zero s = refl
state_set (e ∷ es) (x ∷ ss) same (suc r) s = ap (λ (rows : List RowValue). record { entry = e; state = x } ∷ rows)
    (state_set es ss (omega arith) r s)

-- and so are those of rows that are nodes
pub nodes_long : (tops : List ℕ) (ss : List RowState) → length (node_states tops ss) ≡ length ss
nodes_long [] ss = refl
nodes_long (r ∷ tops) ss = nodes_long tops (set ss r Node) ∙ length-set ss r Node

pub nodes_set : (es : List Entry) (tops : List ℕ) (ss : List RowState) → length es ≡ length ss
    → rows_with es (node_states tops ss) ≡ nodes_at tops (rows_with es ss)
nodes_set es [] ss same = refl
nodes_set es (r ∷ tops) ss same = nodes_set es tops (set ss r Node) (same ∙ sym (length-set ss r Node))
    ∙ ap (nodes_at tops) (state_set es ss same r Node)

-- and so is an entry
pub entry_set : (es : List Entry) (ss : List RowState) → length es ≡ length ss → (r : ℕ) (e : Entry)
    → rows_with (set es r e) ss ≡ set (rows_with es ss) r
    (record { entry = e; state = (get_or (rows_with es ss) r nobody).state })
entry_set [] ss same r e = refl
entry_set (x ∷ es) [] same r e = absurd (omega arith)
entry_set (x ∷ es) (s ∷ ss) same zero e = refl
entry_set (x ∷ es) (s ∷ ss) same (suc r) e = ap (λ (rows : List RowValue). record { entry = x; state = s } ∷ rows)
    (entry_set es ss (omega arith) r e)

-- more of both are more rows
pub rows_more : (es fs : List Entry) (ss ts : List RowState) → length es ≡ length ss → rows_with (es ++ fs) (ss ++ ts)
    ≡ rows_with es ss ++ rows_with fs ts
rows_more [] fs [] ts same = refl
rows_more [] fs (s ∷ ss) ts same = absurd (omega arith)
rows_more (e ∷ es) fs [] ts same = absurd (omega arith)
rows_more (e ∷ es) fs (s ∷ ss) ts same = ap (λ (rows : List RowValue). record { entry = e; state = s } ∷ rows)
    (rows_more es fs ss ts (omega arith))

-- the rows of an insert's run
pub run_columns : (array : ℕ) (dot : DotValue) (offset : ℕ) (run : List (List ℕ))
    → rows_with (run_entries dot offset run) (map (InArray array) (range_with_len offset (length run)))
    ≡ run_rows array dot offset run
run_columns array dot offset [] = refl
run_columns array dot offset (atom ∷ run) =
    (λ i. record {
      entry = record { id = record { dot = dot; offset = offset }; atom = atom; deletes = [] };
      state = InArray array offset;
    }
    ∷ rows_with (run_entries dot (suc offset) run) (map (InArray array) (range_with_len (next i) (length run))))
    ∙ ap (λ (rows : List RowValue). record {
      entry =
          record { id = record { dot = dot; offset = offset }; atom = atom; deletes = [] };
      state = InArray array offset;
    } ∷ rows) (run_columns array dot (suc offset) run)
  where
    next : offset + 1 ≡ suc offset
    next = omega arith

pub entries_long : (dot : DotValue) (offset : ℕ) (run : List (List ℕ)) → length (run_entries dot offset run)
    ≡ length run
entries_long dot offset [] = refl
entries_long dot offset (atom ∷ run) = ap suc (entries_long dot (suc offset) run)
