-- The row that was put last.
use Rattle.std.proofs.Common.{◌≡◌, ◌≢◌, ◌+◌, ◌*◌, ◌<◌, ◌∙◌, ℕ, List, [], ◌∷◌, ◌++◌, length, get_or, Option, Some, None}
use Rattle.std.proofs.Common.{sym, ap, subst, arith, length-append, true≢false}
use Rattle.std.specs.Prelude.{IfSome}
use Rattle.std.proofs.lemmas.List.{get_or_push}
use Rattle.td_base.specs.Value.{AtomIdValue}
use Rattle.td_doc.specs.Document.{find_row, live_id_at, is_empty_list}
use Rattle.td_doc.specs.Answers.{is_live_found, live_before}
use Rattle.td_doc.proofs.LiveIndex.{found_at_index}
use Rattle.td_brackets.specs.Brackets.{Entry}
use Rattle.td_list.specs.Items.{first_name, items_after}
use Rattle.td_identities.specs.declared.identities.Identities.{Identities}
use Rattle.td_identities.specs.Identities.{number_of}
use Rattle.td_identities.specs.Numbers.{with_run}
use Rattle.td_tree.specs.declared.last.Last.{Last}
use Rattle.td_tree.specs.declared.tree_row.RowState.TheVariants.{Node, Gone}
use Rattle.td_tree.specs.Parts.{RowValue, Parts, nobody, row_at, state_at, table}
use Rattle.td_tree.specs.Parts.{doc_rows, IsTree}
use Rattle.td_tree.specs.Last.{IsLast}
use Rattle.td_tree.specs.Whole.{IsWhole}
use Rattle.td_tree.proofs.RowsFound.{found_row, gone_found}
use Rattle.td_tree.proofs.Wholes.{run_new}

-- where there is one
pub last_is : (p : Parts) (identities : Identities) (o : Option Last) (last : Last) → IfSome o (IsLast p identities)
    → o ≡ Some last → IsLast p identities last
last_is p identities o last h e = subst (λ (q : Option Last). IfSome q (IsLast p identities)) e h

-- its index, where it is counted
pub index_is : (p : Parts) (identities : Identities) (last : Last) → IsLast p identities last → (index : ℕ)
    → last.index ≡ Some index → index ≡ live_before last.id (doc_rows p)
index_is p identities last k index e = subst (λ (o : Option ℕ). IfSome o (λ n. n ≡ live_before last.id (doc_rows p)))
    e k.index

pub index_as : (o : Option ℕ) (a b : ℕ) → a ≡ b → IfSome o (λ n. n ≡ a) → IfSome o (λ n. n ≡ b)
index_as None a b e h = tt
index_as (Some n) a b e h = h ∙ e

-- with the same numbers
pub same_last : (p : Parts) (old new : Identities) (o : Option Last)
    → ((x : AtomIdValue) → number_of new x ≡ number_of old x) → IfSome o (IsLast p old) → IfSome o (IsLast p new)
same_last p old new None h k = tt
same_last p old new (Some last) h k = record {
  live = k.live;
  number = h last.id ∙ k.number;
  index = k.index;
  node = k.node;
  alone = k.alone;
}

-- its number is that of a row
pub last_row : (p : Parts) (identities : Identities) (seen : List ℕ) → IsWhole p identities seen → (last : Last)
    → IsLast p identities last
    → (last.row < length p.rows) × (state_at p last.row ≢ Gone) × ((table p last.row).id ≡ last.id)
last_row p identities seen w last k =
    let f = w.named.found last.id last.row k.number in (
      f.0,
      λ g. true≢false (sym k.live ∙ ap is_live_found
          (gone_found p w.tree (number_of identities) w.named last.id last.row k.number g)),
      f.1,
    )

-- the live row at its index is that row
pub last_at : (p : Parts) → IsTree p → (identities : Identities) (last : Last) → IsLast p identities last
    → (index : ℕ) → last.index ≡ Some index → Some last.id ≡ live_id_at (doc_rows p) index
last_at p t identities last k index e =
    sym (ap (live_id_at (doc_rows p)) (index_is p identities last k index e)
    ∙ found_at_index (doc_rows p) last.id t.brackets.document k.live)

-- a row that was just put
module _ (p q : Parts) (id : AtomIdValue) (atom : List ℕ) (row : ℕ) (number : row ≡ length p.rows)
    (rows : q.rows ≡ p.rows ++ record { entry = record { id = id; atom = atom; deletes = [] }; state = Node } ∷ [])
  where
    abbrev new_row : RowValue
    new_row = record { entry = record { id = id; atom = atom; deletes = [] }; state = Node }

    here : row_at q row ≡ new_row
    here = ap (λ (k : List RowValue). get_or k row nobody) rows ∙ get_or_push p.rows new_row nobody row (sym number)

    pub put_known : row < length q.rows
    put_known =
        let long : length q.rows ≡ length p.rows + 1 = ap length rows ∙ length-append p.rows (new_row ∷ []) in
        omega arith

    pub put_node : state_at q row ≡ Node
    put_node = ap (λ (v : RowValue). v.state) here

    pub put_last : IsTree q → (old new : Identities)
        → ((x : AtomIdValue) → number_of new x ≡ with_run id (record { first = row; count = 1 }) x (number_of old x))
        → (index : Option ℕ) → IfSome index (λ n. n ≡ live_before (table q row).id (doc_rows q))
        → first_name (items_after (3 * row + 1) q.items) ≡ Some (3 * row + 2)
        → IsLast q new (record { id = id; row = row; index = index })
    put_last tree old new numbers index e alone =
        let f = found_row q tree row put_known (λ g. not_gone (sym put_node ∙ g)) in
        let none : id.offset ≡ id.offset + 0 = omega arith in
        let first : row + 0 ≡ row = omega arith in
        let named : (table q row).id ≡ id = ap (λ (v : RowValue). v.entry.id) here in
        record {
          live = ap is_live_found (ap (λ (x : AtomIdValue). find_row x (doc_rows q)) (sym named) ∙ f.found)
              ∙ ap (λ (k : Entry). is_empty_list k.deletes) (f.entry ∙ ap (λ (v : RowValue). v.entry) here);
          number = numbers id ∙ (λ i. with_run id (record { first = row; count = 1 })
              (record { dot = id.dot; offset = none i }) (number_of old id))
              ∙ run_new id row 1 0 (number_of old id) (omega arith) ∙ ap (λ (n : ℕ). Some n) first;
          index = index_as index (live_before (table q row).id (doc_rows q)) (live_before id (doc_rows q))
              (ap (λ (x : AtomIdValue). live_before x (doc_rows q)) named) e;
          node = put_node;
          alone = alone;
        }
      where
        not_gone : Node ≡ Gone → ⊥
        not_gone e = cc
