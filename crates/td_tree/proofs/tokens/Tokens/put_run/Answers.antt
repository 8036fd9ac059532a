use Rattle.std.proofs.Common.{◌≡◌, ◌∙◌, ◌+◌, ◌*◌, ◌/◌, ◌≤◌, ◌++◌, ◌∷◌, ℕ, List, [], length, map}
use Rattle.std.proofs.Common.{ap, sym, subst, ⊎_elim, arith, length-append}
use Rattle.std.specs.List.{range_with_len}
use Rattle.std.proofs.lemmas.List.FromFn.{length-map-range_with_len}
use Rattle.td_list.specs.Items.{Item, IsItem, put_at}
use Rattle.td_brackets.specs.Brackets.{Entry}
use Rattle.td_tree.specs.declared.tree_row.RowState.{RowState}
use Rattle.td_tree.specs.declared.tree_row.RowState.TheVariants.{InArray}
use Rattle.td_tree.specs.Parts.{Parts, rows_with, atom_item}
use Rattle.td_tree.specs.Places.{IsRunPut, run_rows, run_entries, top_id}
use Rattle.td_tree.proofs.Columns.{rows_long, rows_more, run_columns, entries_long}
use Rattle.td_tree.proofs.PutRow.{place_there, piece_new}
use Rattle.td_tree.proofs.PutRun.{is_run_put}
use Rattle.td_tree.proofs.tokens.Tokens.put_run.Goals as goal
use Rattle.td_tree.proofs.tokens.Tokens.put_run.Goals.{After-atom_item}

-- what is put
record Piece (c : After-atom_item) : Type 0 where
  first : c.len-first.result ≡ length c.args.self.now.rows
  count : c.from-count.result ≡ length c.args.run.now
  item : c.atom_item.result ≡ atom_item (length c.args.self.now.rows + length c.args.run.now / 2)
      (length c.args.run.now)
  list : c.args.self.now.items ≡ c.self.inside.list

piece : (c : After-atom_item) → Piece c
piece c =
    let long : length c.make_room.new.rows.entries ≡ length c.args.self.now.rows =
    ap (λ (xs : List Entry). length xs) c.make_room.ensures.rows
    ∙ sym (rows_long c.self.inside.rows.entries c.self.inside.states.items c.self.invariant)
    ∙ ap (λ (p : Parts). length p.rows) c.self.view_is in
    let first : c.len-first.result ≡ length c.args.self.now.rows = c.len-first.ensures ∙ long in
    let count : c.from-count.result ≡ length c.args.run.now = c.from-count.ensures ∙ c.len.ensures.len in
    record {
      first = first;
      count = count;
      item = c.atom_item.ensures ∙ (λ i. atom_item (first i + count i / 2) (count i));
      list = sym (ap (λ (p : Parts). p.items) c.self.view_is);
    }

pub put_at-requires-clause-there : goal.put_at-requires-clause-there
put_at-requires-clause-there c = λ x e.
    let k = piece (goal.at.put_at-requires-clause-there c).After-atom_item in
    subst (IsItem x) k.list (place_there c.args.self.now c.requires.place.0 (top_id c.args.dot c.args.run.now)
    c.args.at c.requires.place.1.place x e)

pub put_at-requires-clause-new : goal.put_at-requires-clause-new
put_at-requires-clause-new c = λ x i m.
    let k = piece (goal.at.put_at-requires-clause-new c).After-atom_item in
    let p : Parts = c.args.self.now in
    let n : ℕ = length p.rows in
    let name : c.atom_item.result.name ≡ 3 * (n + length c.args.run.now / 2) + 1 = ap (λ (y : Item). y.name) k.item in
    let high : n ≤ x / 3 = ⊎_elim (λ (e : x ≡ c.atom_item.result.name). omega arith) (λ (z : ⊥). absurd z) i in
    piece_new p c.requires.tree (c.atom_item.result ∷ [])
    (λ y o. ⊎_elim (λ (e : y ≡ c.atom_item.result.name). omega arith) (λ (z : ⊥). absurd z) o) x i
    (subst (IsItem x) (sym k.list) m)

pub rows_of_run-requires-clause-room : goal.rows_of_run-requires-clause-room
rows_of_run-requires-clause-room c =
    let count = c.from-count.ensures ∙ c.len.ensures.len in
    omega (arith, c.in_ok-make_room.ensures.room)

pub append-requires-clause-room : goal.append-requires-clause-room
append-requires-clause-room c =
    let long = ap (λ (xs : List Entry). length xs) c.in_ok-rows.ensures.rows
    ∙ entries_long c.args.dot 0 c.args.run.now in
    let count = c.from-count.ensures ∙ c.len.ensures.len in
    omega (arith, c.in_ok-make_room.ensures.room)

pub invariant_of-self-2 : goal.invariant_of-self-2
invariant_of-self-2 c =
    let entries = ap (λ (xs : List Entry). length xs) c.append.ensures
    ∙ length-append c.make_room.new.rows.entries c.in_ok-rows.rows.entries in
    let entries_kept = ap (λ (xs : List Entry). length xs) c.make_room.ensures.rows in
    let entries_more = ap (λ (xs : List Entry). length xs) c.in_ok-rows.ensures.rows
    ∙ entries_long c.args.dot 0 c.args.run.now in
    let more : List RowState = map (InArray c.len-2.result) (range_with_len 0 c.from-count.result) in
    let states = ap (λ (xs : List RowState). length xs) c.push_states.ensures
    ∙ length-append c.make_room.new.states.items more in
    let states_kept = ap (λ (xs : List RowState). length xs) c.make_room.ensures.states in
    let states_more = length-map-range_with_len (InArray c.len-2.result) 0 c.from-count.result in
    let count = c.from-count.ensures ∙ c.len.ensures.len in
    omega (arith, c.self.invariant)

pub returns-clause-ok : goal.returns-clause-ok
returns-clause-ok c =
    let k = piece (goal.at.returns-clause-ok c).After-atom_item in
    let p : Parts = c.args.self.now in
    let run : List (List ℕ) = c.args.run.now in
    let n : ℕ = length p.rows in
    let j : ℕ = length run in
    let arrays_same : c.make_array_room.new.arrays.items ≡ p.arrays = c.make_array_room.ensures.arrays
    ∙ ap (λ (q : Parts). q.arrays) c.self.view_is in
    let array_is : c.len-2.result ≡ length p.arrays = c.len-2.ensures ∙ c.make_array_room.new.arrays.ok.0
    ∙ ap (λ (xs : List (List ℕ)). length xs) arrays_same in
    let items : c.put_at.new.list ≡ put_at c.args.at (atom_item (n + j / 2) j ∷ []) p.items = c.in_ok-put_at.ensures.ok
    ∙ (λ i. put_at c.args.at (k.item i ∷ []) (sym k.list i)) in
    let entries : c.append.new.self.entries ≡ c.self.inside.rows.entries
    ++ run_entries c.args.dot 0 run = c.append.ensures
    ∙ (λ i. c.make_room.ensures.rows i ++ c.in_ok-rows.ensures.rows i) in
    let more : List RowState = map (InArray (length p.arrays)) (range_with_len 0 j) in
    let states : c.push_states.new.states.items ≡ c.self.inside.states.items ++ more =
    c.push_states.ensures ∙ (λ i. c.make_room.ensures.states i
    ++ map (InArray (array_is i)) (range_with_len 0 (k.count i))) in
    let rows : rows_with c.append.new.self.entries c.push_states.new.states.items ≡ p.rows
    ++ run_rows (length p.arrays) c.args.dot 0 run =
    (λ i. rows_with (entries i) (states i)) ∙ rows_more c.self.inside.rows.entries (run_entries c.args.dot 0 run)
    c.self.inside.states.items more c.self.invariant
    ∙ (λ i. (c.self.view_is i).rows ++ run_columns (length p.arrays) c.args.dot 0 run i) in
    let arrays : c.push_array.new.arrays.items ≡ p.arrays ++ range_with_len n j ∷ [] =
    c.push_array.ensures ∙ (λ i. arrays_same i ++ (c.in_ok-numbers.ensures
    ∙ (λ m. range_with_len (k.first m) (k.count m))) i ∷ []) in
    let few = c.in_ok-make_room.ensures.few in
    let long = rows_long c.self.inside.rows.entries c.self.inside.states.items c.self.invariant in
    let was = ap (λ (q : Parts). length q.rows) c.self.view_is in
    let some = c.len.ensures.run.some in
    let total = k.count in
    subst (λ (q : Parts). IsRunPut p q c.args.at c.args.dot run)
    (λ i. record {
      items = sym items i;
      rows = sym rows i;
      arrays = sym arrays i;
      nodes = (sym c.self.view_is i).nodes;
      count = (sym c.self.view_is i).count + sym k.count i;
    })
    (is_run_put p c.requires.tree c.args.at c.args.dot run c.requires.new some (omega arith))
