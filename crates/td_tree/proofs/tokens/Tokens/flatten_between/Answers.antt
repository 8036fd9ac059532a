use Rattle.std.proofs.Common.{◌≡◌, ◌∙◌, ◌++◌, ◌∷◌, ◌+◌, ◌-◌, ◌/◌, ◌<◌, ◌≤◌, ◌^◌, ℕ, List, []}
use Rattle.std.proofs.Common.{length, get_or, ap, sym, subst, arith, length-append}
use Rattle.std.proofs.lemmas.List.{append-nil}
use Rattle.td_base.specs.Lists.{In}
use Rattle.td_list.specs.Items.{Item, IsItem, AreNew, items_before, items_from_end, place_of, replace, weight_of}
use Rattle.td_brackets.specs.Laws.{live_numbers}
use Rattle.td_brackets.specs.Brackets.{Entry}
use Rattle.td_tree.specs.Parts.{Parts, rows_with, table, row_at, state_at, tokens_of}
use Rattle.td_tree.specs.declared.tree_row.RowState.{RowState}
use Rattle.td_tree.specs.declared.tree_row.RowState.TheVariants.{InArray}
use Rattle.td_tree.specs.Stretches.{leaf_of, IsFound}
use Rattle.td_tree.proofs.Columns.{rows_long, states_long, row_kept, entry_in, state_in}
use Rattle.td_tree.proofs.Gathered.{place_in}
use Rattle.td_tree.proofs.Opening.{more_nodes}
use Rattle.td_tree.proofs.SlotStretches.{live_below, live_few, live_places, first_there, end_there, leaf_new}
use Rattle.td_tree.proofs.SlotStretches.{open_below, opens_few, dead_below, flattened, opens_long}
use Rattle.td_tree.proofs.GivenBack.{in_array}
use Rattle.td_tree.proofs.OneLeaf.{one_flat, one_has_no_nodes}
use Rattle.td_tree.proofs.tokens.Tokens.flatten_between.Goals as goal
use Rattle.td_tree.proofs.tokens.Tokens.flatten_between.Goals.{After-deref, After-deref-3}

-- what was found
found : (c : After-deref) → IsFound c.args.self.now (tokens_of c.args.self.now c.requires.stretch.1.stretch.inner)
    c.in_ok-found.found.live.items c.in_ok-found.found.nodes.items c.in_ok-found.found.dead
found c = c.in_ok-found.ensures c.requires.stretch.1.stretch

live : (c : After-deref) → c.deref.result.now ≡ live_numbers (table c.args.self.now)
    (tokens_of c.args.self.now c.requires.stretch.1.stretch.inner)
live c = c.deref.ensures.value ∙ (found c).live_is

items : (c : After-deref) → c.args.self.now.items ≡ c.self.inside.list
items c = sym (ap (λ (p : Parts). p.items) c.self.view_is)

pub put_leaf-requires-clause-known : goal.put_leaf-requires-clause-known
put_leaf-requires-clause-known c = λ k m.
    let d = (goal.at.put_leaf-requires-clause-known c).After-deref in
    let p : Parts = c.args.self.now in
    let s = c.requires.stretch in
    let below = live_below p c.requires.tree s.0 c.args.first c.args.end s.1 k
    (subst (λ (xs : List ℕ). k < length xs) (live d) m) in
    let most = c.requires.tree.most in
    subst (λ (xs : List ℕ). get_or xs k 0 < 2 ^ 30) (sym (live d)) (omega arith)

pub put_leaf-requires-clause-few : goal.put_leaf-requires-clause-few
put_leaf-requires-clause-few c =
    let d = (goal.at.put_leaf-requires-clause-few c).After-deref in
    let s = c.requires.stretch in
    subst (λ (xs : List ℕ). length xs ≤ 2 ^ 30) (sym (live d))
    (live_few c.args.self.now c.requires.tree s.0 c.args.first c.args.end s.1)

pub put_leaf-requires-clause-first : goal.put_leaf-requires-clause-first
put_leaf-requires-clause-first c =
    let d = (goal.at.put_leaf-requires-clause-first c).After-deref in
    let s = c.requires.stretch in
    subst (IsItem c.args.first) (items d) (first_there c.args.self.now c.requires.tree s.0 c.args.first c.args.end s.1)

pub put_leaf-requires-clause-end : goal.put_leaf-requires-clause-end
put_leaf-requires-clause-end c = λ x e.
    let d = (goal.at.put_leaf-requires-clause-end c).After-deref in
    let s = c.requires.stretch in
    subst (λ (xs : List Item). IsItem x xs × (place_of c.args.first xs ≤ place_of x xs)) (items d)
    (end_there c.args.self.now c.requires.tree s.0 c.args.first c.args.end s.1 x e)

pub put_leaf-requires-clause-new : goal.put_leaf-requires-clause-new
put_leaf-requires-clause-new c =
    let d = (goal.at.put_leaf-requires-clause-new c).After-deref in
    let s = c.requires.stretch in
    subst (λ (x : List ℕ × List Item). AreNew (leaf_of x.0)
    (items_before c.args.first x.1 ++ items_from_end c.args.end x.1)) (λ i. (sym (live d) i, items d i))
    (leaf_new c.args.self.now c.requires.tree s.0 c.args.first c.args.end s.1)

pub put_leaf-requires-clause-light : goal.put_leaf-requires-clause-light
put_leaf-requires-clause-light c =
    let d = (goal.at.put_leaf-requires-clause-light c).After-deref in
    let s = c.requires.stretch in
    let few = live_few c.args.self.now c.requires.tree s.0 c.args.first c.args.end s.1 in
    let light = c.requires.tree.light in
    let most = c.requires.tree.most in
    subst (λ (x : List Item × List ℕ). weight_of x.0 + length x.1 < 2 ^ 31) (λ i. (items d i, sym (live d) i))
    (omega arith)

pub bury-requires : goal.bury-requires
bury-requires c = λ r m.
    let d = (goal.at.bury-requires c).After-deref in
    let s = c.requires.stretch in
    let nodes = c.deref-2.ensures.value ∙ (found d).nodes_are in
    let below = open_below c.args.self.now c.requires.tree s.0 c.args.first c.args.end s.1 r (subst (In r) nodes m) in
    let known = states_long c.self.inside.rows.entries c.self.inside.states.items c.self.invariant in
    let was = ap (λ (q : Parts). length q.rows) c.self.view_is in
    omega arith

live_last : (c : After-deref-3) → After-deref → c.deref-3.result.now
    ≡ live_numbers (table c.args.self.now) (tokens_of c.args.self.now c.requires.stretch.1.stretch.inner)
live_last c d = c.deref-3.ensures.value ∙ (c.in_ok-found.ensures c.requires.stretch.1.stretch).live_is

pub gather-requires-clause-known : goal.gather-requires-clause-known
gather-requires-clause-known c = λ r m.
    let s = c.requires.stretch in
    let p : Parts = c.args.self.now in
    let same = c.deref-3.ensures.value ∙ (c.in_ok-found.ensures s.1.stretch).live_is in
    let k = place_in (live_numbers (table p) (tokens_of p s.1.stretch.inner)) r (subst (In r) same m) in
    let below : get_or (live_numbers (table p) (tokens_of p s.1.stretch.inner)) k.0 0 < length p.rows =
    live_below p c.requires.tree s.0 c.args.first c.args.end s.1 k.0 k.1 in
    let long = c.bury.ensures.long in
    let known = states_long c.self.inside.rows.entries c.self.inside.states.items c.self.invariant in
    let was = ap (λ (q : Parts). length q.rows) c.self.view_is in
    subst (λ (x : ℕ). x < length c.bury.new.states.items) (sym k.2) (omega arith)

pub gather-requires-clause-apart : goal.gather-requires-clause-apart
gather-requires-clause-apart c = λ i j l m e.
    let s = c.requires.stretch in
    let p : Parts = c.args.self.now in
    let same = c.deref-3.ensures.value ∙ (c.in_ok-found.ensures s.1.stretch).live_is in
    live_places p c.requires.tree s.0 c.args.first c.args.end s.1 i j (subst (λ (xs : List ℕ). i < length xs) same l)
    (subst (λ (xs : List ℕ). j < length xs) same m)
    (subst (λ (xs : List ℕ). get_or xs i 0 ≡ get_or xs j 0) same e)

pub gather-requires-clause-few : goal.gather-requires-clause-few
gather-requires-clause-few c =
    let s = c.requires.stretch in
    let few = live_few c.args.self.now c.requires.tree s.0 c.args.first c.args.end s.1 in
    let same = ap (λ (xs : List ℕ). length xs) (c.deref-3.ensures.value ∙ (c.in_ok-found.ensures s.1.stretch).live_is)
    in
    omega arith

pub overflow_cast-self : goal.overflow_cast-self
overflow_cast-self c =
    let s = c.requires.stretch in
    let few = opens_few c.args.self.now c.requires.tree s.0 c.args.first c.args.end s.1 in
    let nodes = ap (λ (xs : List ℕ). length xs) (c.in_ok-found.ensures s.1.stretch).nodes_are in
    let was = ap (λ (q : Parts). q.nodes) c.self.view_is in
    let len = c.len-3.ensures ∙ c.in_ok-found.found.nodes.ok.0 in
    let most = more_nodes c.args.self.now c.requires.tree in
    omega arith

pub overflow_sub-self : goal.overflow_sub-self
overflow_sub-self c =
    let s = c.requires.stretch in
    let few = opens_few c.args.self.now c.requires.tree s.0 c.args.first c.args.end s.1 in
    let nodes = ap (λ (xs : List ℕ). length xs) (c.in_ok-found.ensures s.1.stretch).nodes_are in
    let was = ap (λ (q : Parts). q.nodes) c.self.view_is in
    let len = c.len-3.ensures ∙ c.in_ok-found.found.nodes.ok.0 in
    omega arith

pub overflow_sub-self-2 : goal.overflow_sub-self-2
overflow_sub-self-2 c =
    let s = c.requires.stretch in
    let few = dead_below c.args.self.now c.requires.tree s.0 c.args.first c.args.end s.1
    c.in_ok-found.found.live.items c.in_ok-found.found.nodes.items c.in_ok-found.found.dead
    (c.in_ok-found.ensures s.1.stretch) in
    let was = ap (λ (q : Parts). q.count) c.self.view_is in
    omega arith

pub returns-clause-ok : goal.returns-clause-ok
returns-clause-ok c = λ slot s.
    let p : Parts = c.args.self.now in
    let f = c.in_ok-found.ensures s.stretch in
    let now = c.deref.ensures.value ∙ f.live_is in
    let last = c.deref-3.ensures.value ∙ f.live_is in
    let opens = c.deref-2.ensures.value ∙ f.nodes_are in
    let view = c.self.view_is in
    let few = opens_few p c.requires.tree slot c.args.first c.args.end s in
    let less = dead_below p c.requires.tree slot c.args.first c.args.end s c.in_ok-found.found.live.items
    c.in_ok-found.found.nodes.items c.in_ok-found.found.dead f in
    let nodes_was = ap (λ (q : Parts). q.nodes) view in
    let count_was = ap (λ (q : Parts). q.count) view in
    let opens_long = ap (λ (xs : List ℕ). length xs) f.nodes_are in
    let len = c.len-3.ensures ∙ c.in_ok-found.found.nodes.ok.0 in
    let q : Parts = record {
      items = c.put_leaf.new.list;
      rows = rows_with c.self.inside.rows.entries c.gather.new.states.items;
      arrays = c.push_array.new.arrays.items;
      nodes = c.self.inside.nodes - c.len-3.result;
      count = c.self.inside.count - c.in_ok-found.found.dead;
    } in
    let arrays_len : c.len-2.result ≡ length p.arrays = c.len-2.ensures ∙ c.reserve_by_quarter.new.items.ok.0
    ∙ ap (λ (xs : List (List ℕ)). length xs)
    (c.reserve_by_quarter.ensures.items ∙ ap (λ (q : Parts). q.arrays) view) in
    let entries : List Entry = c.self.inside.rows.entries in
    let states : List RowState = c.self.inside.states.items in
    let buried : List RowState = c.bury.new.states.items in
    let gathered : List RowState = c.gather.new.states.items in
    let one : length entries ≡ length buried = c.self.invariant ∙ sym c.bury.ensures.long in
    let two : length entries ≡ length gathered = one ∙ sym c.gather.ensures.long in
    flattened p c.requires.tree slot c.args.first c.args.end s q
    (c.in_ok-put_leaf.ensures.ok ∙ (λ i. replace c.args.first c.args.end (leaf_of (now i)) (view i).items))
    (c.push_array.ensures ∙ (λ i. (c.reserve_by_quarter.ensures.items ∙ ap (λ (q : Parts). q.arrays) view) i
    ++ f.live_is i ∷ []))
    (rows_with entries buried)
    (rows_long entries buried one ∙ sym (rows_long entries states c.self.invariant)
    ∙ ap (λ (q : Parts). length q.rows) view)
    (λ r. entry_in entries buried one r ∙ sym (entry_in entries states c.self.invariant r)
    ∙ ap (λ (q : Parts). table q r) view)
    (λ r m. state_in entries buried one r ∙ c.bury.ensures.gone r (subst (In r) (sym opens) m))
    (λ r n. row_kept entries states buried c.self.invariant one r
    (c.bury.ensures.others r (λ m. n (subst (In r) opens m))) ∙ ap (λ (q : Parts). row_at q r) view)
    (rows_long entries gathered two ∙ sym (rows_long entries buried one))
    (λ r. entry_in entries gathered two r ∙ sym (entry_in entries buried one r))
    (λ j m. ap (λ (xs : List ℕ). state_at q (get_or xs j 0)) (sym last)
    ∙ state_in entries gathered two (get_or c.deref-3.result.now j 0)
    ∙ c.gather.ensures.inside j (subst (λ (xs : List ℕ). j < length xs) (sym last) m)
    ∙ ap (λ (n : ℕ). InArray n j) arrays_len)
    (λ r n. row_kept entries buried gathered one two r (c.gather.ensures.others r (λ m. n (subst (In r) last m))))
    (omega arith) c.in_ok-found.found.live.items c.in_ok-found.found.nodes.items c.in_ok-found.found.dead f
    (omega arith)

pub returns-clause-nodes : goal.returns-clause-nodes
returns-clause-nodes c = λ s.
    let p : Parts = c.args.self.now in
    let t = c.requires.stretch in
    let few = opens_few p c.requires.tree t.0 c.args.first c.args.end t.1 in
    let own = ap (λ (xs : List ℕ). length xs) (c.in_ok-found.ensures t.1.stretch).nodes_are in
    let nodes = ap (λ (xs : List ℕ). length xs) (c.in_ok-found.ensures s).nodes_are in
    let count = opens_long (tokens_of p s.inner) in
    let was = ap (λ (q : Parts). q.nodes) c.self.view_is in
    let len = c.len-3.ensures ∙ c.in_ok-found.found.nodes.ok.0 in
    omega arith

pub returns-clause-last : goal.returns-clause-last
returns-clause-last c = λ u starts ends r a i l e.
    let p : Parts = c.args.self.now in
    let s = c.requires.stretch in
    let f = c.in_ok-found.ensures s.1.stretch in
    let now = c.deref.ensures.value ∙ f.live_is in
    let last = c.deref-3.ensures.value ∙ f.live_is in
    let view = c.self.view_is in
    let q : Parts = record {
      items = c.put_leaf.new.list;
      rows = rows_with c.self.inside.rows.entries c.gather.new.states.items;
      arrays = c.push_array.new.arrays.items;
      nodes = c.self.inside.nodes - c.len-3.result;
      count = c.self.inside.count - c.in_ok-found.found.dead;
    } in
    let live : List ℕ = live_numbers (table p) (tokens_of p s.1.stretch.inner) in
    let arrays_len : c.len-2.result ≡ length p.arrays = c.len-2.ensures ∙ c.reserve_by_quarter.new.items.ok.0
    ∙ ap (λ (xs : List (List ℕ)). length xs)
    (c.reserve_by_quarter.ensures.items ∙ ap (λ (q : Parts). q.arrays) view) in
    let arrays : q.arrays ≡ p.arrays ++ live ∷ [] = c.push_array.ensures
    ∙ (λ i. (c.reserve_by_quarter.ensures.items ∙ ap (λ (q : Parts). q.arrays) view) i ++ f.live_is i ∷ []) in
    let long : length q.arrays ≡ length p.arrays + 1 = ap (λ (xs : List (List ℕ)). length xs) arrays
    ∙ length-append p.arrays (live ∷ []) in
    let items : q.items ≡ leaf_of live =
    c.in_ok-put_leaf.ensures.ok ∙ (λ i. replace c.args.first c.args.end (leaf_of (now i)) (view i).items)
    ∙ (λ i. (starts i ++ leaf_of live) ++ items_from_end (ends i) p.items) ∙ append-nil (leaf_of live) in
    let alone : a ≡ length p.arrays =
    in_array q (returns-clause-ok c s.0 s.1).tree live (length p.arrays) items
    (λ m. ap (λ (xs : List ℕ). state_at q (get_or xs (length live / 2) 0)) (sym last)
    ∙ state_in c.self.inside.rows.entries c.gather.new.states.items
    (c.self.invariant ∙ sym c.bury.ensures.long ∙ sym c.gather.ensures.long)
    (get_or c.deref-3.result.now (length live / 2) 0)
    ∙ c.gather.ensures.inside (length live / 2) (subst (λ (xs : List ℕ). length live / 2 < length xs) (sym last)
    (below (length live) m)) ∙ ap (λ (n : ℕ). InArray n (length live / 2)) arrays_len)
    r a i l e in
    omega (arith, alone, long)
  where
    below : (n : ℕ) → 0 < n → n / 2 < n
    below n h = omega arith

pub returns-then-is_one_leaf-clause-ok : goal.returns-then-is_one_leaf-clause-ok
returns-then-is_one_leaf-clause-ok c = λ slot s.
    one_flat c.args.self.now c.requires.tree c.args.first c.args.end (c.is_one_leaf.ensures c.if-is_one_leaf.true) slot s

pub returns-then-is_one_leaf-clause-nodes : goal.returns-then-is_one_leaf-clause-nodes
returns-then-is_one_leaf-clause-nodes c = λ s.
    one_has_no_nodes c.args.self.now c.requires.tree c.args.first c.args.end (c.is_one_leaf.ensures c.if-is_one_leaf.true)
    s

pub is_one_leaf-requires-clause-first : goal.is_one_leaf-requires-clause-first
is_one_leaf-requires-clause-first c =
    let s = c.requires.stretch in
    first_there c.args.self.now c.requires.tree s.0 c.args.first c.args.end s.1
