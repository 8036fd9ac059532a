use Rattle.std.proofs.Common.{◌≡◌, ◌≤◌, ◌++◌, ◌∙◌, None, ℕ, List, length, ap, sym, subst, arith}
use Rattle.td_tree.specs.declared.tree_row.TreeRow.{TreeRow}
use Rattle.td_tree.specs.KeptRows.{Column, Coming, several_at, entries_from, IsColumn}
use Rattle.td_tree.proofs.KeptRows.{entries_long}
use Rattle.td_tree.proofs.PlacedAtoms.{column_both, entries_both}
use Rattle.td_tree.proofs.kept_rows.KeptRows.append.Goals as goal
use Rattle.td_tree.proofs.kept_rows.KeptRows.append.Goals.{After-append, After-unwrap, After-unwrap-2}

-- the first of them gets the next number
next : (c : After-append) → c.more.inside.first ≡ length c.self.inside.long.items
next c = ap (λ (k : Coming). k.first) c.more.view_is ∙ c.requires.first
    ∙ ap (λ (k : Column). k.long) (sym c.self.view_is)

room : (c : After-append) → length c.more.inside.rows.items ≤ c.args.self.now.room
room c =
    let long = entries_long c.more.inside.first c.more.inside.long.items (λ _. None) 0 c.more.inside.rows.items in
    let was = ap (λ (k : Coming). length k.entries) c.more.view_is in
    omega (arith, c.requires.room)

new : (c : After-append) → IsColumn (length c.self.inside.long.items) c.more.inside.rows.items
    c.more.inside.long.items (λ _. None)
new c = subst (λ (n : ℕ). IsColumn n c.more.inside.rows.items c.more.inside.long.items (λ _. None)) (next c)
    c.more.invariant

pub unwrap-requires : goal.unwrap-requires
unwrap-requires c =
    let fits = room (goal.at.unwrap-requires c).After-append in
    let is = ap (λ (k : Column). k.room) c.self.view_is in
    c.append.ensures.succeeds (omega (arith, fits, is, c.self.inside.rows.ok.0, c.more.inside.rows.ok.0))

pub unwrap-requires-2 : goal.unwrap-requires-2
unwrap-requires-2 c =
    let fits = room (goal.at.unwrap-requires-2 c).After-append in
    let is = ap (λ (k : Column). k.room) c.self.view_is in
    let fewer = c.more.invariant.fewer in
    c.append-2.ensures.succeeds (omega (arith, fits, is, fewer, c.self.inside.long.ok.0, c.more.inside.long.ok.0))

rows_are : (c : After-unwrap) → c.append.new.self.items ≡ c.self.inside.rows.items ++ c.more.inside.rows.items
rows_are c = rw c.unwrap.ensures at c.append.ensures.items

atoms_are : (c : After-unwrap-2) → c.append-2.new.self.items ≡ c.self.inside.long.items ++ c.more.inside.long.items
atoms_are c = rw c.unwrap-2.ensures at c.append-2.ensures.items

pub invariant_of-self : goal.invariant_of-self
invariant_of-self c =
    let a = goal.at.invariant_of-self c in
    let several = several_at c.self.inside.several in
    subst (λ (p : List TreeRow × List (List ℕ)). IsColumn 0 p.0 p.1 several)
    (λ i. (sym (rows_are a.After-unwrap) i, sym (atoms_are a.After-unwrap-2) i))
    (column_both c.self.inside.rows.items c.more.inside.rows.items c.self.inside.long.items c.more.inside.long.items
    several c.self.invariant (new a.After-append))

pub returns : goal.returns
returns c =
    let a = goal.at.returns c in
    let several = several_at c.self.inside.several in
    (λ i. entries_from 0 (atoms_are a.After-unwrap-2 i) several 0 (rows_are a.After-unwrap i))
    ∙ entries_both c.self.inside.rows.items c.more.inside.rows.items c.self.inside.long.items
    c.more.inside.long.items several c.self.invariant (new a.After-append)
    ∙ (λ i. (c.self.view_is i).entries
    ++ entries_from (sym (next a.After-append) i) c.more.inside.long.items (λ _. None) 0 c.more.inside.rows.items)
    ∙ ap (λ (k : Coming). c.args.self.now.entries ++ k.entries) c.more.view_is
