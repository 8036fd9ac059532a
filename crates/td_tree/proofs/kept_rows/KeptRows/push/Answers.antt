use Rattle.std.proofs.Common.{◌≡◌, ◌<◌, ◌+◌, ◌++◌, ◌∷◌, ◌∙◌, [], None, List, length, ap, sym, subst, arith}
use Rattle.std.proofs.Common.{length-append}
use Rattle.td_brackets.specs.Brackets.{Entry}
use Rattle.td_tree.specs.declared.row_atom.TheConstants.{MOST_LONG}
use Rattle.td_tree.specs.declared.tree_row.TreeRow.{TreeRow}
use Rattle.td_tree.specs.KeptRows.{Column, several_at, entries_from, IsColumn}
use Rattle.td_tree.proofs.PlacedAtoms.{column_more, entries_one}
use Rattle.td_tree.proofs.kept_rows.KeptRows.push.Goals as goal
use Rattle.td_tree.proofs.kept_rows.KeptRows.push.Goals.{After-unwrap}

pushed : (c : After-unwrap) → c.push.new.self.items
    ≡ c.self.inside.rows.items ++ record { id = c.args.id; deleted = None; atom = c.placed-atom.result } ∷ []
pushed c = (rw c.unwrap.ensures at c.push.ensures.items) ∙ (λ i. c.self.inside.rows.items ++ c.new.ensures i ∷ [])

pub invariant_of-self : goal.invariant_of-self
invariant_of-self c =
    let now = c.placed-atom.new.long.items in
    let room = ap (λ (k : Column). k.room) c.self.view_is in
    let few : 0 + length c.self.inside.long.items < MOST_LONG = omega (arith, room, c.requires) in
    subst (λ (rs : List TreeRow). IsColumn 0 rs now (several_at c.self.inside.several))
    (sym (pushed (goal.at.invariant_of-self c).After-unwrap))
    (column_more 0 c.self.inside.rows.items c.self.inside.long.items now (several_at c.self.inside.several)
    c.self.invariant c.args.id c.args.atom c.placed-atom.result c.placed-atom.ensures.placed few)

pub returns-clause-row : goal.returns-clause-row
returns-clause-row c =
    let now = c.placed-atom.new.long.items in
    ap (entries_from 0 now (several_at c.self.inside.several) 0) (pushed (goal.at.returns-clause-row c).After-unwrap)
    ∙ entries_one 0 c.self.inside.rows.items c.self.inside.long.items now (several_at c.self.inside.several)
    c.self.invariant c.args.id c.args.atom c.placed-atom.result c.placed-atom.ensures.placed
    ∙ ap (λ (k : Column). k.entries ++ record { id = c.args.id; atom = c.args.atom; deletes = [] } ∷ [])
    c.self.view_is

pub returns-clause-long : goal.returns-clause-long
returns-clause-long c =
    let new : Entry = record { id = c.args.id; atom = c.args.atom; deletes = [] } in
    ap length (returns-clause-row c) ∙ length-append c.args.self.now.entries (new ∷ [])
