use Rattle.std.proofs.Common.{◌≡◌, ◌<◌, ◌+◌, ◌++◌, ◌∷◌, ◌∙◌, [], None, List, length, ap, sym, subst, arith}
use Rattle.td_tree.specs.declared.row_atom.TheConstants.{MOST_LONG}
use Rattle.td_tree.specs.declared.tree_row.TreeRow.{TreeRow}
use Rattle.td_tree.specs.KeptRows.{Coming, entries_from, IsColumn}
use Rattle.td_tree.proofs.PlacedAtoms.{column_more, entries_one}
use Rattle.td_tree.proofs.new_rows.NewRows.push.Goals as goal
use Rattle.td_tree.proofs.new_rows.NewRows.push.Goals.{After-unwrap}

pushed : (c : After-unwrap) → c.push.new.self.items
    ≡ c.self.inside.rows.items ++ record { id = c.args.id; deleted = None; atom = c.placed-atom.result } ∷ []
pushed c = (rw c.unwrap.ensures at c.push.ensures.items) ∙ (λ i. c.self.inside.rows.items ++ c.new.ensures i ∷ [])

pub invariant_of-self : goal.invariant_of-self
invariant_of-self c =
    let now = c.placed-atom.new.long.items in
    let room = ap (λ (k : Coming). k.room) c.self.view_is in
    let few : c.self.inside.first + length c.self.inside.long.items < MOST_LONG = omega (arith, room, c.requires) in
    subst (λ (rs : List TreeRow). IsColumn c.self.inside.first rs now (λ _. None))
    (sym (pushed (goal.at.invariant_of-self c).After-unwrap))
    (column_more c.self.inside.first c.self.inside.rows.items c.self.inside.long.items now (λ _. None)
    c.self.invariant c.args.id c.args.atom c.placed-atom.result c.placed-atom.ensures.placed few)

pub returns-clause-row : goal.returns-clause-row
returns-clause-row c =
    let now = c.placed-atom.new.long.items in
    ap (entries_from c.self.inside.first now (λ _. None) 0) (pushed (goal.at.returns-clause-row c).After-unwrap)
    ∙ entries_one c.self.inside.first c.self.inside.rows.items c.self.inside.long.items now (λ _. None)
    c.self.invariant c.args.id c.args.atom c.placed-atom.result c.placed-atom.ensures.placed
    ∙ ap (λ (k : Coming). k.entries ++ record { id = c.args.id; atom = c.args.atom; deletes = [] } ∷ [])
    c.self.view_is
