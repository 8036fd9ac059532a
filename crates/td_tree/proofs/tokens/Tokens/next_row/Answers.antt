use Rattle.std.proofs.Common.{◌∙◌, length, ap, sym, arith}
use Rattle.td_tree.specs.Parts.{Parts}
use Rattle.td_tree.proofs.Columns.{rows_long}
use Rattle.td_tree.proofs.tokens.Tokens.next_row.Goals as goal

pub returns-clause-number : goal.returns-clause-number
returns-clause-number c =
    c.len.ensures ∙ sym (rows_long c.self.inside.rows.entries c.self.inside.states.items c.self.invariant)
    ∙ ap (λ (p : Parts). length p.rows) c.self.view_is

pub overflow_cast-result : goal.overflow_cast-result
overflow_cast-result c =
    let was = ap (λ (p : Parts). length p.rows) c.self.view_is in
    let long = rows_long c.self.inside.rows.entries c.self.inside.states.items c.self.invariant in
    omega (arith, c.len.ensures, c.requires.most)

pub returns-clause-few : goal.returns-clause-few
returns-clause-few c =
    let was = ap (λ (p : Parts). length p.rows) c.self.view_is in
    let long = rows_long c.self.inside.rows.entries c.self.inside.states.items c.self.invariant in
    omega (arith, c.len.ensures, c.requires.most)
