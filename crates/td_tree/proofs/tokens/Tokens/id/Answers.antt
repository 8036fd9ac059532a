use Rattle.std.proofs.Common.{◌∙◌, length, ap, sym, arith}
use Rattle.td_brackets.specs.Brackets.{Entry}
use Rattle.td_tree.specs.Parts.{Parts, table}
use Rattle.td_tree.proofs.Columns.{rows_long, entry_in}
use Rattle.td_tree.proofs.tokens.Tokens.id.Goals as goal

pub id-requires : goal.id-requires
id-requires c =
    let was = ap (λ (p : Parts). length p.rows) c.self.view_is in
    let long = rows_long c.self.inside.rows.entries c.self.inside.states.items c.self.invariant in
    omega (arith, c.requires)

pub returns : goal.returns
returns c =
    c.id.ensures
    ∙ ap (λ (e : Entry). e.id)
    (sym (entry_in c.self.inside.rows.entries c.self.inside.states.items c.self.invariant c.args.row))
    ∙ ap (λ (p : Parts). (table p c.args.row).id) c.self.view_is
