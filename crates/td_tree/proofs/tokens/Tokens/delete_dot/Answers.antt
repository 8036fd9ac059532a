use Rattle.std.proofs.Common.{◌∙◌, length, ap, sym, arith}
use Rattle.std.specs.Prelude.{slice_get}
use Rattle.td_brackets.specs.Brackets.{Entry}
use Rattle.td_tree.specs.Parts.{Parts, table}
use Rattle.td_tree.proofs.Columns.{rows_long, entry_in}
use Rattle.td_tree.proofs.tokens.Tokens.delete_dot.Goals as goal

pub delete_dot-requires : goal.delete_dot-requires
delete_dot-requires c =
    let was = ap (λ (p : Parts). length p.rows) c.self.view_is in
    let long = rows_long c.self.inside.rows.entries c.self.inside.states.items c.self.invariant in
    omega (arith, c.requires)

pub returns : goal.returns
returns c =
    c.delete_dot.ensures
    ∙ ap (λ (e : Entry). slice_get (e.deletes) c.args.k)
    (sym (entry_in c.self.inside.rows.entries c.self.inside.states.items c.self.invariant c.args.row))
    ∙ ap (λ (p : Parts). slice_get ((table p c.args.row).deletes) c.args.k) c.self.view_is
