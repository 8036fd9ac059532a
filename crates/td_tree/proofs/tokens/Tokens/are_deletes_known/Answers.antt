use Rattle.std.proofs.Common.{◌∙◌, length, ap, sym, arith}
use Rattle.std.specs.List.{list_all}
use Rattle.td_clock.specs.Vector.{vector_has}
use Rattle.td_brackets.specs.Brackets.{Entry}
use Rattle.td_tree.specs.Parts.{Parts, table}
use Rattle.td_tree.proofs.Columns.{rows_long, entry_in}
use Rattle.td_tree.proofs.tokens.Tokens.are_deletes_known.Goals as goal

pub are_deletes_known-requires : goal.are_deletes_known-requires
are_deletes_known-requires c =
    let was = ap (λ (p : Parts). length p.rows) c.self.view_is in
    let long = rows_long c.self.inside.rows.entries c.self.inside.states.items c.self.invariant in
    omega (arith, c.requires)

pub returns : goal.returns
returns c =
    c.are_deletes_known.ensures
    ∙ ap (λ (e : Entry). list_all (vector_has c.args.v.now) (e.deletes))
    (sym (entry_in c.self.inside.rows.entries c.self.inside.states.items c.self.invariant c.args.row))
    ∙ ap (λ (p : Parts). list_all (vector_has c.args.v.now) ((table p c.args.row).deletes)) c.self.view_is
