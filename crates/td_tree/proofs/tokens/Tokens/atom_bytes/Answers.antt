use Rattle.std.proofs.Common.{◌∙◌, length, ap, sym, arith}
use Rattle.td_brackets.specs.Brackets.{Entry}
use Rattle.td_tree.specs.Parts.{Parts, table}
use Rattle.td_tree.proofs.Columns.{rows_long, entry_in}
use Rattle.td_tree.proofs.tokens.Tokens.atom_bytes.Goals as goal

pub atom_bytes-requires : goal.atom_bytes-requires
atom_bytes-requires c =
    let was = ap (λ (p : Parts). length p.rows) c.self.view_is in
    let long = rows_long c.self.inside.rows.entries c.self.inside.states.items c.self.invariant in
    omega (arith, c.requires)

pub returns-clause-bytes : goal.returns-clause-bytes
returns-clause-bytes c =
    c.atom_bytes.ensures.bytes
    ∙ ap (λ (e : Entry). e.atom)
    (sym (entry_in c.self.inside.rows.entries c.self.inside.states.items c.self.invariant c.args.row))
    ∙ ap (λ (p : Parts). (table p c.args.row).atom) c.self.view_is
