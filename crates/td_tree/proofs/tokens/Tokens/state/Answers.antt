use Rattle.std.proofs.Common.{◌∙◌, length, ap, sym, refl, arith}
use Rattle.std.proofs.lemmas.List.{get_or_read_under}
use Rattle.td_tree.specs.declared.tree_row.RowState.TheVariants.{Gone}
use Rattle.td_tree.specs.Parts.{Parts, state_at}
use Rattle.td_tree.proofs.Columns.{states_long, state_in}
use Rattle.td_tree.proofs.tokens.Tokens.state.Goals as goal

pub index-requires : goal.index-requires
index-requires c =
    let was = ap (λ (p : Parts). length p.rows) c.self.view_is in
    let long = states_long c.self.inside.rows.entries c.self.inside.states.items c.self.invariant in
    omega (arith, c.self.inside.states.ok.0)

pub returns : goal.returns
returns c =
    let was = ap (λ (p : Parts). length p.rows) c.self.view_is in
    let long = states_long c.self.inside.rows.entries c.self.inside.states.items c.self.invariant in
    c.state.ensures
    ∙ get_or_read_under c.self.inside.states.items c.args.row (length c.self.inside.states.items) c.index.result.now
    Gone c.index.ensures (omega arith) refl
    ∙ sym (state_in c.self.inside.rows.entries c.self.inside.states.items c.self.invariant c.args.row)
    ∙ ap (λ (p : Parts). state_at p c.args.row) c.self.view_is
