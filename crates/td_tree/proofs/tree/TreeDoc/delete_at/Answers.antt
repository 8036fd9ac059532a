use Rattle.std.proofs.Common.{◌∙◌, ap, subst}
use Rattle.std.specs.Prelude.{slice_get}
use Rattle.td_tree.specs.Parts.{Parts, table, IsTree}
use Rattle.td_tree.proofs.RowsFound.{delete_dot_is}
use Rattle.td_tree.proofs.tree.TreeDoc.delete_at.Goals as goal

pub returns-in-Some : goal.returns-in-Some
returns-in-Some c =
    let t : IsTree c.args.self.now = subst IsTree c.self.view_is c.self.invariant.0.tree in
    let e = c.in-Some.ensures in
    c.delete_dot.ensures ∙ ap (λ (p : Parts). slice_get (table p c.in-Some.row).deletes c.args.k) c.self.view_is
    ∙ delete_dot_is c.args.self.now t c.in-Some.row e.known e.stands c.args.id e.named c.args.k
