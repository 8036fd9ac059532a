use Rattle.std.proofs.Common.{◌≡◌, refl, subst, true}
use Rattle.td_doc.specs.Slots.{is_known}
use Rattle.td_tree.specs.Parts.{Parts, doc_rows}
use Rattle.td_tree.proofs.RowsFound.{seen_known}
use Rattle.td_tree.proofs.tree.TreeDoc.known.Goals as goal

pub returns-then-is_known : goal.returns-then-is_known
returns-then-is_known c =
    subst (λ (p : Parts). true ≡ is_known (doc_rows p) c.args.slot c.args.v.now) c.self.view_is
    (seen_known c.self.inside.tokens c.self.invariant.0.tree c.self.inside.seen c.args.v.now
    (c.if-is_known.ensures refl) c.self.invariant.0.each_seen c.args.slot)
