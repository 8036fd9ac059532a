use Rattle.std.proofs.Common.{◌∙◌}
use Rattle.td_doc.specs.Document.{live_id_at}
use Rattle.td_tree.specs.Parts.{Parts, doc_rows}
use Rattle.td_tree.proofs.LastRow.{last_is, last_at}
use Rattle.td_tree.proofs.tree.TreeDoc.live_at.Goals as goal

pub returns : goal.returns
returns c =
    let p : Parts = c.self.inside.tokens in
    last_at p c.self.invariant.0.tree c.self.inside.identities c.in-Some.last
    (last_is p c.self.inside.identities c.self.inside.last c.in-Some.last c.self.invariant.1 c.in-Some.is)
    c.in-Some-index.at c.in-Some-index.is
    ∙ (λ i. live_id_at (doc_rows (c.self.view_is i)) (c.if-at-index.true i))
