use Rattle.td_tree.specs.Parts.{doc_rows}
use Rattle.td_million.proofs.Dots.{fresh_site}
use Rattle.td_million.proofs.writer.Writer.next_site.Goals as goal

pub invariant_of-self : goal.invariant_of-self
invariant_of-self c = fresh_site c.self.inside.site c.in_ok-self-inside.field-0 c.self.inside.next
    (doc_rows c.self.inside.doc) c.in_ok-self-inside.ensures c.self.invariant
