use Rattle.std.proofs.Common.{◌+◌, sym, subst}
use Rattle.td_tree.specs.Parts.{doc_rows}
use Rattle.td_million.specs.Drafts.{AreFreshFrom}
use Rattle.td_million.proofs.Dots.{fresh_delete}
use Rattle.td_million.proofs.writer.Writer.delete.Goals as goal

pub invariant_of-self : goal.invariant_of-self
invariant_of-self c = subst (AreFreshFrom (record { site = c.self.inside.site; seq = c.self.inside.next }))
    (sym c.in_err-delete.ensures.err) c.self.invariant

pub invariant_of-self-2 : goal.invariant_of-self-2
invariant_of-self-2 c =
    subst (AreFreshFrom (record { site = c.self.inside.site; seq = c.self.inside.next + 1 }))
    (sym c.in_ok-delete.ensures.ok.1)
    (fresh_delete c.in_ok-id.id (record { site = c.self.inside.site; seq = c.self.inside.next }) c.in_ok-dot.dot
    (doc_rows c.self.inside.doc) c.self.invariant)
