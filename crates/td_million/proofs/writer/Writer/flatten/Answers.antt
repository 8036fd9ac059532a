use Rattle.std.proofs.Common.{sym, subst}
use Rattle.td_path.specs.declared.slot.Slot.TheVariants.{Root}
use Rattle.td_tree.specs.Parts.{doc_rows}
use Rattle.td_tree.proofs.FreshRows.{fresh_flattened}
use Rattle.td_million.specs.Drafts.{AreFreshFrom}
use Rattle.td_million.proofs.writer.Writer.flatten.Goals as goal

pub invariant_of-self : goal.invariant_of-self
invariant_of-self c = subst (AreFreshFrom (record { site = c.self.inside.site; seq = c.self.inside.next }))
    (sym c.in_err-flatten.ensures.err) c.self.invariant

pub invariant_of-self-2 : goal.invariant_of-self-2
invariant_of-self-2 c =
    subst (AreFreshFrom (record { site = c.self.inside.site; seq = c.self.inside.next }))
    (sym c.in_ok-flatten.ensures.ok.1)
    (λ d coming. fresh_flattened Root d (doc_rows c.self.inside.doc) (c.self.invariant d coming))
