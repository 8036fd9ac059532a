use Rattle.std.proofs.Common.{◌+◌, sym, subst}
use Rattle.td_base.specs.Value.{DotValue}
use Rattle.td_path.specs.declared.slot.Slot.{Slot}
use Rattle.td_doc.specs.Allocation.{alloc, anchor}
use Rattle.td_doc.specs.Insertion.{insert_run}
use Rattle.td_tree.specs.Parts.{doc_rows}
use Rattle.td_tree.specs.Nodes.{AddsFewIn}
use Rattle.td_million.specs.Drafts.{Draft, draft_rows, AreFreshFrom}
use Rattle.td_million.proofs.Dots.{fresh_next, fresh_put}
use Rattle.td_million.proofs.writer.Writer.put.Goals as goal

pub insert_run-requires : goal.insert_run-requires
insert_run-requires c = fresh_next (record { site = c.self.inside.site; seq = c.self.inside.next }) c.in_ok-dot.dot
    (doc_rows c.self.inside.doc) c.in_ok-dot.ensures c.self.invariant

pub invariant_of-self : goal.invariant_of-self
invariant_of-self c = subst (AreFreshFrom (record { site = c.self.inside.site; seq = c.self.inside.next }))
    (sym c.in_err-insert_run.ensures.err) c.self.invariant

pub invariant_of-self-2 : goal.invariant_of-self-2
invariant_of-self-2 c =
    subst (AreFreshFrom (record { site = c.self.inside.site; seq = c.self.inside.next + 1 }))
    (sym c.in_ok-insert_run.ensures.ok.1)
    (subst (λ (dot : DotValue). AreFreshFrom (record { site = c.self.inside.site; seq = c.self.inside.next + 1 })
    (insert_run c.in_ok-slot.slot dot c.args.run (doc_rows c.self.inside.doc))) (sym c.in_ok-dot.ensures)
    (fresh_put c.in_ok-slot.slot (record { site = c.self.inside.site; seq = c.self.inside.next }) c.args.run
    (doc_rows c.self.inside.doc) c.self.invariant))

pub returns-clause-nodes : goal.returns-clause-nodes
returns-clause-nodes c =
    subst (λ (w : Draft). AddsFewIn w.parts c.insert_run.new.self
    (alloc (draft_rows w) (anchor (draft_rows w) c.args.index)) 1) c.self.view_is
    (subst (λ (slot : Slot). AddsFewIn c.self.inside.doc c.insert_run.new.self slot 1) c.in_ok-slot.ensures
    c.insert_run.ensures.nodes)
