use Rattle.std.proofs.Common.{◌/◌, sym, subst, arith}
use Rattle.std.specs.Prelude.{IsNone}
use Rattle.td_base.specs.Value.{AtomIdValue}
use Rattle.td_base.proofs.RunIds.{offset_fits}
use Rattle.td_doc.specs.Document.{find_row}
use Rattle.td_tree.specs.Nodes.{AddsFewIn}
use Rattle.td_tree.specs.Parts.{Parts, doc_rows}
use Rattle.td_tree.proofs.PutRun.{fresh_unfound}
use Rattle.td_tree.proofs.LeafNodes.{few_more_in}
use Rattle.td_tree.proofs.tree.TreeDoc.insert_run.Goals as goal

pub insert-requires : goal.insert-requires
insert-requires c =
    subst (λ (x : AtomIdValue). IsNone (find_row x (doc_rows c.args.self.now))) (sym c.of.ensures)
    (fresh_unfound (doc_rows c.args.self.now) c.args.dot 0 c.requires)

pub invariant_of-top : goal.invariant_of-top
invariant_of-top c =
    let some = c.len.ensures.run.some in
    let long = c.len.ensures.len in
    offset_fits c.args.run (c.len.result / 2) c.len.ensures.run (omega arith)

pub place_in-requires : goal.place_in-requires
place_in-requires c = fresh_unfound (doc_rows c.args.self.now) c.args.dot (c.len.result / 2) c.requires

pub returns-in_err-at-clause-nodes : goal.returns-in_err-at-clause-nodes
returns-in_err-at-clause-nodes c = few_more_in c.args.self.now c.place_in.new.self c.place_in.new.self c.args.slot 1
    c.place_in.ensures.nodes (omega arith)

pub returns-in_err-put_run-clause-nodes : goal.returns-in_err-put_run-clause-nodes
returns-in_err-put_run-clause-nodes c =
    subst (λ (p : Parts). AddsFewIn c.args.self.now p c.args.slot 1) (sym c.in_err-put_run.ensures.err)
    (few_more_in c.args.self.now c.place_in.new.self c.place_in.new.self c.args.slot 1 c.place_in.ensures.nodes
    (omega arith))

pub returns-clause-nodes : goal.returns-clause-nodes
returns-clause-nodes c =
    let now = c.in_ok-put_run.ensures.nodes in
    few_more_in c.args.self.now c.place_in.new.self c.put_run.new.self c.args.slot 1 c.place_in.ensures.nodes
    (omega arith)
