use Rattle.std.proofs.Common.{sym, subst, arith}
use Rattle.td_tree.specs.Nodes.{AddsFewIn}
use Rattle.td_tree.specs.Parts.{Parts}
use Rattle.td_tree.proofs.LeafNodes.{few_more_in}
use Rattle.td_tree.proofs.tree.TreeDoc.insert.Goals as goal

pub returns-in_err-at-clause-nodes : goal.returns-in_err-at-clause-nodes
returns-in_err-at-clause-nodes c = few_more_in c.args.self.now c.place_typed.new.self c.place_typed.new.self c.args.slot 1
    c.place_typed.ensures.nodes (omega arith)

pub returns-in_err-put-clause-nodes : goal.returns-in_err-put-clause-nodes
returns-in_err-put-clause-nodes c =
    subst (λ (p : Parts). AddsFewIn c.args.self.now p c.args.slot 1) (sym c.in_err-put.ensures.err)
    (few_more_in c.args.self.now c.place_typed.new.self c.place_typed.new.self c.args.slot 1 c.place_typed.ensures.nodes
    (omega arith))

pub returns-clause-nodes : goal.returns-clause-nodes
returns-clause-nodes c =
    let now = c.in_ok-put.ensures.nodes in
    few_more_in c.args.self.now c.place_typed.new.self c.put.new.self c.args.slot 1 c.place_typed.ensures.nodes (omega arith)
