use Rattle.std.proofs.Common.{arith}
use Rattle.td_tree.proofs.LeafNodes.{few_same_in}
use Rattle.td_tree.proofs.tree.Tree.place_typed.Goals as goal

pub returns-in-Some-clause-place : goal.returns-in-Some-clause-place
returns-in-Some-clause-place c = c.in-Some.ensures.place c.args.id c.requires

pub returns-in-Some-clause-rooted : goal.returns-in-Some-clause-rooted
returns-in-Some-clause-rooted c = c.in-Some.ensures.rooted

pub returns-in-Some-clause-nodes : goal.returns-in-Some-clause-nodes
returns-in-Some-clause-nodes c = few_same_in c.args.self.now c.args.self.now c.args.slot 0 (omega arith)
