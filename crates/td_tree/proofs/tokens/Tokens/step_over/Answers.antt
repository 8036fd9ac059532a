use Rattle.std.proofs.Common.{arith}
use Rattle.td_tree.proofs.RowPlaces.{known_name}
use Rattle.td_tree.proofs.tokens.Tokens.step_over.Goals as goal

pub overflow_add-result : goal.overflow_add-result
overflow_add-result c =
    let known = known_name c.args.self.now c.requires.tree c.args.name c.requires.there in
    let most = c.requires.tree.most in
    omega arith

pub state-requires : goal.state-requires
state-requires c = known_name c.args.self.now c.requires.tree c.args.name c.requires.there
