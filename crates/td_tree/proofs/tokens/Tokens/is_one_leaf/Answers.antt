use Rattle.td_tree.proofs.RowPlaces.{known_name}
use Rattle.td_tree.proofs.tokens.Tokens.is_one_leaf.Goals as goal

pub state-requires : goal.state-requires
state-requires c = known_name c.args.self.now c.requires.tree c.args.first c.requires.first
