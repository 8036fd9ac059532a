use Rattle.td_tree.proofs.Orders.{follows}
use Rattle.td_tree.proofs.tokens.Tokens.row_after.Goals as goal

pub returns-clause-id : goal.returns-clause-id
returns-clause-id c = follows c.args.self.now c.requires.tree c.args.row c.place_of-place.result.name
    c.place_of-place.result.rest c.place_of-place.ensures.place c.row_from.result c.row_from.ensures.row
