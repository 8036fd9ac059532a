use Rattle.std.proofs.Common.{◌∙◌}
use Rattle.td_tree.proofs.KnownWalks.{known_root, all_stretch}
use Rattle.td_tree.proofs.tokens.Tokens.are_all_known.Goals as goal

pub are_known-requires-clause-stretch : goal.are_known-requires-clause-stretch
are_known-requires-clause-stretch c = all_stretch c.args.self.now c.first.result c.first.ensures

pub returns : goal.returns
returns c = c.are_known.ensures (all_stretch c.args.self.now c.first.result c.first.ensures)
    ∙ known_root c.args.self.now c.requires c.args.v.now
