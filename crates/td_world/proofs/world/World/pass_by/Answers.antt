use Rattle.std.proofs.Common.{sym}
use Rattle.std.proofs.lemmas.Option.{slice_get_within}
use Rattle.td_world.proofs.Passed.{unwanted_passed}
use Rattle.td_world.proofs.world.World.pass_by.Goals as goal

pub pass_over-requires-clause-sent : goal.pass_over-requires-clause-sent
pass_over-requires-clause-sent g c = slice_get_within c.args.self.now.sent c.args.k c.args.message.now c.requires.sent

pub pass_over-requires-clause-passed : goal.pass_over-requires-clause-passed
pass_over-requires-clause-passed g c =
    unwanted_passed c.args.to c.args.k c.args.message.now c.args.self.now c.requires.sent (sym c.if-known.ensures)
