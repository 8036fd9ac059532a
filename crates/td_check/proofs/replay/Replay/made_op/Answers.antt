use Rattle.std.proofs.Common.{subst}
use Rattle.td_check.specs.ReplayParts.{IsReplayParts}
use Rattle.td_check.specs.Sites.{ReplayValue}
use Rattle.td_check.proofs.Placing.{made_fits}
use Rattle.td_check.proofs.replay.Replay.made_op.Goals as goal

pub returns-clause-fit : goal.returns-clause-fit
returns-clause-fit g c =
    let made = c.self.inside.made in
    let r : ReplayValue = c.args.self.now in
    let parts : IsReplayParts made r = subst (λ (q : ReplayValue). IsReplayParts made q) c.self.view_is
    c.self.invariant in
    made_fits made r parts c.requires c.args.dot c.found_op.result c.found_op.ensures.some c.found_op.ensures.op
