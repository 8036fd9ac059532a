use Rattle.test_replica.proofs.Placed.{less_placed}
use Rattle.test_replica.proofs.vote.release.Goals as goal

pub returns : goal.returns
returns c =
    less_placed c.args.doc.now c.args.proposal c.args.holds.now c.release.new.self c.requires c.release.ensures.holds
    c.release.ensures.by_place
