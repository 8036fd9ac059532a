use Rattle.std.proofs.Common.{subst}
use Rattle.td_check.specs.ReplayParts.{IsReplayParts}
use Rattle.td_check.specs.Sites.{ReplayValue}
use Rattle.td_check.proofs.Placing.{site_of, size_of, outlines_of}
use Rattle.td_check.proofs.replay.Replay.is_placed.Goals as goal

pub returns : goal.returns
returns g c =
    let made = c.self.inside.made in
    let r : ReplayValue = c.args.self.now in
    let parts : IsReplayParts made r = subst (λ (q : ReplayValue). IsReplayParts made q) c.self.view_is
    c.self.invariant in
    let some = c.place.ensures.least in
    record {
      size = size_of made r parts c.args.site some c.requires.within c.requires.replaying;
      site = site_of made r parts c.args.site some c.requires.within c.requires.replaying;
      outlines = outlines_of made r parts c.args.site some c.requires.within c.requires.replaying;
    }
