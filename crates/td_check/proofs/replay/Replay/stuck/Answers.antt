use Rattle.std.proofs.Common.{◌∙◌, sym, subst, arith}
use Rattle.td_check.specs.ReplayParts.{IsReplayParts}
use Rattle.td_check.specs.Sites.{ReplayValue}
use Rattle.td_check.proofs.Going.{stuck_here}
use Rattle.td_check.proofs.replay.Replay.stuck.Goals as goal

pub returns-then-has_left : goal.returns-then-has_left
returns-then-has_left g c =
    let sites = c.sites-place-end.ensures in
    let less = c.loop-place-test.true in
    let number = c.at-site.ensures in
    let r : ReplayValue = c.args.self.now in
    let parts : IsReplayParts c.self.inside.made r =
    subst (λ (q : ReplayValue). IsReplayParts c.self.inside.made q) c.self.view_is c.self.invariant in
    record {
      stuck = stuck_here r c.loop-place.place c.at-site.result c.next_line.result sites.value number
          (omega (arith, less, number, sites.sites)) (sym c.has_left.ensures.left ∙ c.if-has_left.true)
          c.loop-place.invariant c.next_line.ensures;
      within = parts.within;
    }
