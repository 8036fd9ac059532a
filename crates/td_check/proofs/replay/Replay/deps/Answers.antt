use Rattle.std.proofs.Common.{◌≡◌, ◌<◌, ap, subst, ◌∙◌}
use Rattle.td_base.specs.Value.{DotValue}
use Rattle.td_law_replay.specs.Counting.{made_deps}
use Rattle.td_check.specs.Sites.{ReplayValue, histories_of}
use Rattle.td_check.proofs.Told.{told_fit}
use Rattle.td_check.proofs.replay.Replay.deps.Goals as goal

pub returns-clause-fit : goal.returns-clause-fit
returns-clause-fit g c =
    let d : DotValue = c.args.dot in
    let found : c.deps.result ≡ made_deps (histories_of c.args.self.now) d =
    c.deps.ensures c.self.inside.trace.now.histories c.self.invariant.told
    ∙ ap (λ (q : ReplayValue). made_deps (histories_of q) d) c.self.view_is in
    told_fit (histories_of c.args.self.now) d
    (subst (λ (e : DotValue). 0 < e.site) c.dot.view_is c.place.ensures.least)
    (subst (λ (e : DotValue). 0 < e.seq) c.dot.view_is c.dot.invariant.0) c.deps.result found
