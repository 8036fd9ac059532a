use Rattle.std.proofs.Common.{ap, ◌≤◌, arith}
use Rattle.td_history.proofs.Logs.{at_last}
use Rattle.td_history.proofs.log.Log.last.Goals as goal

pub returns : goal.returns
returns c =
    let within : c.args.site ≤ c.self.inside.size = omega (arith, ap (λ v. v.size) c.self.view_is) in
    rw (← c.self.view_is, c.last.ensures.logged)
    (at_last _ _ _ _ _ _ c.self.invariant.log c.last.ensures.site within)
