use Rattle.std.proofs.Common.{◌∙◌, ap, Option, ℕ}
use Rattle.td_identities.specs.Numbers.{with_run}
use Rattle.td_identities.proofs.Strays.{more_strays}
use Rattle.td_identities.proofs.identities.number_or.Goals as goal

pub loop-stray-preserved : goal.loop-stray-preserved
loop-stray-preserved c =
    let s = c.stray-item.result in
    c.number_or-number.ensures ∙ ap (λ (o : Option ℕ). with_run s.id s.numbers c.args.id o) c.loop-stray.invariant
    ∙ more_strays c.args.strays.now c.loop-stray.stray-index s c.loop-stray-test.true c.stray-item.is c.args.id
    c.args.other
