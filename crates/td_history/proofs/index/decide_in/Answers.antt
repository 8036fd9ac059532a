use Rattle.std.proofs.Common.{◌≤◌, ◌<◌, length, arith, sym, refl}
use Rattle.td_history.proofs.Places.{decided_at, decided_past, not_within}
use Rattle.td_history.proofs.index.decide_in.Goals as goal

pub returns-in-Some-clause-items : goal.returns-in-Some-clause-items
returns-in-Some-clause-items c =
    let got = c.in-Some.ensures in
    let within : c.args.i < length c.args.list.now.items = omega (arith, got.variant.0 refl, c.args.list.now.ok.0) in
    decided_at _ _ c.in-Some.logged.now _ within got.value

pub returns-in_default-clause-items : goal.returns-in_default-clause-items
returns-in_default-clause-items c =
    let past : length c.args.list.now.items ≤ c.args.i =
    omega (arith, not_within _ _ c.in_default.ensures.variant.1, c.args.list.now.ok.0) in
    sym (decided_past _ _ _ past)
