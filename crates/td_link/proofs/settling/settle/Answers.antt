use Rattle.std.proofs.Common.{ap, sym, ◌∙◌, ◌++◌}
use Rattle.crossbeam_queue.specs.Passes.{view}
use Rattle.td_link.proofs.Moves.{meets, drains, all_held, left_is}
use Rattle.td_link.proofs.settling.settle.Goals as goal

pub absorb-requires-clause-rule : goal.absorb-requires-clause-rule
absorb-requires-clause-rule g c = meets g.T.Item.fits _ _ _ _ c.tx.invariant.1.0 c.rx.invariant.1.0

pub pop_as-requires-clause-rule : goal.pop_as-requires-clause-rule
pop_as-requires-clause-rule g c =
    let i = c.loop.invariant in
    (drains g.T.Item.fits _ _ i.2, all_held g.T.Item.fits _ _ i.1 i.2)

pub returns-in-None-pop_as : goal.returns-in-None-pop_as
returns-in-None-pop_as g c =
    let i = c.loop.invariant in
    let held = c.in-None-pop_as.ensures.rule.1 in
    let popped = i.4 ∙ ap (λ l. c.args.rx.taken ++ l) (sym (c.of.ensures ∙ c.reserve.ensures.items)) in
    left_is c.args.tx.sent c.args.rx.taken c.of.result (view c.loop.pass).taken held.0 held.1 (sym i.3 ∙ held.2) popped
