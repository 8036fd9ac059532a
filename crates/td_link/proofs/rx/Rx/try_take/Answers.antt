use Rattle.std.proofs.Common.{Option, Some, None, MatchOption}
use Rattle.std.specs.Prelude.{IfNone}
use Rattle.td_link.specs.Moments.{was_empty}
use Rattle.td_link.proofs.Moves.{takes, next_held}
use Rattle.td_link.proofs.rx.Rx.try_take.Goals as goal

pub pop_as-requires-clause-rule : goal.pop_as-requires-clause-rule
pop_as-requires-clause-rule g c =
    let may = c.self.invariant.1.0 in
    (takes g.T.Item.fits _ _ may, next_held g.T.Item.fits _ _ may)

empty_case : {T : Type 0} (r : Option T) (A E W : Type 0) (B : T → Type 0) → (E → W) → MatchOption r (A × E) B
    → IfNone r W
empty_case None A E W B f h = f h.1
empty_case (Some x) A E W B f h = tt

pub returns-clause-empty : goal.returns-clause-empty
returns-clause-empty g c =
    rw (← c.self.view_is) (empty_case c.pop_as.result _ _ _ _ (was_empty _) c.pop_as.ensures.rule)
