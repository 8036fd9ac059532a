use Rattle.std.proofs.Common.{arith}
use Rattle.std.proofs.lemmas.Grind.{common_steps}
use Rattle.std.proofs.lemmas.Result.{err_from_is_err_and}
use Rattle.td_io.proofs.Moves.{consumes_next}
use Rattle.td_io.proofs.read_whole.read_all.Goals as goal

pub returns-in_err-push-clause-lost : goal.returns-in_err-push-clause-lost
returns-in_err-push-clause-lost g c =
    let p = err_from_is_err_and c.from_residual-in_err-push.result c.from_residual-in_err-push.ensures.1 in
    rw p.1 (consumes_next _ _ _ _ _ _ _ c.loop-buf.invariant.taken c.in_ok-count.ensures.gives
    (grind (arith, common_steps, c.in_ok-count.ensures.within)))
