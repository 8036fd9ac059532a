use Rattle.std.proofs.Common.{length, ap, sym, ◌∙◌}
use Rattle.td_idle.proofs.Replicas.{have_sized, last_sized}
use Rattle.td_idle.proofs.stability.known_of.Goals as goal

pub returns-in-Some-clause-size : goal.returns-in-Some-clause-size
returns-in-Some-clause-size g c =
    ap length c.had_after.ensures ∙ last_sized c.args.replica.now c.entries.ensures.replica c.args.site c.in-Some.op
    (sym c.in-Some.ensures)

pub returns-then-eq-clause-size : goal.returns-then-eq-clause-size
returns-then-eq-clause-size g c = ap length c.have.ensures ∙ have_sized c.args.replica.now c.entries.ensures.replica
