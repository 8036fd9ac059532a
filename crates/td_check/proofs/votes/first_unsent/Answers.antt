use Rattle.td_check.proofs.Unsent.{first_told}
use Rattle.td_check.proofs.votes.first_unsent.Goals as goal

pub returns : goal.returns
returns g c =
    λ last seated.
    first_told c.args.trace.now last c.args.seats.now c.in_ok-sent.sent c.first_unknown.ensures.value seated
    c.in_ok-sent.ensures c.first_unknown.result c.first_unknown.ensures.line
