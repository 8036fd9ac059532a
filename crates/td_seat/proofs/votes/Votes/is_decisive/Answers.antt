use Rattle.std.proofs.Common.{ap, ◌∙◌, not}
use Rattle.td_seat.proofs.votes.Votes.is_decisive.Goals as goal

pub returns-else-vote : goal.returns-else-vote
returns-else-vote c =
    λ count h.
    rw (c.in-TookVote.is, c.if-vote.false)
    (ap not (c.contains.ensures ∙ h.each_no c.in-TookVote.vote.proposal))
