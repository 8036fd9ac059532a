-- The vote that a compact one stands for.
use Rattle.td_op.specs.declared.vote.Vote.{Vote}
use Rattle.td_history.specs.declared.vote.CompactVote.{CompactVote}

abbrev pub vote_of : CompactVote → Vote
vote_of v = record { proposal = v.proposal; voter = v.voter; yes = v.yes }
