use Rattle.std.proofs.Common.{◌≡◌}
use Rattle.std.specs.BTreeSet.{contains}
use Rattle.td_op.specs.declared.vote.Vote.{Vote}
use Rattle.td_check.specs.SentVotes.{sent_cmp, sent_vote}
use Rattle.td_check.proofs.SentVotes.{sent_before}
use Rattle.td_check.proofs.sent.votes_sent.Given as goal

abbrev pub invariant-loop-place : goal.invariant-loop-place
invariant-loop-place g l =
    (v : Vote) → contains sent_cmp l.sent (sent_vote v) ≡ sent_before l.seats l.place v
