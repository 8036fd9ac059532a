use Rattle.std.proofs.Common.{◌≡◌, ◌-◌, ◌==◌, ◌&&◌, ◌||◌, take}
use Rattle.std.specs.BTreeSet.{contains}
use Rattle.std.specs.List.{list_any}
use Rattle.td_op.specs.declared.vote.Vote.{Vote}
use Rattle.td_check.specs.SentVotes.{is_vote, sent_cmp, sent_vote}
use Rattle.td_check.proofs.sent.add_votes.Given as goal

abbrev pub invariant-loop-k : goal.invariant-loop-k
invariant-loop-k g l =
    (v : Vote)
    → contains sent_cmp l.sent (sent_vote v)
    ≡ (contains sent_cmp l.initial.sent (sent_vote v)
    || (v.voter - 1 == l.place && list_any (is_vote v) (take l.k l.seat.sent)))
