-- The votes that sites sent, as the machines of the sites tell.
use Rattle.std.specs.Prelude.{◌-◌, List, Bool, false, Option, None, Some, slice_get}
use Rattle.std.specs.List.{list_any}
use Rattle.std.specs.declared.cmp.Ordering.{Ordering}
use Rattle.std.specs.Ordering.{nat_cmp, bool_cmp, ordering_then, eq_by_cmp}
use Rattle.td_base.specs.Order.{dot_cmp}
use Rattle.td_op.specs.declared.message.Message.{Message}
use Rattle.td_op.specs.declared.message.Message.TheVariants.{Op, Vote as AVote}
use Rattle.td_op.specs.declared.vote.Vote.{Vote}
use Rattle.td_machine.specs.Machine.{Machine}
use Rattle.td_check.specs.declared.sent.SentVote.{SentVote}

-- by the voter, then by the proposal, then No before Yes
abbrev pub sent_cmp : SentVote → SentVote → Ordering
sent_cmp x y =
    ordering_then (nat_cmp x.voter y.voter) (ordering_then (dot_cmp x.proposal y.proposal) (bool_cmp x.yes y.yes))

abbrev pub sent_vote : Vote → SentVote
sent_vote v = record { voter = v.voter; proposal = v.proposal; yes = v.yes }

-- the message is this vote
abbrev pub is_vote : Vote → Message → Bool
is_vote v (Op x) = false
is_vote v (AVote w) = eq_by_cmp sent_cmp (sent_vote w) (sent_vote v)

abbrev pub sends : Vote → Option Machine → Bool
sends v None = false
sends v (Some m) = list_any (is_vote v) m.sent

-- its voter sent the vote, where the machine of site s stands at place s - 1
abbrev pub was_sent : List Machine → Vote → Bool
was_sent machines v = sends v (slice_get machines (v.voter - 1))
