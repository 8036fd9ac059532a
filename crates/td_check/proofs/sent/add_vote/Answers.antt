use Rattle.std.proofs.Common.{cond, true, ap, ◌∙◌, arith}
use Rattle.std.specs.BTreeSet.{contains}
use Rattle.std.specs.Ordering.{eq_by_cmp}
use Rattle.td_check.specs.declared.sent.SentVote.{SentVote}
use Rattle.td_check.specs.SentVotes.{sent_cmp}
use Rattle.td_check.proofs.SentVotes.{vote_added}
use Rattle.td_check.proofs.sent.add_vote.Goals as goal

pub returns-in_ok-insert : goal.returns-in_ok-insert
returns-in_ok-insert c =
    λ v.
    vote_added c.args.sent.now c.insert.new.self c.args.vote c.args.place
    (omega (arith, c.if-place.true, c.place.ensures.place))
    (λ (q : SentVote).
    c.in_ok-insert.ensures.updates.0 q
    ∙ ap (λ (k : SentVote). cond (eq_by_cmp sent_cmp k q) true (contains sent_cmp c.args.sent.now q)) c.of.ensures) v
