use Rattle.std.proofs.Common.{◌≡◌, ◌-◌, ◌==◌, ◌&&◌, ◌||◌, Bool, Some, slice_get, take, sym, ap, ◌∙◌, arith}
use Rattle.std.specs.BTreeSet.{BTreeSet, contains}
use Rattle.std.specs.List.{list_any}
use Rattle.td_op.specs.declared.vote.Vote.{Vote}
use Rattle.td_check.specs.declared.sent.SentVote.{SentVote}
use Rattle.td_check.specs.SentVotes.{is_vote, sent_cmp, sent_vote}
use Rattle.td_check.proofs.SitePlaces.{any_next, next_of, no_next}
use Rattle.td_check.proofs.SentVotes.{message_added}
use Rattle.td_check.proofs.sent.add_votes.Goals.{in-Some+in_ok-add_message, in_default}
use Rattle.td_check.proofs.sent.add_votes.Goals as goal

pub loop-k-preserved : goal.loop-k-preserved
loop-k-preserved g c =
    elim c.match-sent_at.branch [
      | in-Some+in_ok-add_message w ↦
          λ (v : Vote).
          let next : slice_get c.args.seat.now.sent c.loop-k.k ≡ Some w.in-Some.message =
          next_of c.args.seat.now.sent c.loop-k.k w.in-Some.message c.sent_at.ensures w.in-Some.is in
          let placed : Bool = v.voter - 1 == c.args.place in
          ap (λ (s : BTreeSet SentVote). contains sent_cmp s (sent_vote v)) w.sent-is
          ∙ w.in_ok-add_message.ensures v
          ∙ ap (λ (b : Bool). b || (placed && is_vote v w.in-Some.message)) (c.loop-k.invariant v)
          ∙ sym (message_added (contains sent_cmp c.args.sent.now (sent_vote v)) placed
          (list_any (is_vote v) (take c.loop-k.k c.args.seat.now.sent)) (is_vote v w.in-Some.message))
          ∙ ap (λ (b : Bool). contains sent_cmp c.args.sent.now (sent_vote v) || (placed && b))
          (sym (any_next (is_vote v) c.args.seat.now.sent c.loop-k.k w.in-Some.message next))
      | in_default w ↦
          absurd (no_next c.args.seat.now.sent c.loop-k.k
          (omega (arith, c.loop-k-test.true, c.sent-k-end.ensures)) c.sent_at.ensures w.in_default.is)
    ]
