use Rattle.std.proofs.Common.{◌≡◌, ◌-◌, ◌==◌, ◌&&◌, ◌||◌, Bool, Some, slice_get, ap, sym, ◌∙◌, arith}
use Rattle.std.proofs.lemmas.Option.{slice_get-get_or}
use Rattle.std.specs.List.{list_any}
use Rattle.td_op.specs.declared.vote.Vote.{Vote}
use Rattle.td_machine.specs.Machine.{Machine}
use Rattle.td_check.specs.SentVotes.{is_vote}
use Rattle.td_check.proofs.SentVotes.{sent_next, sent_all}
use Rattle.td_check.proofs.sent.votes_sent.Goals as goal

pub loop-place-preserved : goal.loop-place-preserved
loop-place-preserved g c = λ (v : Vote).
    let m : Machine = c.index-seats-place.result in
    let here : slice_get c.args.seats.now c.loop-place.place ≡ Some m =
    slice_get-get_or c.args.seats.now c.loop-place.place m (omega (arith, c.loop-place-test.true))
    ∙ ap Some (sym c.index-seats-place.is) in
    c.in_ok-add_votes.ensures v
    ∙ ap (λ (b : Bool). b || (v.voter - 1 == c.loop-place.place && list_any (is_vote v) m.sent))
    (c.loop-place.invariant v)
    ∙ sent_next c.args.seats.now c.loop-place.place m here v

pub returns : goal.returns
returns g c = λ (v : Vote).
    c.loop-place.invariant v
    ∙ sent_all c.args.seats.now c.loop-place.place (omega (arith, c.loop-place-test.false)) v
