use Rattle.std.proofs.Common.{◌≡◌, List, ℕ, length, subst}
use Rattle.std.specs.Prelude.{IfSome}
use Rattle.td_op.specs.Op.{OpValue, IsOp}
use Rattle.td_machine.specs.Machine.{Machine}
use Rattle.td_law_replay.specs.Judging.{judge_offer, outline}
use Rattle.td_law_replay.specs.Replies.{is_new}
use Rattle.td_check.proofs.AtSeats.{if_ok_so, in_seats, there_is}
use Rattle.td_check.proofs.seats.offered_at.Goals as goal

pub returns-clause-judged : goal.returns-clause-judged
returns-clause-judged g c = λ d.
    if_ok_so _ _ c.judge_offered.result
    (λ judged it.
    in_seats d c.args.seats.now.items c.args.site c.place.result c.place.ensures.least c.requires.within
    c.place.ensures.place c.index_mut.result.now _ c.judge_offered.new.seat c.index_mut.ensures.value
    (λ (m : Machine). judge_offer c.args.deps c.args.op (is_new c.args.reply.now) c.args.dot m) c.args.reply.now
    judged it) c.judge_offered.ensures

pub judge_offered-requires-clause-told : goal.judge_offered-requires-clause-told
judge_offered-requires-clause-told g c =
    subst (λ (m : Machine). IfSome c.args.deps (λ (v : List ℕ). (length v ≡ m.size) × IsOp (outline c.args.dot v)))
    (there_is c.args.seats.now.items c.args.site c.place.result c.place.ensures.least c.requires.within
    c.place.ensures.place c.index_mut.result.now _ c.index_mut.ensures.value c.index_mut.result.now)
    (c.requires.told c.index_mut.result.now)

pub judge_offered-requires-clause-sized : goal.judge_offered-requires-clause-sized
judge_offered-requires-clause-sized g c =
    subst (λ (m : Machine). IfSome c.args.op (λ (x : OpValue). length x.deps ≡ m.size))
    (there_is c.args.seats.now.items c.args.site c.place.result c.place.ensures.least c.requires.within
    c.place.ensures.place c.index_mut.result.now _ c.index_mut.ensures.value c.index_mut.result.now)
    (c.requires.sized c.index_mut.result.now)
