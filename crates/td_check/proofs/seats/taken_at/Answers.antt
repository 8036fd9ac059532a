use Rattle.std.proofs.Common.{◌≡◌, ◌≢◌, length, subst}
use Rattle.std.specs.Prelude.{IfSome}
use Rattle.td_op.specs.Op.{OpValue}
use Rattle.td_check.specs.ReplayParts.{IsOutlineAt}
use Rattle.td_machine.specs.Machine.{Machine}
use Rattle.td_law_replay.specs.Judging.{judge_taken}
use Rattle.td_check.proofs.AtSeats.{if_ok_so, in_seats, there_is}
use Rattle.td_check.proofs.seats.taken_at.Goals as goal

pub returns-clause-judged : goal.returns-clause-judged
returns-clause-judged g c = λ d.
    if_ok_so _ _ c.judge_taken.result
    (λ judged it.
    in_seats d c.args.seats.now.items c.args.site c.place.result c.place.ensures.least c.requires.within
    c.place.ensures.place c.index_mut.result.now _ c.judge_taken.new.seat c.index_mut.ensures.value
    (λ (m : Machine). judge_taken c.args.deps c.args.op m) c.args.reply.now judged it) c.judge_taken.ensures

pub judge_taken-requires-clause-sized : goal.judge_taken-requires-clause-sized
judge_taken-requires-clause-sized g c =
    subst (λ (m : Machine). IfSome c.args.op (λ (x : OpValue). length x.deps ≡ m.size))
    (there_is c.args.seats.now.items c.args.site c.place.result c.place.ensures.least c.requires.within
    c.place.ensures.place c.index_mut.result.now _ c.index_mut.ensures.value c.index_mut.result.now)
    (c.requires.sized c.index_mut.result.now)

pub judge_taken-requires-clause-apart : goal.judge_taken-requires-clause-apart
judge_taken-requires-clause-apart g c =
    subst (λ (m : Machine). IfSome c.args.op (λ (x : OpValue). x.dot.site ≢ m.site))
    (there_is c.args.seats.now.items c.args.site c.place.result c.place.ensures.least c.requires.within
    c.place.ensures.place c.index_mut.result.now _ c.index_mut.ensures.value c.index_mut.result.now)
    (c.requires.apart c.index_mut.result.now)

pub judge_taken-requires-clause-outlined : goal.judge_taken-requires-clause-outlined
judge_taken-requires-clause-outlined g c =
    subst (λ (m : Machine). IfSome c.args.op (IsOutlineAt m))
    (there_is c.args.seats.now.items c.args.site c.place.result c.place.ensures.least c.requires.within
    c.place.ensures.place c.index_mut.result.now _ c.index_mut.ensures.value c.index_mut.result.now)
    (c.requires.outlined c.index_mut.result.now)
