use Rattle.td_room.proofs.Heards.{heard_then, heard_went}
use Rattle.td_room.proofs.Locals.{nexts_went, nexts_locals}
use Rattle.td_room.proofs.hearing.give.Goals as goal

pub returns-in_err-catch_up-clause-heard : goal.returns-in_err-catch_up-clause-heard
returns-in_err-catch_up-clause-heard g c =
    let t = c.take.new.site in
    let u = c.catch_up.new.self in
    let q = c.take.new.peer in
    heard_then c.args.site.now t u c.args.peer.now q q c.take.ensures.heard
    (heard_went t u q (nexts_went t u c.catch_up.ensures.later c.catch_up.ensures.nexts)
    (nexts_locals t u c.catch_up.ensures.nexts))

pub returns-in_ok-catch_up-clause-heard : goal.returns-in_ok-catch_up-clause-heard
returns-in_ok-catch_up-clause-heard g c =
    let t = c.take.new.site in
    let u = c.catch_up.new.self in
    let q = c.take.new.peer in
    heard_then c.args.site.now t u c.args.peer.now q q c.take.ensures.heard
    (heard_went t u q (nexts_went t u c.catch_up.ensures.later c.catch_up.ensures.nexts)
    (nexts_locals t u c.catch_up.ensures.nexts))
