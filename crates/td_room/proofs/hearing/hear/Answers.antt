use Rattle.td_room.specs.Later.{Heard}
use Rattle.td_room.proofs.Heards.{heard_then, heard_packet}
use Rattle.td_room.proofs.Turning.{always, hear_took, took_at_most_one}
use Rattle.td_room.proofs.hearing.hear.Goals as goal

pub returns-clause-heard : goal.returns-clause-heard
returns-clause-heard g c =
    let s = c.args.site.now in
    let p = c.args.peer.now in
    let u = c.give.new.site in
    let q = c.give.new.peer in
    let r = c.take_packet.new.self in
    let two : Heard s p u r =
    heard_then s u u p q r c.give.ensures.heard (heard_packet u q r c.take_packet.ensures.later
    c.take_packet.ensures.same c.take_packet.ensures.hears) in
    heard_then s u c.give-2.new.site p r c.give-2.new.peer two c.give-2.ensures.heard

pub returns-clause-took : goal.returns-clause-took
returns-clause-took g c =
    always c.give-2.result
    (hear_took c.give.new.site.replica.machine c.args.peer.now c.give.new.peer c.take_packet.new.self c.give-2.new.peer
    c.give.ensures.inbox c.take_packet.ensures.next c.take_packet.ensures.waits c.in_ok-give.ensures.kept
    c.give-2.ensures.stays c.give-2.ensures.inbox)

pub returns-clause-one : goal.returns-clause-one
returns-clause-one g c =
    took_at_most_one c.args.peer.now c.give.new.peer c.take_packet.new.self c.give-2.new.peer c.give.ensures.inbox
    c.take_packet.ensures.next c.take_packet.ensures.waits c.give-2.ensures.inbox
