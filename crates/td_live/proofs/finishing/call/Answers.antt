use Rattle.std.proofs.Common.{ap, ◌∙◌, length}
use Rattle.td_replica.specs.Replica.{ReplicaValue}
use Rattle.td_live.proofs.Stepping.{called}
use Rattle.td_live.proofs.finishing.call.Goals as goal

pub returns-clause-further : goal.returns-clause-further
returns-clause-further g c =
    called c.args.world.now c.call.new.self c.args.book.now c.put_call.new.self c.home-home.result c.args.request
    c.in_ok-reply.reply c.entries-entry.result c.home-home.ensures c.replica.ensures.some c.requires.home
    c.requires.next
    c.in_ok-reply.ensures.ok c.in_ok-reply.ensures.reply
    (c.entries-entry.ensures.entries ∙ ap (λ (r : ReplicaValue). length r.entries) c.replica.ensures.replica)
    c.in_ok-put_call.ensures
