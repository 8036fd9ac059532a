use Rattle.std.proofs.Common.{ap, ◌∙◌, length}
use Rattle.td_doc.specs.Document.{text_of}
use Rattle.td_replica.specs.Replica.{ReplicaValue}
use Rattle.td_live.proofs.Stepping.{looked}
use Rattle.td_live.proofs.finishing.look.Goals as goal

pub returns-clause-further : goal.returns-clause-further
returns-clause-further g c =
    looked c.args.world.now c.args.book.now c.put_look.new.self c.home-home.result c.entries-upto.result
    c.in_ok-text.text
    c.replica-replica.ensures.world c.home-home.ensures c.replica-replica.ensures.some c.requires.home c.requires.next
    (c.in_ok-text.ensures ∙ ap (λ (r : ReplicaValue). text_of r.machine.doc) c.replica-replica.ensures.replica)
    (c.entries-upto.ensures.entries ∙ ap (λ (r : ReplicaValue). length r.entries) c.replica-replica.ensures.replica)
    c.in_ok-put_look.ensures
