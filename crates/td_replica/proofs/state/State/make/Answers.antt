use Rattle.td_replica.proofs.Kept.{made_keeps}
use Rattle.td_replica.proofs.Stepping.{next_made, fresh_made, named_made}
use Rattle.td_replica.proofs.state.State.make.Goals as goal

pub next_op-op-requires-clause-named : goal.next_op-op-requires-clause-named
next_op-op-requires-clause-named g c =
    rw c.in_ok-reserve.ensures.same.machine
    (named_made c.args.self.now.machine c.requires.built c.args.body.now c.requires.may)

pub change_document-requires-clause-fresh : goal.change_document-requires-clause-fresh
change_document-requires-clause-fresh g c =
    rw (c.next_op-op.ensures, c.in_ok-reserve.ensures.same.machine)
    (fresh_made c.args.self.now.machine c.requires.built c.args.body.now c.requires.may)

pub change_document-requires-clause-keeps : goal.change_document-requires-clause-keeps
change_document-requires-clause-keeps g c =
    rw (c.next_op-op.ensures, c.in_ok-reserve.ensures.same.machine)
    (made_keeps c.args.self.now.machine c.requires.built c.args.body.now c.requires.edit c.requires.may)

pub note-requires-clause-next : goal.note-requires-clause-next
note-requires-clause-next g c =
    rw (c.in_ok-change.ensures.ok, c.next_op-op.ensures, c.in_ok-reserve.ensures.same.machine)
    (next_made c.args.self.now.machine c.requires.built c.args.body.now c.requires.may)
