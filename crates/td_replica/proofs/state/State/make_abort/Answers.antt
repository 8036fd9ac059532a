use Rattle.td_op.specs.declared.body.Body.TheVariants.{Abort}
use Rattle.td_replica.proofs.Stepping.{next_made, named_made}
use Rattle.td_replica.proofs.Deciding.{open_room, open_undecided}
use Rattle.td_replica.proofs.state.State.make_abort.Goals as goal

pub next_op-op-requires-clause-room : goal.next_op-op-requires-clause-room
next_op-op-requires-clause-room g c =
    rw c.in_ok-reserve.ensures.same.machine
    (open_room c.args.self.now.machine c.requires.built c.args.proposal c.requires.may)

pub next_op-op-requires-clause-named : goal.next_op-op-requires-clause-named
next_op-op-requires-clause-named g c =
    rw c.in_ok-reserve.ensures.same.machine
    (named_made c.args.self.now.machine c.requires.built (Abort c.args.proposal) c.requires.may)

pub note-requires-clause-next : goal.note-requires-clause-next
note-requires-clause-next g c =
    rw (c.close.ensures, c.next_op-op.ensures, c.in_ok-reserve.ensures.same.machine)
    (next_made c.args.self.now.machine c.requires.built (Abort c.args.proposal) c.requires.may)

pub note-requires-clause-decides : goal.note-requires-clause-decides
note-requires-clause-decides g c =
    rw (c.close.ensures, c.next_op-op.ensures, c.in_ok-reserve.ensures.same.machine)
    (open_undecided c.args.self.now.machine c.requires.built c.args.proposal c.requires.may)
