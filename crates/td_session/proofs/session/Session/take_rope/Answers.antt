use Rattle.std.proofs.Common.{subst, sym}
use Rattle.td_doc.specs.Document.{IsDocument}
use Rattle.td_machine.proofs.Reached.{rules_of}
use Rattle.td_replica.proofs.Legal.{reached}
use Rattle.td_session.proofs.session.Session.take_rope.Goals as goal

pub rope_of-requires : goal.rope_of-requires
rope_of-requires c =
    subst IsDocument (sym c.doc.ensures) (rules_of c.self.inside.replica.machine (reached c.self.inside.replica
    c.entries-entries.ensures.replica))
