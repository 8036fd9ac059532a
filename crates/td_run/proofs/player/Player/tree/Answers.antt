use Rattle.std.proofs.Common.{sym, subst, rules}
use Rattle.td_doc.specs.Document.{IsDocument}
use Rattle.td_machine.proofs.Reached.{rules_of}
use Rattle.td_replica.proofs.Legal.{reached}
use Rattle.td_run.proofs.player.Player.tree.Goals as goal

pub returns : goal.returns
returns g c =
    let rules_hold : IsDocument c.replica-replica.result.now.machine.doc =
    rules_of c.replica-replica.result.now.machine (reached c.replica-replica.result.now c.entries.ensures.replica) in
    let lines = c.tree_lines.ensures (subst IsDocument (sym c.doc.ensures) rules_hold) in
    search (rules, lines)
