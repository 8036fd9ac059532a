use Rattle.std.proofs.Common.{rules, subst, sym}
use Rattle.td_doc.specs.Document.{IsDocument}
use Rattle.td_machine.proofs.Reached.{rules_of}
use Rattle.td_replica.proofs.Legal.{reached}
use Rattle.td_shell.proofs.showing.rows.Goals as goal

pub returns : goal.returns
returns g c =
    let rules_hold : IsDocument c.args.replica.now.machine.doc =
    rules_of c.args.replica.now.machine (reached c.args.replica.now c.entries.ensures.replica) in
    let lines = c.tree_lines.ensures (subst IsDocument (sym c.doc.ensures) rules_hold) in
    search (rules, lines)
