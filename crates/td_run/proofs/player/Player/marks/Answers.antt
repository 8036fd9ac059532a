use Rattle.std.proofs.Common.{◌≡◌, ◌≤◌, length, sym, subst, rules}
use Rattle.td_doc.specs.Document.{IsDocument}
use Rattle.td_machine.proofs.Reached.{rules_of}
use Rattle.td_replica.proofs.Legal.{reached}
use Rattle.td_run.specs.Marking.{marks_of}
use Rattle.td_run.specs.Printing.{Printed}
use Rattle.td_run.proofs.Meeting.{marks_there}
use Rattle.td_run.proofs.player.Player.marks.Goals as goal

pub returns : goal.returns
returns g c =
    let rules_hold : IsDocument c.replica-replica.result.now.machine.doc =
    rules_of c.replica-replica.result.now.machine (reached c.replica-replica.result.now c.entries.ensures.replica) in
    let marks : c.index.result.now ≡ marks_of c.args.site c.args.self.now.marks =
    subst
    (λ (p : Printed). c.args.site ≤ length p.marks → c.index.result.now ≡ marks_of c.args.site p.marks)
    c.self.view_is
    (λ within. marks_there c.self.inside.marks.items c.args.site c.place.result c.index.result.now
    c.place.ensures.place c.place.ensures.least within c.index.ensures)
    c.requires.marks in
    let pieces = c.marked_text.ensures (subst IsDocument (sym c.doc.ensures) rules_hold) in
    search (rules, marks, pieces)
