use Rattle.std.proofs.Common.{◌∙◌, ◌++◌, ℕ, List, ap, subst, sym}
use Rattle.td_doc.specs.Document.{DocRow, IsDocument, live_atoms}
use Rattle.td_machine.specs.Machine.{Machine}
use Rattle.td_machine.proofs.Reached.{rules_of}
use Rattle.td_replica.proofs.Legal.{reached}
use Rattle.td_report.specs.Numbers.{head_line, site_line, summary_head}
use Rattle.td_report.proofs.LiveRows.{five_behind}
use Rattle.td_report.proofs.summary.summary_lines.Goals as goal

pub push_head-requires : goal.push_head-requires
push_head-requires g c =
    subst IsDocument (sym c.doc.ensures) (rules_of c.args.one.now.machine
    (reached c.args.one.now c.entries.ensures.replica))

pub returns : goal.returns
returns g c =
    let size : ℕ = c.args.size in
    let one : Machine = c.args.one.now.machine in
    let last : List ℕ = c.push_site-3.new.lines in
    five_behind (summary_head size c.args.number c.args.commands) (site_line one) (site_line c.args.two.now.machine)
    (site_line c.args.three.now.machine) (head_line (live_atoms one.doc)) c.new-lines.result
    c.push_summary_head.new.lines c.push_site.new.lines c.push_site-2.new.lines last c.push_head.new.lines
    c.new-lines.ensures c.in_ok-push_summary_head.ensures c.in_ok-push_site.ensures c.in_ok-push_site-2.ensures
    c.in_ok-push_site-3.ensures
    (c.in_ok-push_head.ensures ∙ ap (λ (rows : List DocRow). last ++ head_line (live_atoms rows)) c.doc.ensures)
