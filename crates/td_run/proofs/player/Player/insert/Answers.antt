use Rattle.std.proofs.Common.{◌≡◌, ◌∙◌, length}
use Rattle.td_report.specs.Replies.{ins_line}
use Rattle.td_report.specs.Asking.{inserts}
use Rattle.td_run.specs.Asking.{Asked, asked, ask_all}
use Rattle.td_run.specs.Printing.{Printed, with_line, with_world}
use Rattle.td_run.proofs.QuietEdits.{no_events_of_inserts, told_quietly}
use Rattle.td_run.proofs.player.Player.insert.Goals as goal

pub returns : goal.returns
returns g c =
    let p : Printed = c.args.self.now in
    let a : Asked = ask_all c.args.site (inserts c.args.index c.args.atoms.now) p.world in
    let view = c.self.view_is in
    let asked_is : asked c.insert_all.new.world c.in_ok-outcome.outcome ≡ a =
    c.in_ok-outcome.ensures ∙ (λ i. ask_all c.args.site (inserts c.args.index c.args.atoms.now) (view i).world) in
    let line : c.in_ok-line.line ≡ ins_line c.args.site a.done (length c.args.atoms.now) a.refused =
    c.in_ok-line.ensures ∙ (λ i. ins_line c.args.site (asked_is i).done (c.len-all.ensures i) (asked_is i).refused) in
    told_quietly p c.print.new.self a.world (ins_line c.args.site a.done (length c.args.atoms.now) a.refused)
    (no_events_of_inserts c.args.site c.args.index c.args.atoms.now p.world)
    (c.in_ok-print.ensures ∙ (λ i. with_line (line i) (with_world (asked_is i).world (view i))))
