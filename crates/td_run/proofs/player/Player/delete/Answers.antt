use Rattle.std.proofs.Common.{◌≡◌, ◌∙◌}
use Rattle.td_report.specs.Replies.{del_line}
use Rattle.td_report.specs.Asking.{deletes}
use Rattle.td_run.specs.Asking.{Asked, asked, ask_all}
use Rattle.td_run.specs.Printing.{Printed, with_line, with_world}
use Rattle.td_run.proofs.QuietEdits.{no_events_of_deletes, told_quietly}
use Rattle.td_run.proofs.player.Player.delete.Goals as goal

pub returns : goal.returns
returns g c =
    let p : Printed = c.args.self.now in
    let a : Asked = ask_all c.args.site (deletes c.args.index c.args.count) p.world in
    let view = c.self.view_is in
    let asked_is : asked c.delete_all.new.world c.in_ok-outcome.outcome ≡ a =
    c.in_ok-outcome.ensures ∙ (λ i. ask_all c.args.site (deletes c.args.index c.args.count) (view i).world) in
    let line : c.in_ok-line.line ≡ del_line c.args.site a.done (c.args.count) a.refused =
    c.in_ok-line.ensures ∙ (λ i. del_line c.args.site (asked_is i).done (c.args.count) (asked_is i).refused) in
    told_quietly p c.print.new.self a.world (del_line c.args.site a.done (c.args.count) a.refused)
    (no_events_of_deletes c.args.site c.args.index c.args.count p.world)
    (c.in_ok-print.ensures ∙ (λ i. with_line (line i) (with_world (asked_is i).world (view i))))
