use Rattle.std.proofs.Common.{◌≡◌, List, ℕ, OnOk, subst, rules}
use Rattle.td_report.specs.Tree.{show_line}
use Rattle.td_world.specs.World.{IsWorld}
use Rattle.td_world.proofs.Promised.{shown}
use Rattle.td_run.specs.Printing.{Printed, own_text, taken_text, with_line}
use Rattle.td_run.proofs.kept.player.KeptPlayer.show.Goals as goal

pub returns-clause-taken : goal.returns-clause-taken
returns-clause-taken g c =
    let p : Printed = c.args.self.now in
    let world : IsWorld p.world = search rules in
    let text : own_text p.world c.args.site ≡ taken_text p.world c.args.site =
    shown p.world world c.args.site c.kept.ensures.some c.requires in
    let own : OnOk c.print.result (c.print.new.self
    ≡ with_line (show_line c.args.site (own_text p.world c.args.site)) p) =
    search rules in
    subst (λ (t : List ℕ). OnOk c.print.result (c.print.new.self ≡ with_line (show_line c.args.site t) p)) text own
