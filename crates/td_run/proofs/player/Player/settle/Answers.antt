use Rattle.std.proofs.Common.{◌≡◌, ◌++◌, ℕ, List, ap, refl, subst, ◌∙◌, rules}
use Rattle.std.proofs.lemmas.List.{append_assoc}
use Rattle.std.proofs.lemmas.Result.{on_ok_weaker}
use Rattle.td_report.specs.Given.{settle_line}
use Rattle.td_world.specs.World.{WorldValue}
use Rattle.td_world.specs.Calls.{IsSettled}
use Rattle.td_run.specs.Printing.{Printed, events, with_line, with_world}
use Rattle.td_run.proofs.player.Player.settle.Goals as goal

pub returns : goal.returns
returns g c =
    let old : WorldValue = c.args.self.now.world in
    let new : WorldValue = c.settle.new.self in
    let start : List ℕ = c.args.self.now.text in
    let line : List ℕ = settle_line c.in_ok-given.given in
    let printed : c.print_events.new.self ≡ with_line (events old new) (with_world new c.args.self.now) =
    search rules in
    let line_is : c.in_ok-line.line ≡ line = search rules in
    on_ok_weaker c.print.result
    (λ (e : c.print.new.self ≡ with_line c.in_ok-line.line c.print_events.new.self). (
      record { world = new; text = events old new ++ line },
      (
        c.in_ok-given.given,
        subst (λ (p : Printed). IsSettled p.world new c.in_ok-given.given) c.self.view_is c.in_ok-given.ensures.given,
        refl,
      ),
      e ∙ (λ i. with_line (line_is i) (printed i))
          ∙ ap (λ (text : List ℕ). record { world = new; marks = c.args.self.now.marks; text = text })
          (append_assoc start (events old new) line),
    ))
    c.print.ensures
