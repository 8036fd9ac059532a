use Rattle.std.proofs.Common.{◌≡◌, ℕ, List, Some, subst, length, drop, rules}
use Rattle.std.specs.List.{flat_map}
use Rattle.std.proofs.lemmas.Result.{on_ok_weaker}
use Rattle.td_base.specs.Lists.{kth}
use Rattle.td_report.specs.Given.{give_line}
use Rattle.td_report.specs.Replies.{event_line}
use Rattle.td_world.specs.World.{moved_all}
use Rattle.td_world.specs.Calls.{offered, offer_moves}
use Rattle.td_run.specs.Printing.{Printed, and_then, give_wanted, with_line, with_world}
use Rattle.td_run.proofs.Events.{line_then_events}
use Rattle.td_run.proofs.Offers.{printed_given, printed_nothing}
use Rattle.td_run.proofs.player.Player.offer.Goals as goal

pub returns-in_default : goal.returns-in_default
returns-in_default g c = λ m there.
    let held : Printed = record {
      world = c.self.inside.world;
      marks = c.self.inside.marks.items;
      text = c.self.inside.text;
    } in
    subst
    (λ (q : Printed). kth c.args.number q.world.sent ≡ Some m
    → with_world c.offer.new.self held ≡ and_then q (give_wanted c.args.site c.args.number m q.world))
    c.self.view_is
    (printed_nothing c.args.site c.args.number m c.in_ok-given.field-0 held c.offer.new.self
    c.in_ok-given.ensures.given c.in_default.is c.in_ok-given.ensures.ok)
    there

pub returns : goal.returns
returns g c = λ m there.
    let p : Printed = c.args.self.now in
    let offers : offered c.args.site c.args.number p.world ≡ Some c.in-Some.given = search rules in
    let is : c.offer.new.self ≡ moved_all (offer_moves c.args.site c.args.number p.world) p.world = search rules in
    let line : List ℕ = give_line c.args.site c.args.number c.in-Some.given in
    let printed : c.print.new.self ≡ with_line line (with_world c.offer.new.self p) =
    search rules in
    let moment : c.sent-before.result ≡ length p.world.sent = search rules in
    on_ok_weaker c.print_events.result
    (λ (e : c.print_events.new.self
    ≡ with_line (flat_map event_line (drop c.sent-before.result c.print.new.self.world.sent)) c.print.new.self).
    printed_given c.args.site c.args.number m c.in-Some.given p c.print_events.new.self c.offer.new.self there offers is
    (line_then_events p c.print.new.self c.print_events.new.self c.offer.new.self line c.sent-before.result moment
    printed e))
    c.print_events.ensures
