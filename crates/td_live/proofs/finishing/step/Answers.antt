use Rattle.std.proofs.Common.{◌<◌, ◌≤◌, arith}
use Rattle.td_live.specs.Finishing.{steps_left}
use Rattle.td_live.proofs.Stepping.{no_more_begun}
use Rattle.td_live.proofs.finishing.step.Goals as goal

pub returns-in_ok-call-in-Ask-clause-less : goal.returns-in_ok-call-in-Ask-clause-less
returns-in_ok-call-in-Ask-clause-less g c =
    let m : steps_left c.next.new.self.rest ≤ steps_left c.args.book.now.rest =
    no_more_begun c.args.book.now.rest c.next.new.self.rest c.next.ensures.leads c.next.ensures.calls in
    let l : steps_left c.call.new.book.rest < steps_left c.next.new.self.rest = c.in_ok-call-in-Ask.ensures.less in
    λ e. omega (arith, m, l)

pub returns-in_ok-look-in-Look-clause-less : goal.returns-in_ok-look-in-Look-clause-less
returns-in_ok-look-in-Look-clause-less g c =
    let m : steps_left c.next.new.self.rest ≤ steps_left c.args.book.now.rest =
    no_more_begun c.args.book.now.rest c.next.new.self.rest c.next.ensures.leads c.next.ensures.calls in
    let l : steps_left c.look.new.book.rest < steps_left c.next.new.self.rest = c.in_ok-look-in-Look.ensures.less in
    λ e. omega (arith, m, l)
