use Rattle.std.proofs.Common.{subst}
use mathlib.Core.List.{IsPrefix}
use Rattle.td_site.proofs.Lists.{prefix_then}
use Rattle.td_line.specs.Lines.{LineValue}
use Rattle.td_line.specs.Editors.{EditorValue, polled}
use Rattle.td_line.proofs.Calling.{only_then}
use Rattle.td_line.proofs.Ending.{polled_begins}
use Rattle.td_line.proofs.line.Line.end.Goals as goal

pub returns-in_err-do_left-clause-only : goal.returns-in_err-do_left-clause-only
returns-in_err-do_left-clause-only g c =
    only_then c.args.site.now.replica.entries c.finish.new.site.replica.entries c.do_left.new.site.replica.entries
    c.finish.ensures.served.only c.do_left.ensures.only

pub returns-in_err-_unpolled-clause-only : goal.returns-in_err-_unpolled-clause-only
returns-in_err-_unpolled-clause-only g c =
    only_then c.args.site.now.replica.entries c.finish.new.site.replica.entries c.do_left.new.site.replica.entries
    c.finish.ensures.served.only c.do_left.ensures.only

pub returns-clause-only : goal.returns-clause-only
returns-clause-only g c =
    only_then c.args.site.now.replica.entries c.finish.new.site.replica.entries c.do_left.new.site.replica.entries
    c.finish.ensures.served.only c.do_left.ensures.only

pub returns-clause-polled : goal.returns-clause-polled
returns-clause-polled g c =
    let l = c.line.inside in
    subst (λ (e : EditorValue). IsPrefix (polled e) c.do_left.new.given.items) c.editor.view_is
    (polled_begins l.answers.sent c.editor.inside.answers.taken c.in_ok-_unpolled._unpolled l.owed l.given.items
    c.do_left.new.given.items c.in_ok-_unpolled.ensures c.line.invariant.sends c.in_ok-do_left.ensures.given)

pub returns-clause-given : goal.returns-clause-given
returns-clause-given g c =
    let m = c.finish.new.self in
    let more : IsPrefix m.given c.do_left.new.given.items =
    subst (λ (l : LineValue). IsPrefix l.given c.do_left.new.given.items) c.line.view_is
    c.in_ok-do_left.ensures.given in
    prefix_then c.args.self.given m.given c.do_left.new.given.items c.finish.ensures.served.line.given more
