use Rattle.std.proofs.Common.{sym, subst}
use Rattle.td_view.specs.Publishes.{AreLegal}
use Rattle.td_view.specs.Deeds.{published}
use Rattle.td_view.proofs.Standing.{may_follow}
use Rattle.td_view.proofs.writer.begin.Goals as goal

pub enter-requires-clause-legal : goal.enter-requires-clause-legal
enter-requires-clause-legal c =
    let r = c.requires in
    let p = r.parts in
    may_follow c.args.press.now.desk.shown.value c.args.past.now _ p.shown p.rested p.stands r.rises

pub returns-in-Some-clause-owes : goal.returns-in-Some-clause-owes
returns-in-Some-clause-owes c = c.requires.owed c.in-Some.next c.in-Some.is

pub returns-in-Some-clause-legal : goal.returns-in-Some-clause-legal
returns-in-Some-clause-legal c =
    let r = c.requires in
    let p = r.parts in
    let x = c.args.press.now.desk.shown.value in
    let owes = r.owed c.in-Some.next c.in-Some.is in
    subst AreLegal (sym owes.0)
    (may_follow x c.args.past.now (published c.args.publishing.now x.atoms) p.shown p.rested p.stands r.rises)

pub returns-in_ok-next-in-None-clause-legal : goal.returns-in_ok-next-in-None-clause-legal
returns-in_ok-next-in-None-clause-legal c =
    let r = c.requires in
    let p = r.parts in
    subst AreLegal (sym c.in_ok-next-in-None.ensures.log)
    (may_follow c.args.press.now.desk.shown.value c.args.past.now
    (published c.args.publishing.now c.published.result.now.atoms) p.shown p.rested p.stands r.rises)
