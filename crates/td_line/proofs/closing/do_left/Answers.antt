use Rattle.td_site.proofs.Later.{later_self, later_then}
use Rattle.td_line.proofs.Calling.{only_none, only_then}
use Rattle.std.proofs.Common.{refl}
use Rattle.td_line.proofs.Ending.{done_none, done_next}
use Rattle.td_line.proofs.closing.do_left.Goals as goal

pub loop-ask-init : goal.loop-ask-init
loop-ask-init g c =
    let s = c.args.site.now in
    record {
      late = c.requires.late;
      later = later_self s;
      only = only_none s.replica.entries s.replica.entries refl;
      done = done_none s.replica.entries c.args.given.now.items c.args.left;
    }

pub loop-ask-preserved : goal.loop-ask-preserved
loop-ask-preserved g c =
    let s = c.args.site.now in
    let t = c.loop-ask.site in
    let u = c.do_and_show.new.site in
    let i = c.loop-ask.invariant in
    let e = c.do_and_show.ensures in
    record {
      late = c.in_ok-do_and_show.ensures.late;
      later = later_then s t u i.later e.later;
      only = only_then s.replica.entries t.replica.entries u.replica.entries i.only e.only;
      done = done_next s.replica.entries c.args.given.now.items c.args.left t.replica.entries c.loop-ask.given.items
          c.loop-ask.left c.in-Some.ask u.replica.entries c.do_and_show.new.given.items c.take_first.new.self i.done
          c.in-Some.ensures c.in_ok-do_and_show.ensures.done;
    }
