use Rattle.td_site.proofs.Later.{later_then}
use Rattle.td_site.proofs.Nexts.{nexts_then}
use Rattle.td_site.proofs.site.Site.catch_up.Goals as goal

pub loop-self-preserved : goal.loop-self-preserved
loop-self-preserved g c =
    let s = c.args.self.now in
    let t = c.loop-self.self in
    let u = c.take_next.new.self in
    record {
      nexts = nexts_then s.replica.entries t.replica.entries u.replica.entries c.loop-self.invariant.nexts
          c.take_next.ensures.nexts;
      late = c.in_ok-take_next.ensures.late;
      texts = c.in_ok-take_next.ensures.texts;
      later = later_then s t u c.loop-self.invariant.later c.take_next.ensures.later;
    }

pub returns-in_err-take_next-clause-nexts : goal.returns-in_err-take_next-clause-nexts
returns-in_err-take_next-clause-nexts g c =
    nexts_then c.args.self.now.replica.entries c.loop-self.self.replica.entries c.take_next.new.self.replica.entries
    c.loop-self.invariant.nexts c.take_next.ensures.nexts
