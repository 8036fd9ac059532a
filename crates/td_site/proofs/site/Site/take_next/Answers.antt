use Rattle.td_site.proofs.Nexts.{fewer_wait}
use Rattle.td_site.proofs.site.Site.take_next.Goals as goal

pub returns-clause-fewer : goal.returns-clause-fewer
returns-clause-fewer g c =
    fewer_wait c.args.self.now c.step.new.self c.show.new.self c.requires.ready c.in_ok-step.ensures.ok
    c.show.ensures.replica
