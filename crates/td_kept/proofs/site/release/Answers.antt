use Rattle.std.proofs.Common.{◌++◌, List, ap, ◌∙◌, arith}
use Rattle.td_op.specs.declared.message.Message.{Message}
use Rattle.td_kept.proofs.Staging.{released_all, released_none, released_on}
use Rattle.td_kept.proofs.site.release.Goals as goal

pub loop-k-init : goal.loop-k-init
loop-k-init g c = released_none c.args.sent.now.items c.args.replica.now.machine.sent c.args.before

pub loop-k-preserved : goal.loop-k-preserved
loop-k-preserved g c =
    released_on c.args.sent.now.items c.loop-k.sent.items c.push.new.self.items c.args.replica.now.machine.sent
    c.args.before c.loop-k.k c.message.result c.loop-k.auto.k c.loop-k.invariant c.message.ensures
    c.in_ok-push.ensures.items

pub returns-clause-sent : goal.returns-clause-sent
returns-clause-sent g c =
    c.loop-k.invariant ∙ ap (λ (l : List Message). c.args.sent.now.items ++ l)
    (released_all c.args.replica.now.machine.sent c.args.before c.loop-k.k (omega arith))
