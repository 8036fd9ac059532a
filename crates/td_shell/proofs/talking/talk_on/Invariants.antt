use Rattle.td_shell.proofs.UnderWay.{IsUnderWay}
use Rattle.td_shell.proofs.talking.talk_on.Given as goal

abbrev pub invariant-loop : goal.invariant-loop
invariant-loop g l = IsUnderWay g.S.Source g.W.Sink l.fn.kept l.kept l.fn.source l.source l.fn.sink l.sink l.lines
    l.number
