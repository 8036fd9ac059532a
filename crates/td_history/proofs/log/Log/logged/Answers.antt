use Rattle.td_history.proofs.Logs.{at_dot, agree_none, undecided, if_none}
use Rattle.td_history.proofs.log.Log.logged.Goals as goal

pub returns : goal.returns
returns c =
    rw (← c.self.view_is)
    (let found = at_dot _ _ _ _ _ _ c.self.invariant.log c.get.ensures.dot in
    record {
      found = rw c.get.ensures.logged found;
      none = rw c.get.ensures.logged (if_none _ _ (λ e. undecided _ _ _ c.self.invariant.log.orderly
          (agree_none _ _ _ found e)));
    })
