use Rattle.std.proofs.Common.{List, ap, subst, option_and_then, slice_get, ◌-◌, ◌∙◌}
use Rattle.std.specs.List.{find}
use Rattle.td_machine.specs.Machine.{Machine}
use Rattle.td_machine.specs.Ready.{is_dot_of}
use Rattle.td_check.specs.ReplayParts.{IsReplayParts}
use Rattle.td_check.specs.Sites.{ReplayValue}
use Rattle.td_check.proofs.Placing.{found_is}
use Rattle.td_check.proofs.replay.Replay.found_op.Goals as goal

pub returns-clause-op : goal.returns-clause-op
returns-clause-op g c =
    let r : ReplayValue = c.args.self.now in
    let parts : IsReplayParts c.self.inside.made r =
    subst (λ (q : ReplayValue). IsReplayParts c.self.inside.made q) c.self.view_is c.self.invariant in
    c.op_at.ensures.op
    ∙ ap (λ (machines : List Machine). option_and_then (λ (m : Machine). find (is_dot_of c.args.dot) m.log)
    (slice_get machines (c.args.dot.site - 1)))
    (c.deref.ensures.value ∙ ap (λ (q : ReplayValue). q.machines) c.self.view_is)
    ∙ found_is c.self.inside.made r parts c.args.dot c.op_at.ensures.some
