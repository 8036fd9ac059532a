use Rattle.td_store.proofs.StoredOps.{head_pushed}
use Rattle.td_store.proofs.ops.Ops.push_insertion.Goals as goal

pub returns-clause-ops : goal.returns-clause-ops
returns-clause-ops c =
    rw (← c.self.view_is) (head_pushed c.self.inside.heads.ops c.push_insertion.new.self.ops
    c.self.inside.chains.places c.push_head.new.self.places _ c.self.invariant.placed c.push_insertion.ensures.ops
    (rw c.self.invariant.count at c.push_head.ensures.places))
