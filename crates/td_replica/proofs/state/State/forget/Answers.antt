use Rattle.td_replica.proofs.Noting.{forgotten, forget_state}
use Rattle.td_replica.proofs.state.State.forget.Goals as goal

pub invariant_of-self : goal.invariant_of-self
invariant_of-self g c =
    rw c.remove.ensures
    (forgotten c.self.inside.site (g.D.Doc.rows c.self.inside.doc) c.self.inside.have c.self.inside.waiting
    c.self.inside.holds c.self.inside.tally c.self.inside.past c.self.invariant c.args.dot)

pub returns : goal.returns
returns g c =
    rw (c.remove.ensures, ← c.self.view_is)
    (forget_state c.self.inside.site (g.D.Doc.rows c.self.inside.doc) c.self.inside.have c.self.inside.waiting
    c.self.inside.holds c.self.inside.tally c.self.inside.past c.self.invariant c.args.dot)
