use Rattle.td_causal.proofs.Entries.{entries_removed}
use Rattle.td_causal.proofs.buffer.Buffer.remove.Goals as goal

pub invariant_of-self : goal.invariant_of-self
invariant_of-self c =
    (entries_removed c.args.dot c.self.inside.waiting.entries c.remove.new.self.entries c.remove.ensures.entries
    c.self.invariant).0

pub returns : goal.returns
returns c =
    rw (← c.self.view_is)
    (entries_removed c.args.dot c.self.inside.waiting.entries c.remove.new.self.entries c.remove.ensures.entries
    c.self.invariant).1
