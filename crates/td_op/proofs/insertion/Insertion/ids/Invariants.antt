use Rattle.std.proofs.Common.{◌≡◌, take}
use Rattle.td_base.specs.RunAtoms.{run_ids_from}
use Rattle.td_op.proofs.insertion.Insertion.ids.Given as goal

-- the identities of the atoms so far
abbrev pub invariant-loop-offset : goal.invariant-loop-offset
invariant-loop-offset l = l.ids.items ≡ run_ids_from l.self.dot 0 (take l.offset l.self.run)
