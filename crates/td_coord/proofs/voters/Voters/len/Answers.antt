use Rattle.std.proofs.Common.{length, ◌∙◌, sym, ap, arith}
use Rattle.td_coord.proofs.Reversed.{front_length}
use Rattle.td_coord.proofs.voters.Voters.len.Goals as goal

pub returns-clause-len : goal.returns-clause-len
returns-clause-len c =
    sym (front_length c.self.inside.count c.self.inside.sites (omega (arith, c.self.invariant)))
    ∙ ap length c.self.view_is
