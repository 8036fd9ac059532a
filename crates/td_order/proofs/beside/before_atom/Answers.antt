use Rattle.std.proofs.Common.{◌∙◌, ap, length, Option, ℕ}
use Rattle.std.specs.Prelude.{unwrap_or}
use Rattle.td_base.specs.Equality.{same_id}
use Rattle.td_order.proofs.Splices.{placed_before}
use Rattle.td_order.proofs.beside.before_atom.Goals as goal

pub returns-clause-place : goal.returns-clause-place
returns-clause-place c =
    placed_before (same_id c.args.atom) c.args.list.now c.unwrap_or.result
    (c.unwrap_or.ensures ∙ ap (λ (o : Option ℕ). unwrap_or o (length c.args.list.now)) c.place_of.ensures.value)
