use Rattle.std.proofs.Common.{◌∙◌, ap, length, Option, ℕ}
use Rattle.std.specs.Prelude.{unwrap_or}
use Rattle.td_order.specs.Under.{is_under_any}
use Rattle.td_order.proofs.Splices.{placed_before}
use Rattle.td_order.proofs.place.before_first_under.Goals as goal

pub returns-clause-place : goal.returns-clause-place
returns-clause-place c =
    placed_before (is_under_any c.args.placed.now c.args.tops.now) c.args.list.now c.unwrap_or.result
    (c.unwrap_or.ensures ∙ ap (λ (o : Option ℕ). unwrap_or o (length c.args.list.now)) c.first_under.ensures.value)
