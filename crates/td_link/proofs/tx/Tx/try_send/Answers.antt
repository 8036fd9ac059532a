use Rattle.std.proofs.Common.{ap, sym, ◌∙◌}
use Rattle.td_link.specs.Moments.{was_full}
use Rattle.td_link.proofs.Moves.{sends, last_held}
use Rattle.td_link.proofs.tx.Tx.try_send.Goals as goal
use Rattle.td_link.proofs.tx.Tx.try_send.Goals.{in-Ok, in-Err}

pub push_as-requires-clause-rule : goal.push_as-requires-clause-rule
push_as-requires-clause-rule g c =
    let pass = c.self.invariant.1 in
    let same = ap (λ v. v.mark) c.self.view_is in (
      sends g.T.Item.fits _ _ _ c.args.item pass.0 pass.1 (λ m is. c.requires m (sym same ∙ is)),
      last_held
          g.T.Item.fits _ _ pass.0,
    )

pub returns-clause-full : goal.returns-clause-full
returns-clause-full g c = elim c.match-push_as.branch [
  | in-Ok w ↦ rw w.result-is tt
  | in-Err w ↦ rw (w.result-is, ← c.self.view_is, ← c.deref.ensures) (was_full _ _ w.in-Err.ensures.rule.2)
]
