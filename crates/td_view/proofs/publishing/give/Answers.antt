use Rattle.std.proofs.Common.{ap, ◌∙◌, arith, take, ◌++◌, ◌∷◌, [], List}
use Rattle.td_op.specs.declared.change.Change.{Change}
use Rattle.td_view.specs.declared.deed.Deed.{Deed}
use Rattle.td_view.specs.declared.deed.Deed.TheVariants.{Alter}
use Rattle.td_view.specs.Deeds.{deeds_of}
use Rattle.td_view.proofs.Deeding.{next_deed}
use Rattle.td_view.proofs.publishing.give.Goals as goal

pub loop-at-preserved : goal.loop-at-preserved
loop-at-preserved c =
    let i = c.loop-at.invariant in
    let a = c.args in
    let p = a.publishing.now in
    let at = c.loop-at.at in
    let d = c.index-changes-at.result in
    let before = take at (deeds_of p a.past.now) in
    let pending = ap (λ (l : List Deed). l ++ Alter d ∷ []) i.1 in
    let change = ap (λ (e : Change). before ++ Alter e ∷ []) c.index-changes-at.is in
    let next = next_deed p.changes.now at d p.upto p.last p.count a.past.now c.loop-at-test.true in (
      c.append.ensures.desk ∙ i.0,
      c.in-Ok.ensures.pending ∙ (pending ∙ (change ∙ next)),
      omega (arith, c.loop-at-test.true),
    )
