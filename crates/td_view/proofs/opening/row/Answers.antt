use Rattle.std.proofs.Common.{◌∙◌, sym, subst, ◌++◌, ◌∷◌, []}
use Rattle.td_view.specs.Values.{new_reader}
use Rattle.td_view.specs.Tied.{IsUngiven}
use Rattle.std.proofs.lemmas.List.{replicate-append-replicate}
use Rattle.td_view.proofs.opening.row.Goals as goal

pub loop-preserved : goal.loop-preserved
loop-preserved c =
    let i = c.loop.invariant in
    let past = c.args.past.now in
    let k = c.looker.ensures.kept in
    let items = c.push_reserved.ensures.items ∙ (λ j. (c.reserve.ensures.items ∙ i.3) j ++ c.new.ensures j ∷ []) in (
      k.0 ∙ i.0,
      k.1 ∙ i.1,
      subst (IsUngiven past) (sym k.2) i.2,
      items ∙ replicate-append-replicate c.loop.counter 1 (new_reader past.book past.log),
      i.4,
    )
