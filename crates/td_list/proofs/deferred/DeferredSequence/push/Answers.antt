use Rattle.std.proofs.Common.{◌∙◌, List, ap, subst, Option}
use Rattle.td_list.specs.Items.{Item, IsItem}
use Rattle.td_list.specs.declared.deferred.Pending.{Pending}
use Rattle.td_list.specs.Deferred.{items_now}
use Rattle.td_list.proofs.deferred.DeferredSequence.push.Goals as goal

pub push-requires-clause-new : goal.push-requires-clause-new
push-requires-clause-new g c =
    let items : List Item = g.S.Sequence.items c.self.inside.list in
    let told = c.tell.ensures ∙ ap (λ (o : Option Pending). items_now o items) c.take.ensures.value ∙ c.self.view_is in
    λ x i j. c.requires.new x i (subst (IsItem x) told j)
