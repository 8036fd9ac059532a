use Rattle.std.proofs.Common.{◌∙◌, List, Option, sym, ap, subst}
use Rattle.td_list.specs.Items.{Item}
use Rattle.td_list.specs.declared.deferred.Pending.{Pending}
use Rattle.td_list.specs.Deferred.{items_now, IsPending, IsDeferred}
use Rattle.td_list.proofs.Reweighed.{told_all}
use Rattle.td_list.proofs.deferred.tell.Goals as goal

pub returns-then-is_told : goal.returns-then-is_told
returns-then-is_told g c =
    let items : List Item = g.S.Sequence.items c.args.list.now in
    let is : IsPending c.in-Some.pending items = subst (λ (o : Option Pending). IsDeferred o items) c.in-Some.is
    c.requires in
    told_all c.in-Some.pending items is (c.is_told.ensures c.if-is_told.true)
    ∙ ap (λ (o : Option Pending). items_now o items) (sym c.in-Some.is)
