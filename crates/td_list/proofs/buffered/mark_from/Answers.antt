use Rattle.std.proofs.Common.{◌≡◌, ◌∙◌, List, drop, sym, Some}
use Rattle.td_list.specs.Items.{Item, items_from_end, first_marked}
use Rattle.td_list.proofs.Found.{marked_here, marked_past}
use Rattle.td_list.proofs.buffered.mark_from.Goals as goal

pub returns-in-Some : goal.returns-in-Some
returns-in-Some g c =
    let items : List Item = g.S.Sequence.items c.args.list.now in
    let xs : List Item = drop c.args.place c.args.waiting.now in
    let e : Some c.in-Some.mark ≡ first_marked xs = sym c.in-Some.is ∙ c.marked_from.ensures in
    e ∙ sym (marked_here xs (items_from_end c.args.end items) c.in-Some.mark e)

pub returns-in-None : goal.returns-in-None
returns-in-None g c =
    let items : List Item = g.S.Sequence.items c.args.list.now in
    let xs : List Item = drop c.args.place c.args.waiting.now in
    c.mark_behind.ensures
    ∙ sym (marked_past xs (items_from_end c.args.end items) (sym c.in-None.is ∙ c.marked_from.ensures))
