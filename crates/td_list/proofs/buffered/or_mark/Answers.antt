use Rattle.std.proofs.Common.{◌∙◌, List, sym, true≢false}
use Rattle.td_list.specs.Items.{Item, items_after}
use Rattle.td_list.proofs.Waiting.{mark_in, item_after, marked_as_was, marked_waiting, marked_elsewhere}
use Rattle.td_list.proofs.buffered.or_mark.Goals as goal

pub is_between-requires-clause-second : goal.is_between-requires-clause-second
is_between-requires-clause-second g c = λ x e.
    let items : List Item = g.S.Sequence.items c.args.list.now in
    item_after c.args.name x items (mark_in (items_after c.args.name items) x (sym e ∙ c.requires.mark))

pub returns-then-is_between : goal.returns-then-is_between
returns-then-is_between g c =
    let items : List Item = g.S.Sequence.items c.args.list.now in
    let p = c.is_between.ensures.0 c.if-is_between.true in
    marked_waiting c.args.end c.args.waiting.now items c.args.name c.requires.listed c.args.mark c.requires.mark
    c.in-Some.first (sym c.in-Some.is ∙ c.marked_from.ensures) p.0 p.1

pub returns-else-is_between : goal.returns-else-is_between
returns-else-is_between g c =
    let items : List Item = g.S.Sequence.items c.args.list.now in
    marked_elsewhere c.args.end c.args.waiting.now items c.args.name c.requires.listed c.args.mark c.requires.mark
    c.requires.apart (λ p. true≢false (sym (c.is_between.ensures.1 p) ∙ c.if-is_between.false))

pub returns-in-None : goal.returns-in-None
returns-in-None g c =
    let items : List Item = g.S.Sequence.items c.args.list.now in
    marked_as_was c.args.end c.args.waiting.now items c.args.name c.requires.listed c.args.mark c.requires.mark
    (sym c.in-None.is ∙ c.marked_from.ensures)
