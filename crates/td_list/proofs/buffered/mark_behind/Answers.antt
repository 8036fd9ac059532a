use Rattle.std.proofs.Common.{◌∙◌, ℕ, List, Bool, if◌then◌else◌, ap, sym, Option, Some}
use Rattle.td_list.specs.Items.{Item, items_after, items_from_end, first_marked}
use Rattle.td_list.proofs.Waiting.{from_named}
use Rattle.td_list.proofs.buffered.mark_behind.Goals as goal

pub returns-then-marked : goal.returns-then-marked
returns-then-marked g c =
    let items : List Item = g.S.Sequence.items c.args.list.now in
    let x : ℕ = c.in-Some.name in
    let r : Item = c.get.result in
    let rest : List Item = items_after x items in
    ap Some (sym (from_named x items r rest (c.requires x c.in-Some.is) c.get.ensures))
    ∙ sym (ap (λ (b : Bool). if b then Some r.name else first_marked rest)
    (sym c.marked-marked.ensures ∙ c.if-marked.true))
    ∙ ap first_marked (sym c.get.ensures)
    ∙ ap (λ (o : Option ℕ). first_marked (items_from_end o items)) (sym c.in-Some.is)

pub returns-else-marked : goal.returns-else-marked
returns-else-marked g c =
    let items : List Item = g.S.Sequence.items c.args.list.now in
    let x : ℕ = c.in-Some.name in
    let r : Item = c.get.result in
    let rest : List Item = items_after x items in
    c.next_marked.ensures
    ∙ sym (ap (λ (b : Bool). if b then Some r.name else first_marked rest)
    (sym c.marked-marked.ensures ∙ c.if-marked.false))
    ∙ ap first_marked (sym c.get.ensures)
    ∙ ap (λ (o : Option ℕ). first_marked (items_from_end o items)) (sym c.in-Some.is)
