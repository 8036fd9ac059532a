use Rattle.std.proofs.Common.{◌∙◌, sym, ap}
use Rattle.td_list.specs.Items.{items_after, first_marked}
use Rattle.td_list.specs.Index.{Parts}
use Rattle.td_list.proofs.Joined.{within}
use Rattle.td_list.proofs.Found.{marked_in, marked_none, told_behind, item_behind}
use Rattle.td_list.proofs.index.Index.mark_after.Goals as goal

pub items_of-requires : goal.items_of-requires
items_of-requires g c =
    let p : Parts = c.args.self.now in
    let r = marked_in p.chunks (items_after c.args.chunk p.order)
    (told_behind p c.requires.index c.args.chunk c.requires.chunk) c.in-Some.next
    (sym c.in-Some.is ∙ c.next_marked_chunk.ensures) in
    within p c.requires.index c.in-Some.next (item_behind p c.requires.index c.args.chunk c.requires.chunk
    c.in-Some.next r.0)

pub returns-in-Some : goal.returns-in-Some
returns-in-Some g c =
    let p : Parts = c.args.self.now in
    let r = marked_in p.chunks (items_after c.args.chunk p.order)
    (told_behind p c.requires.index c.args.chunk c.requires.chunk) c.in-Some.next
    (sym c.in-Some.is ∙ c.next_marked_chunk.ensures) in
    c.first_marked.ensures ∙ ap first_marked c.items_of.ensures ∙ sym r.1

pub returns-in-None : goal.returns-in-None
returns-in-None g c =
    let p : Parts = c.args.self.now in
    marked_none p.chunks (items_after c.args.chunk p.order)
    (told_behind p c.requires.index c.args.chunk c.requires.chunk) (sym c.in-None.is ∙ c.next_marked_chunk.ensures)
