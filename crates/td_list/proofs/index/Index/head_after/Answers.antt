use Rattle.std.proofs.Common.{◌∙◌, sym}
use Rattle.td_list.specs.Items.{items_after}
use Rattle.td_list.specs.Index.{Parts}
use Rattle.td_list.proofs.Found.{first_in, first_none, filled_behind, item_behind}
use Rattle.td_list.proofs.index.Index.head_after.Goals as goal

pub head-requires-clause-chunk : goal.head-requires-clause-chunk
head-requires-clause-chunk g c =
    let p : Parts = c.args.self.now in
    let r = first_in p.chunks (items_after c.args.chunk p.order)
    (filled_behind p c.requires.index c.args.chunk c.requires.chunk) c.in-Some.next
    (sym c.in-Some.is ∙ c.next_chunk.ensures) in
    item_behind p c.requires.index c.args.chunk c.requires.chunk c.in-Some.next r.0

pub returns-in-Some : goal.returns-in-Some
returns-in-Some g c =
    let p : Parts = c.args.self.now in
    let r = first_in p.chunks (items_after c.args.chunk p.order)
    (filled_behind p c.requires.index c.args.chunk c.requires.chunk) c.in-Some.next
    (sym c.in-Some.is ∙ c.next_chunk.ensures) in
    sym c.head.ensures ∙ sym r.1

pub returns-in-None : goal.returns-in-None
returns-in-None g c = first_none c.args.self.now.chunks (items_after c.args.chunk c.args.self.now.order)
    (sym c.in-None.is ∙ c.next_chunk.ensures)
