use Rattle.std.proofs.Common.{◌≡◌, ◌∙◌, List, length, sym, ap}
use Rattle.td_list.specs.Items.{Item, without}
use Rattle.td_list.specs.Index.{Parts, chunk_at, joined}
use Rattle.td_list.proofs.Added.{dropped_all}
use Rattle.td_list.proofs.Seats.{remove_here, remove_sole}
use Rattle.td_list.proofs.chunked.ChunkedSequence.remove.Goals as goal

pub returns-then-items_of-eq1 : goal.returns-then-items_of-eq1
returns-then-items_of-eq1 g c =
    let p : Parts = c.self.inside.index in
    let s = c.seat-seat.ensures in
    let one : length (chunk_at p.chunks c.seat-seat.result.chunk)
    ≡ 1 = ap (λ (xs : List Item). length xs) (sym c.items_of.ensures) ∙ c.if-items_of-eq1.true in
    (λ i. joined (c.drop_chunk.ensures.chunks i) (c.drop_chunk.ensures.order i))
    ∙ dropped_all p c.self.invariant c.seat-seat.result.chunk s.chunk
    ∙ remove_sole p c.self.invariant c.seat-seat.result.chunk s.chunk c.args.name s.there c.seat-seat.result.place
    s.place one
    ∙ ap (without c.args.name) c.self.view_is

pub returns-else-items_of-eq1 : goal.returns-else-items_of-eq1
returns-else-items_of-eq1 g c =
    let p : Parts = c.self.inside.index in
    let s = c.seat-seat.ensures in
    c.take_out.ensures.all ∙ remove_here p c.self.invariant c.seat-seat.result.chunk s.chunk c.args.name s.there
    c.seat-seat.result.place s.place ∙ ap (without c.args.name) c.self.view_is
