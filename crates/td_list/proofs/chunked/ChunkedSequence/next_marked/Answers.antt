use Rattle.std.proofs.Common.{◌≡◌, ◌+◌, ◌∙◌, ◌++◌, List, drop, sym, ap, Some, None}
use Rattle.td_list.specs.Items.{Item, items_after, first_marked}
use Rattle.td_list.specs.Index.{Parts, chunk_at, chunks_after}
use Rattle.td_list.proofs.Parted.{drop_after}
use Rattle.td_list.proofs.Seats.{after_seat}
use Rattle.td_list.proofs.Found.{marked_here, marked_past}
use Rattle.td_list.proofs.chunked.ChunkedSequence.next_marked.Goals as goal

pub returns-in-Some : goal.returns-in-Some
returns-in-Some g c =
    let p : Parts = c.self.inside.index in
    let s = c.seat-seat.ensures in
    let x = c.args.name in
    let xs = c.items_of.result.now in
    let n = c.seat-seat.result.place + 1 in
    let found : Some c.in-Some.found ≡ first_marked (drop n xs) = sym c.in-Some.is ∙ c.first_marked.ensures in
    let after : drop n xs ≡ items_after x (chunk_at p.chunks c.seat-seat.result.chunk) =
    (λ i. drop (s.place i + 1) (c.items_of.ensures i))
    ∙ drop_after x (chunk_at p.chunks c.seat-seat.result.chunk) s.there in
    found
    ∙ sym (marked_here (drop n xs) (chunks_after c.seat-seat.result.chunk p) c.in-Some.found found)
    ∙ ap (λ (ys : List Item). first_marked (ys ++ chunks_after c.seat-seat.result.chunk p)) after
    ∙ ap first_marked (sym (after_seat p c.self.invariant c.seat-seat.result.chunk s.chunk x s.there))
    ∙ ap (λ (ys : List Item). first_marked (items_after x ys)) c.self.view_is

pub returns-in-None : goal.returns-in-None
returns-in-None g c =
    let p : Parts = c.self.inside.index in
    let s = c.seat-seat.ensures in
    let x = c.args.name in
    let xs = c.items_of.result.now in
    let n = c.seat-seat.result.place + 1 in
    let found : None ≡ first_marked (drop n xs) = sym c.in-None.is ∙ c.first_marked.ensures in
    let after : drop n xs ≡ items_after x (chunk_at p.chunks c.seat-seat.result.chunk) =
    (λ i. drop (s.place i + 1) (c.items_of.ensures i))
    ∙ drop_after x (chunk_at p.chunks c.seat-seat.result.chunk) s.there in
    c.mark_after.ensures
    ∙ sym (marked_past (drop n xs) (chunks_after c.seat-seat.result.chunk p) found)
    ∙ ap (λ (ys : List Item). first_marked (ys ++ chunks_after c.seat-seat.result.chunk p)) after
    ∙ ap first_marked (sym (after_seat p c.self.invariant c.seat-seat.result.chunk s.chunk x s.there))
    ∙ ap (λ (ys : List Item). first_marked (items_after x ys)) c.self.view_is
