use Rattle.std.proofs.Common.{◌≡◌, ◌<◌, ◌∙◌, ◌++◌, ◌∷◌, ℕ, List, length, get_or, ap, sym, subst}
use Rattle.std.proofs.lemmas.List.{get_or_default}
use Rattle.td_list.specs.Items.{Item, items_from, items_after}
use Rattle.td_list.specs.Index.{Parts, chunk_at, chunks_after}
use Rattle.td_list.specs.Places.{nothing}
use Rattle.td_list.proofs.Parted.{there_is}
use Rattle.td_list.proofs.Seats.{from_seat, after_seat}
use Rattle.td_list.proofs.chunked.ChunkedSequence.get.Goals as goal

pub returns : goal.returns
returns g c =
    let p : Parts = c.self.inside.index in
    let s = c.seat-seat.ensures in
    let x = c.args.name in
    let old = chunk_at p.chunks c.seat-seat.result.chunk in
    let read = c.index-items_of-seat.is ∙ get_or_default c.items_of.result.now c.seat-seat.result.place
    c.index-items_of-seat.result nothing (subst (λ (q : List Item). c.seat-seat.result.place < length q)
    (sym c.items_of.ensures) s.bound) in
    let there : get_or old c.seat-seat.result.place nothing
    ≡ get_or c.items_of.result.now c.seat-seat.result.place nothing =
    ap (λ (q : List Item). get_or q c.seat-seat.result.place nothing) (sym c.items_of.ensures) in
    ap (items_from x) (sym c.self.view_is) ∙ from_seat p c.self.invariant c.seat-seat.result.chunk s.chunk x s.there
    ∙ ap (λ (q : List Item). q ++ chunks_after c.seat-seat.result.chunk p)
    (there_is x old s.there ∙ (λ i. (ap (λ (n : ℕ). get_or old n nothing) (sym s.place) ∙ there) i ∷ items_after x
    old))
    ∙ (λ i. sym read i ∷ (sym (after_seat p c.self.invariant c.seat-seat.result.chunk s.chunk x s.there)
    ∙ ap (items_after x) c.self.view_is) i)
