use Rattle.std.proofs.Common.{◌≡◌, ◌<◌, ◌+◌, ◌∙◌, ◌++◌, List, [], length, drop, Some, sym, ap, arith, length-drop}
use Rattle.td_list.specs.Items.{Item, items_after, first_name}
use Rattle.td_list.specs.Index.{Parts, chunk_at, chunks_after}
use Rattle.td_list.specs.Places.{nothing}
use Rattle.td_list.proofs.Ends.{first_drop}
use Rattle.td_list.proofs.Parted.{drop_after}
use Rattle.td_list.proofs.Seats.{after_seat}
use Rattle.td_list.proofs.Found.{first-append}
use Rattle.std.proofs.lemmas.List.{drop_all, get_or_default}
use Rattle.td_list.proofs.chunked.ChunkedSequence.next.Goals as goal

pub returns-then-seat-items : goal.returns-then-seat-items
returns-then-seat-items g c =
    let p : Parts = c.self.inside.index in
    let s = c.seat-seat.ensures in
    let x = c.args.name in
    let xs = c.items_of-items.result.now in
    let n = c.seat-seat.result.place + 1 in
    let below : n < length xs = c.if-seat-items.true in
    let after : drop n xs ≡ items_after x (chunk_at p.chunks c.seat-seat.result.chunk) =
    (λ i. drop (s.place i + 1) (c.items_of-items.ensures i))
    ∙ drop_after x (chunk_at p.chunks c.seat-seat.result.chunk) s.there in
    let some : 0 < length (drop n xs) = let e = length-drop n xs in omega arith in
    let named = c.name.ensures ∙ ap (λ (i : Item). i.name)
    (c.index-items-seat.is ∙ get_or_default xs n c.index-items-seat.result nothing below) in
    ap Some named ∙ sym (first_drop xs n below)
    ∙ sym (first-append (drop n xs) (chunks_after c.seat-seat.result.chunk p) some)
    ∙ ap (λ (ys : List Item). first_name (ys ++ chunks_after c.seat-seat.result.chunk p)) after
    ∙ ap first_name (sym (after_seat p c.self.invariant c.seat-seat.result.chunk s.chunk x s.there))
    ∙ ap (λ (ys : List Item). first_name (items_after x ys)) c.self.view_is

pub returns : goal.returns
returns g c =
    let p : Parts = c.self.inside.index in
    let s = c.seat-seat.ensures in
    let x = c.args.name in
    let xs = c.items_of-items.result.now in
    let n = c.seat-seat.result.place + 1 in
    let none : drop n xs ≡ [] = drop_all n xs c.if-seat-items.false in
    let after : drop n xs ≡ items_after x (chunk_at p.chunks c.seat-seat.result.chunk) =
    (λ i. drop (s.place i + 1) (c.items_of-items.ensures i))
    ∙ drop_after x (chunk_at p.chunks c.seat-seat.result.chunk) s.there in
    c.head_after.ensures
    ∙ ap (λ (ys : List Item). first_name (ys ++ chunks_after c.seat-seat.result.chunk p)) (sym none ∙ after)
    ∙ ap first_name (sym (after_seat p c.self.invariant c.seat-seat.result.chunk s.chunk x s.there))
    ∙ ap (λ (ys : List Item). first_name (items_after x ys)) c.self.view_is
