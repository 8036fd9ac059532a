use Rattle.std.proofs.Common.{◌≡◌, ◌∙◌, ◌++◌, ◌-◌, List, length, take, drop, sym, ap}
use Rattle.std.proofs.lemmas.List.{take_rest}
use Rattle.td_list.specs.Items.{Item, items_from}
use Rattle.td_list.specs.Index.{Parts, chunk_at, chunks_after}
use Rattle.td_list.proofs.Seats.{back_here}
use Rattle.td_list.proofs.chunked.Chunked.lend_from.Goals as goal

pub returns-clause-parts : goal.returns-clause-parts
returns-clause-parts g c =
    let p : Parts = c.self.inside.index in
    let s = c.seat-seat.ensures in
    let x = c.args.name in
    let xs : List Item = c.items_of.result.now in
    let n = c.seat-seat.result.place in
    let behind : List Item = chunks_after c.seat-seat.result.chunk p in
    let lent : drop n (chunk_at p.chunks c.seat-seat.result.chunk) ≡ take (length xs - n) (drop n xs) =
    ap (λ (ys : List Item). drop n ys) (sym c.items_of.ensures) ∙ sym (take_rest xs n) in (
      behind,
      ap (items_from x) (sym c.self.view_is) ∙ sym (back_here p c.self.invariant c.seat-seat.result.chunk s.chunk x
          s.there n s.place)
          ∙ ap (λ (ys : List Item). ys ++ behind) lent,
      c.head_after.ensures,
    )
