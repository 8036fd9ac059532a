use Rattle.std.proofs.Common.{◌+◌, ◌∙◌, List, sym, ap, arith}
use Rattle.td_list.specs.Items.{Item, items_before, weight_of}
use Rattle.td_list.specs.Index.{Parts, all_items}
use Rattle.td_list.proofs.Changes.{chunk_light}
use Rattle.td_list.proofs.Seats.{weight_seat, take_here}
use Rattle.td_list.proofs.Weights.{weight-before}
use Rattle.td_list.proofs.chunked.ChunkedSequence.weight_before.Goals as goal

pub weight_to-requires-clause-light : goal.weight_to-requires-clause-light
weight_to-requires-clause-light g c =
    let p : Parts = c.self.inside.index in
    let chunk = chunk_light p c.self.invariant c.seat-seat.result.chunk c.seat-seat.ensures.chunk in
    omega (arith, c.self.invariant.light)

pub overflow_add-result : goal.overflow_add-result
overflow_add-result g c =
    let p : Parts = c.self.inside.index in
    let s = c.seat-seat.ensures in
    let w = weight_seat p c.self.invariant c.seat-seat.result.chunk s.chunk c.args.name s.there in
    let m = weight-before c.args.name (all_items p) in
    let t = ap weight_of (take_here p c.self.invariant c.seat-seat.result.chunk s.chunk c.args.name s.there
    c.seat-seat.result.place s.place) in
    let l = c.self.invariant.light in
    omega (arith, c.weight_before.ensures, c.weight_to.ensures)

pub returns : goal.returns
returns g c =
    let p : Parts = c.self.inside.index in
    let s = c.seat-seat.ensures in
    (λ i. c.weight_before.ensures i + (c.weight_to.ensures
    ∙ ap weight_of (take_here p c.self.invariant c.seat-seat.result.chunk s.chunk c.args.name s.there
    c.seat-seat.result.place s.place)) i)
    ∙ sym (weight_seat p c.self.invariant c.seat-seat.result.chunk s.chunk c.args.name s.there)
    ∙ ap (λ (xs : List Item). weight_of (items_before c.args.name xs)) c.self.view_is
