use Rattle.std.proofs.Common.{◌∙◌, List, nat_lt, ap}
use Rattle.td_list.specs.Items.{Item, place_of}
use Rattle.td_list.proofs.Seats.{same_chunk, other_chunk}
use Rattle.td_list.proofs.chunked.ChunkedSequence.is_before.Goals as goal

pub returns-then-left-right : goal.returns-then-left-right
returns-then-left-right g c =
    let p = c.self.inside.index in
    let a = c.seat-left.ensures in
    let b = c.seat-right.ensures in
    (λ i. nat_lt (a.place i) (b.place i))
    ∙ same_chunk p c.self.invariant c.seat-left.result.chunk c.seat-right.result.chunk a.chunk c.if-left-right.true
    c.args.first c.args.second a.there b.there
    ∙ ap (λ (xs : List Item). nat_lt (place_of c.args.first xs) (place_of c.args.second xs)) c.self.view_is

pub returns-else-left-right : goal.returns-else-left-right
returns-else-left-right g c =
    let p = c.self.inside.index in
    let a = c.seat-left.ensures in
    let b = c.seat-right.ensures in
    c.is_chunk_before.ensures
    ∙ other_chunk p c.self.invariant c.seat-left.result.chunk c.seat-right.result.chunk c.args.first c.args.second
    a.chunk b.chunk c.if-left-right.false a.there b.there
    ∙ ap (λ (xs : List Item). nat_lt (place_of c.args.first xs) (place_of c.args.second xs)) c.self.view_is
