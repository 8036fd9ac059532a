use Rattle.std.proofs.Common.{◌≡◌, ◌∙◌, List, [], sym, ap}
use Rattle.td_list.specs.Items.{Item, last_name}
use Rattle.td_list.specs.Index.{Parts, joined}
use Rattle.td_list.proofs.Found.{last_in, last_none}
use Rattle.td_list.proofs.chunked.ChunkedSequence.last.Goals as goal

pub end-requires-clause-chunk : goal.end-requires-clause-chunk
end-requires-clause-chunk g c =
    let p : Parts = c.self.inside.index in
    (last_in p.chunks p.order (λ i m. (c.self.invariant.each i m).some) c.in-Some.chunk
    (sym c.in-Some.is ∙ c.last_chunk.ensures)).0

pub returns-in-Some : goal.returns-in-Some
returns-in-Some g c =
    let p : Parts = c.self.inside.index in
    let r = last_in p.chunks p.order (λ i m. (c.self.invariant.each i m).some) c.in-Some.chunk
    (sym c.in-Some.is ∙ c.last_chunk.ensures) in
    sym c.end.ensures ∙ sym r.1 ∙ ap last_name c.self.view_is

pub returns-in-None : goal.returns-in-None
returns-in-None g c =
    let p : Parts = c.self.inside.index in
    let e : p.order ≡ [] = last_none p.chunks p.order (sym c.in-None.is ∙ c.last_chunk.ensures) in
    ap (λ (xs : List Item). last_name (joined p.chunks xs)) (sym e) ∙ ap last_name c.self.view_is
