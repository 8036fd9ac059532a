use Rattle.std.proofs.Common.{◌∙◌, sym, ap}
use Rattle.td_list.specs.Items.{first_name}
use Rattle.td_list.specs.Index.{Parts}
use Rattle.td_list.proofs.Found.{first_in, first_none}
use Rattle.td_list.proofs.chunked.ChunkedSequence.first.Goals as goal

pub head-requires-clause-chunk : goal.head-requires-clause-chunk
head-requires-clause-chunk g c =
    let p : Parts = c.self.inside.index in
    (first_in p.chunks p.order (λ i m. (c.self.invariant.each i m).some) c.in-Some.chunk
    (sym c.in-Some.is ∙ c.first_chunk.ensures)).0

pub returns-in-Some : goal.returns-in-Some
returns-in-Some g c =
    let p : Parts = c.self.inside.index in
    let r = first_in p.chunks p.order (λ i m. (c.self.invariant.each i m).some) c.in-Some.chunk
    (sym c.in-Some.is ∙ c.first_chunk.ensures) in
    sym c.head.ensures ∙ sym r.1 ∙ ap first_name c.self.view_is

pub returns-in-None : goal.returns-in-None
returns-in-None g c = first_none c.self.inside.index.chunks c.self.inside.index.order
    (sym c.in-None.is ∙ c.first_chunk.ensures) ∙ ap first_name c.self.view_is
