use Rattle.std.proofs.Common.{◌∙◌, sym, ap}
use Rattle.td_list.specs.Items.{share_at}
use Rattle.td_list.specs.Index.{Parts}
use Rattle.td_list.proofs.Joined.{within}
use Rattle.td_list.proofs.Found.{share_in, share_none}
use Rattle.td_list.proofs.chunked.ChunkedSequence.share_at.Goals as goal

pub items_of-requires : goal.items_of-requires
items_of-requires g c =
    let p : Parts = c.self.inside.index in
    let r = share_in p.chunks p.order (λ i m. (c.self.invariant.each i m).told) c.args.unit c.in-Some.share
    (sym c.in-Some.is ∙ c.chunk_with.ensures) in
    within p c.self.invariant c.in-Some.share.name r.0

pub returns-in-Some : goal.returns-in-Some
returns-in-Some g c =
    let p : Parts = c.self.inside.index in
    let r = share_in p.chunks p.order (λ i m. (c.self.invariant.each i m).told) c.args.unit c.in-Some.share
    (sym c.in-Some.is ∙ c.chunk_with.ensures) in
    c.share_at.ensures ∙ ap (share_at c.in-Some.share.rest) c.items_of.ensures ∙ sym r.1
    ∙ ap (share_at c.args.unit) c.self.view_is

pub returns-in-None : goal.returns-in-None
returns-in-None g c =
    let p : Parts = c.self.inside.index in
    share_none p.chunks p.order (λ i m. (c.self.invariant.each i m).told) c.args.unit
    (sym c.in-None.is ∙ c.chunk_with.ensures) ∙ ap (share_at c.args.unit) c.self.view_is
