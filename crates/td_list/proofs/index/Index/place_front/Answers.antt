use Rattle.std.proofs.Common.{◌≡◌, ◌∙◌, ◌++◌, List, [], length, sym, ap}
use Rattle.td_list.specs.Items.{Item}
use Rattle.td_list.specs.Index.{Parts, joined, chunks_before, chunks_after}
use Rattle.std.proofs.lemmas.List.{append-nil, nil_from_length}
use Rattle.std.proofs.lemmas.Bool.{eqb-true}
use Rattle.td_list.proofs.Added.{dropped_all}
use Rattle.td_list.proofs.index.Index.place_front.Goals as goal

pub returns-then-is_empty-clause-all : goal.returns-then-is_empty-clause-all
returns-then-is_empty-clause-all g c =
    let p : Parts = c.args.self.now in
    let empty : c.args.new ≡ [] = sym c.items.ensures
    ∙ nil_from_length c.items.result.now (eqb-true (length c.items.result.now) 0
    (sym c.is_empty.ensures ∙ c.if-is_empty.true)) in
    (λ i. joined (c.drop_chunk.ensures.chunks i) (c.drop_chunk.ensures.order i))
    ∙ dropped_all p c.requires.index c.args.from.chunk c.requires.chunk
    ∙ (λ i. (sym (append-nil (chunks_before c.args.from.chunk p))
    ∙ ap (λ (xs : List Item). chunks_before c.args.from.chunk p ++ xs) (sym empty)) i
    ++ chunks_after c.args.from.chunk p)
