use Rattle.std.proofs.Common.{◌≡◌, ◌∙◌, List, ℕ, sym, ap, subst, take, map, length, arith}
use Rattle.std.specs.List.{concat, insert_slice}
use Rattle.std.proofs.lemmas.List.{take_at, length-map}
use Rattle.td_rope.specs.ChunkParts.{IsChunk}
use Rattle.td_rope.specs.Sizes.{IsSize}
use Rattle.td_rope.proofs.Chunks.{put_chunk, put_small}
use Rattle.td_rope.proofs.Pieces.{count_pieces, ends_within, put_parts}
use Rattle.td_rope.proofs.chunk.ChunkPart.put.Goals as goal

pub with_piece-requires-clause-place : goal.with_piece-requires-clause-place
with_piece-requires-clause-place c =
    omega (
      arith,
      c.requires.index,
      ap length c.self.view_is,
      ap length c.deref.ensures.value,
      count_pieces
          c.self.inside.lengths.items c.self.inside.bytes.items,
    )

pub with_piece-requires-2-clause-place : goal.with_piece-requires-2-clause-place
with_piece-requires-2-clause-place c =
    let within = ends_within c.self.inside.lengths.items c.self.inside.bytes.items c.args.self.now c.args.index
    c.start.result
    c.self.invariant.parts.whole c.self.view_is c.start.ensures in
    omega (arith, within, ap length c.deref-2.ensures.value)

pub of-more-requires : goal.of-more-requires
of-more-requires c = omega (arith, ap length c.bytes-2.ensures, c.len.ensures.run.short)

pub plus-self-inside-requires : goal.plus-self-inside-requires
plus-self-inside-requires c =
    let run = c.args.run.now in
    put_small c.args.self.now run c.args.index c.self.inside.size c.of-more.result c.requires.index
    (subst (λ (atoms : List (List ℕ)). IsSize atoms c.self.inside.size) c.self.view_is c.self.invariant.size_is)
    (c.of-more.ensures run c.len.ensures.run.each (c.from.ensures ∙ c.len-2.ensures.len) c.bytes-2.ensures)
    c.requires.few

pub invariant_of-self : goal.invariant_of-self
invariant_of-self c =
    let run = c.args.run.now in
    let lens = c.self.inside.lengths.items in
    let bytes = c.self.inside.bytes.items in
    let some : take c.len.result c.lengths-all.result ≡ map length run =
    ap (take c.len.result) c.lengths-all.ensures ∙ take_at (map length run) _ c.len.result
    (length-map run length ∙ sym c.len.ensures.len) in
    subst (IsChunk c.in_ok-lengths.lengths.items c.in_ok-bytes.bytes.items) (sym c.plus-self-inside.ensures)
    (put_chunk lens bytes c.in_ok-lengths.lengths.items c.in_ok-bytes.bytes.items run c.args.index c.start.result
    c.self.inside.size c.of-more.result c.self.invariant
    (omega (arith, c.requires.few, ap length c.self.view_is))
    (omega (arith, c.requires.index, ap length c.self.view_is))
    (c.start.ensures ∙ ap (λ (atoms : List (List ℕ)). length (concat (take c.args.index atoms))) (sym c.self.view_is))
    (c.in_ok-lengths.ensures ∙ (λ j. insert_slice (c.deref.ensures.value j) c.args.index (some j)))
    (c.in_ok-bytes.ensures ∙ (λ j. insert_slice (c.deref-2.ensures.value j) c.start.result (c.bytes.ensures j)))
    (c.of-more.ensures run c.len.ensures.run.each (c.from.ensures ∙ c.len-2.ensures.len) c.bytes-2.ensures))

pub returns-clause-ok : goal.returns-clause-ok
returns-clause-ok c =
    let run = c.args.run.now in
    let some : take c.len.result c.lengths-all.result ≡ map length run =
    ap (take c.len.result) c.lengths-all.ensures ∙ take_at (map length run) _ c.len.result
    (length-map run length ∙ sym c.len.ensures.len) in
    (put_parts c.self.inside.lengths.items c.self.inside.bytes.items c.in_ok-lengths.lengths.items
    c.in_ok-bytes.bytes.items
    run c.args.index c.start.result c.self.invariant.parts c.len.ensures.run.each
    (omega (arith, c.requires.few, ap length c.self.view_is))
    (omega (arith, c.requires.index, ap length c.self.view_is))
    (c.start.ensures ∙ ap (λ (atoms : List (List ℕ)). length (concat (take c.args.index atoms))) (sym c.self.view_is))
    (c.in_ok-lengths.ensures ∙ (λ j. insert_slice (c.deref.ensures.value j) c.args.index (some j)))
    (c.in_ok-bytes.ensures ∙ (λ j. insert_slice (c.deref-2.ensures.value j) c.start.result (c.bytes.ensures j)))).1
    ∙ ap (λ (atoms : List (List ℕ)). insert_slice atoms c.args.index run) c.self.view_is
