use Rattle.std.proofs.Common.{◌∙◌, List, ℕ, sym, ap, take, length, sum, arith}
use Rattle.std.specs.List.{concat}
use Rattle.std.proofs.lemmas.List.{length-take-le}
use Rattle.td_base.specs.Run.{pieces}
use Rattle.td_base.proofs.RunPieces.{piece_bytes}
use Rattle.td_base.proofs.RunLemmas.{front_short}
use Rattle.td_rope.proofs.Pieces.{count_pieces, start_is}
use Rattle.td_rope.proofs.chunk.Chunk.start.Goals as goal

pub slice_bounds-total-end : goal.slice_bounds-total-end
slice_bounds-total-end c =
    sym (length-take-le c.args.index c.deref.result.now
    (omega (
      arith,
      c.requires,
      ap length c.self.view_is,
      ap length c.deref.ensures.value,
      count_pieces
          c.self.inside.lengths.items c.self.inside.bytes.items,
    )))

pub total-requires : goal.total-requires
total-requires c =
    let lens = c.self.inside.lengths.items in
    let bytes = c.self.inside.bytes.items in
    let within = front_short (pieces lens bytes) c.args.index in
    omega (
      arith,
      ap (λ (ls : List ℕ). sum (take c.args.index ls)) c.deref.ensures.value,
      start_is lens bytes c.args.index c.self.invariant.parts.whole,
      within,
      ap length (piece_bytes lens bytes c.self.invariant.parts.whole),
      c.self.inside.bytes.ok.0,
      c.self.inside.bytes.ok.1,
      c.self.inside.bytes.small,
    )

pub returns : goal.returns
returns c =
    let lens = c.self.inside.lengths.items in
    let bytes = c.self.inside.bytes.items in
    c.total.ensures ∙ ap (λ (ls : List ℕ). sum (take c.args.index ls)) c.deref.ensures.value
    ∙ start_is lens bytes c.args.index c.self.invariant.parts.whole
    ∙ ap (λ (atoms : List (List ℕ)). length (concat (take c.args.index atoms))) c.self.view_is
