use Rattle.std.proofs.Common.{◌≡◌, ◌∙◌, ◌-◌, List, ℕ, sym, ap, drop, length, length-drop, arith}
use Rattle.std.specs.List.{concat, slice_range}
use Rattle.std.proofs.lemmas.List.{length-take}
use Rattle.td_base.specs.Run.{pieces}
use Rattle.td_rope.proofs.Chunks.{all_between, stretch_chunk}
use Rattle.td_rope.proofs.Pieces.{count_pieces, stretch_parts}
use Rattle.td_rope.proofs.chunk.Chunk.stretch.Goals as goal

pub slice_bounds-from_slice-end : goal.slice_bounds-from_slice-end
slice_bounds-from_slice-end c =
    omega (
      arith,
      c.requires.from,
      c.requires.to,
      ap length c.self.view_is,
      ap length c.deref.ensures.value,
      count_pieces c.self.inside.lengths.items c.self.inside.bytes.items,
    )

pub invariant_of-result : goal.invariant_of-result
invariant_of-result c =
    let from = c.args.from in
    let to = c.args.to in
    let lens = c.self.inside.lengths.items in
    let bytes = c.self.inside.bytes.items in
    let atoms : List (List ℕ) = pieces lens bytes in
    let bytes_are = c.bytes_of-bytes.ensures.bytes
    ∙ ap (λ (xs : List (List ℕ)). concat (slice_range xs from to)) (sym c.self.view_is) in
    let count : to - from ≡ length (slice_range atoms from to) =
    omega (
      arith,
      length-take (to - from) (drop from atoms),
      length-drop from atoms,
      c.requires.from,
      c.requires.to,
      ap length c.self.view_is,
      c.self.invariant.parts.few,
      count_pieces lens bytes,
    ) in
    stretch_chunk lens bytes c.in_ok-from_slice-2.field-0.items c.in_ok-from_slice.field-0.items from to c.of.result
    c.self.invariant.parts
    (c.in_ok-from_slice-2.ensures.items ∙ ap (λ (ls : List ℕ). slice_range ls from to) c.deref.ensures.value)
    (c.in_ok-from_slice.ensures.items ∙ bytes_are)
    (c.of.ensures (slice_range atoms from to) (all_between atoms from to c.self.invariant.parts.each) count bytes_are)

pub returns : goal.returns
returns c =
    let from = c.args.from in
    let to = c.args.to in
    (stretch_parts c.self.inside.lengths.items c.self.inside.bytes.items c.in_ok-from_slice-2.field-0.items
    c.in_ok-from_slice.field-0.items from to c.self.invariant.parts
    (c.in_ok-from_slice-2.ensures.items ∙ ap (λ (ls : List ℕ). slice_range ls from to) c.deref.ensures.value)
    (c.in_ok-from_slice.ensures.items ∙ c.bytes_of-bytes.ensures.bytes
    ∙ ap (λ (atoms : List (List ℕ)). concat (slice_range atoms from to)) (sym c.self.view_is))).1
    ∙ ap (λ (atoms : List (List ℕ)). slice_range atoms from to) c.self.view_is
