use Rattle.std.proofs.Common.{◌<◌, ◌+◌, ◌-◌, ◌∙◌, ◌∷◌, [], List, ℕ, refl, sym, ap, subst, take, drop}
use Rattle.std.proofs.Common.{get_or, length, length-drop, arith}
use Rattle.std.specs.List.{concat, remove, slice_range}
use Rattle.std.proofs.lemmas.List.{append-nil, length-take}
use Rattle.td_base.specs.Run.{pieces}
use Rattle.td_rope.specs.ChunkParts.{IsChunk}
use Rattle.td_rope.proofs.Chunks.{chunk_without, one_bytes, one_is, one_within}
use Rattle.td_rope.proofs.Pieces.{count_pieces, starts, ends_within, parts_without}
use Rattle.td_rope.proofs.chunk.ChunkPart.take_out.Goals as goal

pub take_out-requires-clause-from : goal.take_out-requires-clause-from
take_out-requires-clause-from c =
    omega (
      arith,
      c.start-from.ensures,
      c.start-to.ensures,
      starts c.args.self.now c.args.index (c.args.index + 1)
          (omega arith),
    )

pub take_out-requires-clause-to : goal.take_out-requires-clause-to
take_out-requires-clause-to c =
    ends_within c.self.inside.lengths.items c.self.inside.bytes.items c.args.self.now (c.args.index + 1)
    c.start-to.result
    c.self.invariant.parts.whole c.self.view_is c.start-to.ensures

pub remove-requires : goal.remove-requires
remove-requires c =
    omega (
      arith,
      c.requires,
      ap length c.self.view_is,
      c.self.inside.lengths.ok.0,
      count_pieces
          c.self.inside.lengths.items c.self.inside.bytes.items,
    )

pub slice_bounds-of-count : goal.slice_bounds-of-count
slice_bounds-of-count c =
    omega (
      arith,
      c.start-from.ensures,
      c.start-to.ensures,
      starts c.args.self.now c.args.index (c.args.index + 1) (omega arith),
    )

pub slice_bounds-of-start : goal.slice_bounds-of-start
slice_bounds-of-start c =
    omega (
      arith,
      c.start-from.ensures,
      c.start-to.ensures,
      starts c.args.self.now c.args.index (c.args.index + 1) (omega arith),
      ends_within c.self.inside.lengths.items c.self.inside.bytes.items c.args.self.now (c.args.index + 1)
          c.start-to.result c.self.invariant.parts.whole c.self.view_is c.start-to.ensures,
      ap length c.deref.ensures.value,
    )

pub slice_bounds-of-end : goal.slice_bounds-of-end
slice_bounds-of-end c =
    omega (
      arith,
      c.start-from.ensures,
      c.start-to.ensures,
      starts c.args.self.now c.args.index (c.args.index + 1) (omega arith),
      ends_within c.self.inside.lengths.items c.self.inside.bytes.items c.args.self.now (c.args.index + 1)
          c.start-to.result c.self.invariant.parts.whole c.self.view_is c.start-to.ensures,
      ap length c.deref.ensures.value,
    )

pub of-less-requires : goal.of-less-requires
of-less-requires c =
    let start = c.start-from.result in
    omega (
      arith,
      length-take (c.start-to.result - start) (drop start c.deref.result.now),
      length-drop start c.deref.result.now,
      ap length c.deref.ensures.value,
      c.self.inside.bytes.ok.0,
      c.self.inside.bytes.ok.1,
      c.self.inside.bytes.small,
    )

pub minus-self-inside-requires : goal.minus-self-inside-requires
minus-self-inside-requires c =
    let lens = c.self.inside.lengths.items in
    let bytes = c.self.inside.bytes.items in
    let atoms : List (List ℕ) = pieces lens bytes in
    let i = c.args.index in
    let view = sym c.self.view_is in
    let lt : i < length atoms = omega (arith, c.requires, ap length c.self.view_is) in
    let one_are = ap (λ (bs : List ℕ). slice_range bs c.start-from.result c.start-to.result) c.deref.ensures.value
    ∙ one_bytes lens bytes i c.start-from.result c.start-to.result c.self.invariant.parts.whole lt
    (c.start-from.ensures ∙ ap (λ (xs : List (List ℕ)). length (concat (take i xs))) view)
    (c.start-to.ensures ∙ ap (λ (xs : List (List ℕ)). length (concat (take (i + 1) xs))) view)
    ∙ sym (append-nil (get_or atoms i [])) in
    one_within atoms i c.self.inside.size c.of-less.result lt c.self.invariant.size_is
    (c.of-less.ensures (get_or atoms i [] ∷ []) (one_is atoms i c.self.invariant.parts.each lt) refl one_are)

pub invariant_of-self : goal.invariant_of-self
invariant_of-self c =
    let lens = c.self.inside.lengths.items in
    let bytes = c.self.inside.bytes.items in
    let atoms : List (List ℕ) = pieces lens bytes in
    let i = c.args.index in
    let view = sym c.self.view_is in
    let lt : i < length atoms = omega (arith, c.requires, ap length c.self.view_is) in
    let start_is = c.start-from.ensures ∙ ap (λ (xs : List (List ℕ)). length (concat (take i xs))) view in
    let end_is = c.start-to.ensures ∙ ap (λ (xs : List (List ℕ)). length (concat (take (i + 1) xs))) view in
    let one_are = ap (λ (bs : List ℕ). slice_range bs c.start-from.result c.start-to.result) c.deref.ensures.value
    ∙ one_bytes lens bytes i c.start-from.result c.start-to.result c.self.invariant.parts.whole lt start_is end_is
    ∙ sym (append-nil (get_or atoms i [])) in
    subst (IsChunk c.remove.new.self.items c.take_out.new.bytes.items) (sym c.minus-self-inside.ensures)
    (chunk_without lens bytes c.remove.new.self.items c.take_out.new.bytes.items i c.start-from.result
    c.start-to.result c.self.inside.size c.of-less.result c.self.invariant lt start_is end_is c.remove.ensures.items
    c.take_out.ensures
    (c.of-less.ensures (get_or atoms i [] ∷ []) (one_is atoms i c.self.invariant.parts.each lt) refl one_are))

pub returns : goal.returns
returns c =
    let view = sym c.self.view_is in
    (parts_without c.self.inside.lengths.items c.self.inside.bytes.items c.remove.new.self.items
    c.take_out.new.bytes.items c.args.index c.start-from.result c.start-to.result c.self.invariant.parts
    (omega (arith, c.requires, ap length c.self.view_is))
    (c.start-from.ensures ∙ ap (λ (atoms : List (List ℕ)). length (concat (take c.args.index atoms))) view)
    (c.start-to.ensures ∙ ap (λ (atoms : List (List ℕ)). length (concat (take (c.args.index + 1) atoms))) view)
    c.remove.ensures.items c.take_out.ensures).1
    ∙ ap (λ (atoms : List (List ℕ)). remove atoms c.args.index) c.self.view_is
