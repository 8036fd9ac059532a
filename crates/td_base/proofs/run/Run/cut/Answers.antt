use Rattle.std.proofs.Common.{refl, sym, arith}
use Rattle.std.proofs.lemmas.List.{length-take-le}
use Rattle.td_base.proofs.RunPieces.{next_piece, pieces_short, cut_parts}
use Rattle.td_base.proofs.run.Run.cut.Goals as goal

pub loop-len-init : goal.loop-len-init
loop-len-init c = record { at = refl; ends = refl }

pub overflow_add-end : goal.overflow_add-end
overflow_add-end c =
    let next = next_piece 64 c.args.lengths.now c.args.bytes.now c.loop-len.len-index c.loop-len.end c.loop-len.ends
    (omega arith) c.requires.whole c.requires.run c.loop-len-test.true c.loop-len.invariant.at
    c.loop-len.invariant.ends in
    omega (arith, next.short)

pub overflow_sub-ends : goal.overflow_sub-ends
overflow_sub-ends c =
    let next = next_piece 64 c.args.lengths.now c.args.bytes.now c.loop-len.len-index c.loop-len.end c.loop-len.ends
    (omega arith) c.requires.whole c.requires.run c.loop-len-test.true c.loop-len.invariant.at
    c.loop-len.invariant.ends in
    omega (arith, next.some)

pub overflow_shl-ends : goal.overflow_shl-ends
overflow_shl-ends c =
    let next = next_piece 64 c.args.lengths.now c.args.bytes.now c.loop-len.len-index c.loop-len.end c.loop-len.ends
    (omega arith) c.requires.whole c.requires.run c.loop-len-test.true c.loop-len.invariant.at
    c.loop-len.invariant.ends in
    omega (arith, next.some, next.short)

pub loop-len-preserved : goal.loop-len-preserved
loop-len-preserved c =
    let next = next_piece 64 c.args.lengths.now c.args.bytes.now c.loop-len.len-index c.loop-len.end c.loop-len.ends
    (omega arith) c.requires.whole c.requires.run c.loop-len-test.true c.loop-len.invariant.at
    c.loop-len.invariant.ends in
    record { at = next.end_is; ends = next.ends_next }

pub slice_bounds-all-end : goal.slice_bounds-all-end
slice_bounds-all-end c = pieces_short c.args.lengths.now c.args.bytes.now c.requires.whole c.requires.run

pub invariant_of-result : goal.invariant_of-result
invariant_of-result c =
    (cut_parts c.args.lengths.now c.args.bytes.now c.copy_from_slice.new.self _ c.loop-len.len-index c.loop-len.ends
    c.requires.whole c.requires.run c.loop-len-test.false c.loop-len.invariant.ends
    c.copy_from_slice.ensures.after refl).0

pub returns : goal.returns
returns c =
    (cut_parts c.args.lengths.now c.args.bytes.now c.copy_from_slice.new.self _ c.loop-len.len-index c.loop-len.ends
    c.requires.whole c.requires.run c.loop-len-test.false c.loop-len.invariant.ends
    c.copy_from_slice.ensures.after refl).1

pub slice_bounds-copy_from_slice-end : goal.slice_bounds-copy_from_slice-end
slice_bounds-copy_from_slice-end c = sym (length-take-le _ _
    (pieces_short c.args.lengths.now c.args.bytes.now c.requires.whole c.requires.run))

pub copy_from_slice-requires : goal.copy_from_slice-requires
copy_from_slice-requires c = length-take-le _ _
    (pieces_short c.args.lengths.now c.args.bytes.now c.requires.whole c.requires.run)
