use Rattle.std.proofs.Common.{◌≡◌, ◌≤◌, ◌∙◌, ◌+◌, [], ℕ, List, ap, arith, get_or, length, subst, sym}
use Rattle.td_base.specs.Run.{pieces}
use Rattle.td_rope.specs.Units.{IsIndexOf, width}
use Rattle.td_rope.proofs.Chunks.{next_bytes, next_end}
use Rattle.td_rope.proofs.Offsets.{index_behind, index_here, offset_behind, offset_more}
use Rattle.td_rope.proofs.Pieces.{count_pieces}
use Rattle.td_rope.proofs.chunk.index_of.Goals as goal

pub returns-then-rest-width : goal.returns-then-rest-width
returns-then-rest-width c =
    let lens = c.args.lengths.now in
    let bytes = c.args.bytes.now in
    let atoms : List (List ℕ) = pieces lens bytes in
    let unit = c.args.unit in
    let i = c.loop-len.len-index in
    let lt = c.loop-len-test.true in
    let end = c.loop-len.end in
    let next = next_end lens i end c.from-end.result lt c.loop-len.invariant.1 c.from-end.ensures in
    let wide : c.width-width.result ≡ width unit (get_or atoms i []) =
    c.width-width.ensures ∙ ap (width unit) (next_bytes lens bytes i end (end + c.from-end.result)
    c.requires.parts.whole lt c.loop-len.invariant.1 next) in
    subst (IsIndexOf unit atoms c.args.offset) (sym c.loop-len.invariant.0)
    (index_here unit atoms i c.loop-len.rest c.args.offset (omega (arith, lt, count_pieces lens bytes))
    c.loop-len.invariant.2 (omega (arith, c.if-rest-width.true, wide)))

pub loop-len-preserved : goal.loop-len-preserved
loop-len-preserved c =
    let lens = c.args.lengths.now in
    let bytes = c.args.bytes.now in
    let atoms : List (List ℕ) = pieces lens bytes in
    let unit = c.args.unit in
    let i = c.loop-len.len-index in
    let lt = c.loop-len-test.true in
    let end = c.loop-len.end in
    let next = next_end lens i end c.from-end.result lt c.loop-len.invariant.1 c.from-end.ensures in
    let wide : c.width-width.result ≡ width unit (get_or atoms i []) =
    c.width-width.ensures ∙ ap (width unit) (next_bytes lens bytes i end (end + c.from-end.result)
    c.requires.parts.whole lt c.loop-len.invariant.1 next) in
    let more = offset_more unit atoms i (omega (arith, lt, count_pieces lens bytes)) in (
      ap (λ (n : ℕ). n + 1) c.loop-len.invariant.0,
      next,
      omega (arith, wide, more, c.loop-len.invariant.2, c.if-rest-width.false),
    )

pub returns : goal.returns
returns c =
    let lens = c.args.lengths.now in
    let bytes = c.args.bytes.now in
    let atoms : List (List ℕ) = pieces lens bytes in
    let unit = c.args.unit in
    let i = c.loop-len.len-index in
    let count : length atoms ≡ length lens = count_pieces lens bytes in
    let behind : length atoms ≤ i = omega (arith, count, c.loop-len-test.false) in
    let at_end : i ≡ length atoms = omega (arith, count, behind, c.loop-len.auto.len-index-end) in
    index_behind unit atoms c.args.offset c.loop-len.index (c.loop-len.invariant.0 ∙ at_end)
    (omega (arith, offset_behind unit atoms i behind, c.loop-len.invariant.2))
