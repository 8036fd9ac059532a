use Rattle.std.proofs.Common.{◌≢◌, sym, ◌∙◌, arith}
use Rattle.td_base.specs.Value.{DotValue}
use Rattle.td_seat.proofs.OwnParts.{use_outside, use_over, use_whole}
use Rattle.td_seat.proofs.own_ops.OwnOps.use_one.Goals as goal

pub returns-then-number-size-clause-counted : goal.returns-then-number-size-clause-counted
returns-then-number-size-clause-counted c =
    let o = c.args.self.now in
    let d : DotValue = record { site = c.dot.inside.site; seq = c.dot.inside.seq } in
    λ site n v told p.
    rw (c.in-Some.is, ← c.dot.view_is)
    (use_outside site n v told o.site o.have o.is_past o.deps.rows p d c.number-number.ensures.least
    (omega (arith, c.if-number-size.true, c.size.ensures.size, c.number-number.ensures.value)))

pub returns-then-get-ge-MAX_SEQ-clause-counted : goal.returns-then-get-ge-MAX_SEQ-clause-counted
returns-then-get-ge-MAX_SEQ-clause-counted c =
    let o = c.args.self.now in
    let d : DotValue = record { site = c.dot.inside.site; seq = c.dot.inside.seq } in
    let apart : c.dot.inside.site ≢ o.site =
    λ e. c.if-number.false (c.number-number.ensures.value ∙ e ∙ sym c.number.ensures.value) in
    λ site n v told p.
    rw (c.in-Some.is, ← c.dot.view_is)
    (use_over site n v told o.site o.have o.is_past o.deps.rows p d c.number-number.ensures.least apart
    (omega (arith, c.if-number-size.false, c.size.ensures.size, c.number-number.ensures.value))
    (rw (← c.get.ensures.number) c.if-get-ge-MAX_SEQ.true))

pub returns-else-get-ge-MAX_SEQ-clause-counted : goal.returns-else-get-ge-MAX_SEQ-clause-counted
returns-else-get-ge-MAX_SEQ-clause-counted c =
    let o = c.args.self.now in
    let d : DotValue = record { site = c.dot.inside.site; seq = c.dot.inside.seq } in
    let apart : c.dot.inside.site ≢ o.site =
    λ e. c.if-number.false (c.number-number.ensures.value ∙ e ∙ sym c.number.ensures.value) in
    λ site n v told p.
    rw (c.in-Some.is, ← c.dot.view_is, c.bump.ensures)
    (use_whole site n v told o.site o.have o.is_past o.deps.rows p d c.number-number.ensures.least apart
    (rw (← c.get.ensures.number) c.if-get-ge-MAX_SEQ.false))
