use Rattle.std.proofs.Common.{ap}
use Rattle.td_store.specs.Lists.{VectorsValue}
use Rattle.td_seat.proofs.OwnParts.{make_past, make_over, make_whole}
use Rattle.td_seat.proofs.own_ops.OwnOps.make_one.Goals as goal

pub returns-then-self : goal.returns-then-self
returns-then-self c =
    let o = c.args.self.now in
    record { ok = λ site n v told p. make_past site n v told o.site o.have o.is_past o.deps.rows p c.if-self.true }

pub returns-then-get-ge-MAX_SEQ : goal.returns-then-get-ge-MAX_SEQ
returns-then-get-ge-MAX_SEQ c =
    let o = c.args.self.now in
    record {
      ok =
          λ site n v told p.
          make_over site n v told o.site o.have o.is_past o.deps.rows p c.if-self.false
          (rw (← c.get.ensures.number) c.if-get-ge-MAX_SEQ.true);
    }

pub returns : goal.returns
returns c =
    let o = c.args.self.now in
    record {
      ok =
          λ site n v told p.
          rw (c.bump.ensures, c.push.ensures.rows, ap (λ (v : VectorsValue). v.rows) c.in_ok-reserve.ensures.rows)
          (make_whole site n v told o.site o.have o.is_past o.deps.rows p c.if-self.false
          (rw (← c.get.ensures.number) c.if-get-ge-MAX_SEQ.false));
    }
