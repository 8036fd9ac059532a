use Rattle.std.proofs.Common.{◌+◌, Bool, ap, arith, drop, length}
use Rattle.td_reader.specs.Arguments.{plain}
use Rattle.td_reader.proofs.Texts.{one_escaped, one_plain, start_escape}
use Rattle.td_reader.proofs.quoted.plain_len.Goals as goal
use Rattle.td_reader.proofs.quoted.plain_len.Goals.{then-not-is_escaped+then-byte-eq92, else-not-is_escaped}
use Rattle.td_reader.proofs.quoted.plain_len.Goals.{else-not-is_escaped-via-then-not-is_escaped+else-byte-eq92}
use Rattle.td_reader.proofs.quoted.plain_len.Goals.{else-not-is_escaped-via-else-not-is_escaped}

pub loop-byte-preserved : goal.loop-byte-preserved
loop-byte-preserved c =
    let at = c.loop-byte.byte-index in
    let raw = c.args.raw.now in
    let left = λ (s : Bool). length (plain s (drop at raw)) in
    let next = λ (s : Bool). length (plain s (drop (at + 1) raw)) in
    elim c.if-not-is_escaped.branch [
      | then-not-is_escaped+then-byte-eq92 w ↦ record {
        few = omega (arith, c.loop-byte.invariant.few, w.len-is);
        done = omega (
          arith,
          c.loop-byte.invariant.done,
          w.len-is,
          ap next w.is_escaped-is,
          ap left w.if-not-is_escaped.true,
          start_escape raw at (omega arith) w.if-byte-eq92.true,
        );
      }
      | else-not-is_escaped w ↦ record {
        few = omega (arith, c.loop-byte.invariant.few, w.len-is);
        done = elim w.else-not-is_escaped.branch [
          | else-not-is_escaped-via-then-not-is_escaped+else-byte-eq92 v ↦
              omega (
                arith,
                c.loop-byte.invariant.done,
                w.len-is,
                ap next w.is_escaped-is,
                ap left v.if-not-is_escaped.true,
                one_plain raw at (omega arith) v.if-byte-eq92.false,
              )
          | else-not-is_escaped-via-else-not-is_escaped v ↦
              omega (
                arith,
                c.loop-byte.invariant.done,
                w.len-is,
                ap next w.is_escaped-is,
                ap left v.if-not-is_escaped.false,
                one_escaped raw at (omega arith),
              )
        ];
      }
    ]
