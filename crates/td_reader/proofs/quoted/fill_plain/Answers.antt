use Rattle.std.proofs.Common.{◌<◌, length, drop, false, arith, subst, sym}
use Rattle.td_reader.specs.Arguments.{plain}
use Rattle.td_reader.proofs.Texts.{more_escaped, more_plain, too_long}
use Rattle.td_reader.proofs.quoted.fill_plain.Goals as goal
use Rattle.td_reader.proofs.quoted.fill_plain.Goals.{else-not-is_escaped-via-then-not-is_escaped+else-byte-eq92}
use Rattle.td_reader.proofs.quoted.fill_plain.Goals.{else-not-is_escaped-via-else-not-is_escaped}

pub returns-then-len-eq-MAX_ATOM_LEN-clause-none : goal.returns-then-len-eq-MAX_ATOM_LEN-clause-none
returns-then-len-eq-MAX_ATOM_LEN-clause-none c =
    let at = c.loop-byte.byte-index in
    let raw = c.args.raw.now in
    let more : 0 < length (plain c.loop-byte.is_escaped (drop at raw)) =
    elim c.else-not-is_escaped.branch [
      | else-not-is_escaped-via-then-not-is_escaped+else-byte-eq92 w ↦
          subst (λ s. 0 < length (plain s (drop at raw))) (sym w.if-not-is_escaped.true)
          (more_plain raw at (omega arith) w.if-byte-eq92.false)
      | else-not-is_escaped-via-else-not-is_escaped w ↦
          subst (λ s. 0 < length (plain s (drop at raw))) (sym w.if-not-is_escaped.false)
          (more_escaped raw at (omega arith))
    ] in
    too_long c.loop-byte.bytes (plain false raw) (plain c.loop-byte.is_escaped
    (drop at raw)) c.loop-byte.len c.if-len-eq-MAX_ATOM_LEN.true c.loop-byte.invariant.size more
    c.loop-byte.invariant.done
