use Rattle.std.proofs.Common.{◌≡◌, ◌<◌, ℕ, List, ap, sym, length, get_or, arith}
use Rattle.td_text.proofs.RunLemmas.{next_in_run, run_is_full, sum_next}
use Rattle.td_text.proofs.runs.first_run.Goals as goal

pub returns-then-room-len-clause-first : goal.returns-then-room-len-clause-first
returns-then-room-len-clause-first c =
    let lens : List ℕ = c.args.lengths.now in
    let len : ℕ = get_or lens c.loop-len.len-index 0 in
    let lt : c.loop-len.count < length lens = omega (arith, c.loop-len-test.true, c.loop-len.invariant.counted) in
    let read : len ≡ get_or lens c.loop-len.count 0 =
    ap (λ (k : ℕ). get_or lens k 0) (sym c.loop-len.invariant.counted) in
    let fits = c.requires.short c.loop-len.len-index 0 c.loop-len-test.true in
    λ atoms lengths. run_is_full atoms lens c.loop-len.count c.loop-len.room len lengths lt read fits c.if-room-len.true
    (c.loop-len.invariant.same atoms lengths)

pub loop-len-preserved : goal.loop-len-preserved
loop-len-preserved c =
    let lens : List ℕ = c.args.lengths.now in
    let len : ℕ = get_or lens c.loop-len.len-index 0 in
    let lt : c.loop-len.count < length lens = omega (arith, c.loop-len-test.true, c.loop-len.invariant.counted) in
    let read : len ≡ get_or lens c.loop-len.count 0 =
    ap (λ (k : ℕ). get_or lens k 0) (sym c.loop-len.invariant.counted) in
    record {
      counted = omega (arith, c.loop-len.invariant.counted);
      bytes = omega (
        arith,
        c.loop-len.invariant.bytes,
        sum_next lens c.loop-len.count len lt read,
        c.if-room-len.false,
      );
      same = λ atoms lengths. next_in_run atoms lens c.loop-len.count c.loop-len.room len lengths lt read
          (omega (arith, c.if-room-len.false))
          (c.loop-len.invariant.same atoms lengths);
    }
