-- A replica takes what waits, one operation after another.
use Rattle.std.proofs.Common.{◌≡◌, ◌<◌, ◌+◌, ◌-◌, ℕ, suc, Bool, true, length, ap, sym, ◌∙◌, arith}
use Rattle.std.proofs.Common.{if◌then◌else◌}
use Rattle.td_op.specs.declared.input.Input.TheVariants.{Next}
use Rattle.td_replica.specs.Replica.{ReplicaValue, after_step, has_ready}
use Rattle.td_shell.specs.Taking.{CaughtUp, catch_up, nexts, one_more}

-- so many were taken before
abbrev pub went_before : ℕ → CaughtUp → CaughtUp
went_before count w = record { replica = w.replica; count = count + w.count }

pub none_went : (w : CaughtUp) → w ≡ went_before 0 w
none_went w =
    let same : w.count ≡ 0 + w.count = omega arith in
    λ i. record { replica = w.replica; count = same i }

-- before the first
pub went_start : (most : ℕ) (r : ReplicaValue) → most ≡ length r.machine.waiting
    → catch_up r ≡ went_before 0 (nexts (most - 0) r)
went_start most r is =
    let same : length r.machine.waiting ≡ most - 0 = omega arith in
    none_went (catch_up r) ∙ ap (λ (k : ℕ). went_before 0 (nexts k r)) same

-- the next of those that may be taken
next_of : (most count : ℕ) (r : ReplicaValue) → count < most → (ready : Bool) → has_ready r.machine ≡ ready
    → nexts (most - count) r
    ≡ (if ready then one_more (nexts (most - (count + 1)) (after_step Next r)) else record { replica = r; count = 0 })
next_of most count r less ready is =
    let more : most - count ≡ suc (most - (count + 1)) = omega arith in
    ap (λ (k : ℕ). nexts k r) more
    ∙ ap (λ (b : Bool). if b then one_more (nexts (most - (count + 1)) (after_step Next r))
    else record { replica = r; count = 0 }) is

-- one was taken
pub went_on : (most count : ℕ) (r q : ReplicaValue) (all : CaughtUp) → count < most → has_ready r.machine ≡ true
    → q ≡ after_step Next r → all ≡ went_before count (nexts (most - count) r)
    → all ≡ went_before (count + 1) (nexts (most - (count + 1)) q)
went_on most count r q all less ready q_is all_is =
    let w : CaughtUp = nexts (most - (count + 1)) (after_step Next r) in
    let same : count + suc w.count ≡ count + 1 + w.count = omega arith in
    all_is ∙ ap (went_before count) (next_of most count r less true ready)
    ∙ (λ i. record { replica = w.replica; count = same i })
    ∙ ap (λ (p : ReplicaValue). went_before (count + 1) (nexts (most - (count + 1)) p)) (sym q_is)
