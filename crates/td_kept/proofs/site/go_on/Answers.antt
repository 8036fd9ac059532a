use Rattle.std.proofs.Common.{◌≡◌, ◌<◌, ℕ, length, sym, ap, ◌∙◌, arith, true, false}
use Rattle.td_disk.specs.Gated.{end_of}
use Rattle.td_op.specs.declared.input.Input.TheVariants.{Next}
use Rattle.td_op.specs.declared.reply.Reply.{Reply}
use Rattle.td_replica.specs.Replica.{ReplicaValue, has_ready}
use Rattle.td_journal.specs.declared.fault.KeptFault.TheVariants.{Full}
use Rattle.td_journal.specs.Check.{bytes_of}
use Rattle.td_journal.specs.Seen.{check_behind, format_of, journal_of, replica_of, staged_bytes}
use Rattle.td_kept.specs.KeptWorld.{fits, journal_len}
use Rattle.td_kept.proofs.Inputs.{going_full, going_more, going_off}
use Rattle.td_kept.proofs.Staging.{fits_of, full_of, goes_on, other_err, some_record}
use Rattle.td_kept.proofs.site.go_on.Goals as goal

pub returns-then-not-ready-clause-ok : goal.returns-then-not-ready-clause-ok
returns-then-not-ready-clause-ok g c =
    let off : has_ready (replica_of c.loop-k.kept).machine ≡ false =
    sym (ap (λ (r : ReplicaValue). has_ready r.machine) c.replica-in-loop-k.ensures) ∙ sym c.ready.ensures
    ∙ c.if-not-ready.true in
    let gone = going_off (length (replica_of c.args.kept.now).machine.waiting) c.loop-k.k
    (replica_of c.args.kept.now) (replica_of c.loop-k.kept) c.loop-k.invariant.going off in
    (gone.fit, gone.after)

pub returns-in-Err-clause-full : goal.returns-in-Err-clause-full
returns-in-Err-clause-full g c = λ len is_full.
    let k = c.loop-k.kept in
    let waits : c.waiting-waiting.result ≡ length (replica_of c.args.kept.now).machine.waiting =
    c.waiting-waiting.ensures ∙ ap (λ (r : ReplicaValue). length r.machine.waiting) c.replica.ensures in
    let less : c.loop-k.k < length (replica_of c.args.kept.now).machine.waiting = omega (arith, waits) in
    let on : has_ready (replica_of c.loop-k.kept).machine ≡ true =
    sym (ap (λ (r : ReplicaValue). has_ready r.machine) c.replica-in-loop-k.ensures) ∙ sym c.ready.ensures
    ∙ c.if-not-ready.false in
    let told = c.in-Err.ensures.full len (other_err Reply c.in-Err.fault (Full len) is_full) in
    let full = full_of (check_behind k) (replica_of k) Next (end_of (journal_of k)) (staged_bytes k)
    c.loop-k.invariant.pending.goes_on.format (c.stage.ensures.long c.loop-k.invariant.pending.goes_on.still_open) len
    told.0 told.1 in
    let cut = going_full (length (replica_of c.args.kept.now).machine.waiting) c.loop-k.k
    (replica_of c.args.kept.now) (replica_of c.loop-k.kept) less c.loop-k.invariant.going on full.0 in
    let same = c.in-Err.ensures.err.0 in
    (cut.full, full.1 ∙ ap journal_len (sym same), same ∙ cut.after)

pub loop-k-preserved : goal.loop-k-preserved
loop-k-preserved g c =
    let k = c.loop-k.kept in
    let p = c.loop-k.invariant.pending in
    let o = c.stage.ensures.others in
    let waits : c.waiting-waiting.result ≡ length (replica_of c.args.kept.now).machine.waiting =
    c.waiting-waiting.ensures ∙ ap (λ (r : ReplicaValue). length r.machine.waiting) c.replica.ensures in
    let less : c.loop-k.k < length (replica_of c.args.kept.now).machine.waiting = omega (arith, waits) in
    let on : has_ready (replica_of c.loop-k.kept).machine ≡ true =
    sym (ap (λ (r : ReplicaValue). has_ready r.machine) c.replica-in-loop-k.ensures) ∙ sym c.ready.ensures
    ∙ c.if-not-ready.false in
    let room : fits Next (replica_of c.loop-k.kept) ≡ true =
    fits_of (check_behind k) (replica_of k) Next (end_of (journal_of k)) (staged_bytes k) p.goes_on.format
    (c.stage.ensures.long p.goes_on.still_open) (staged_bytes c.stage.new.self) c.in_default.ensures.staged
    c.in_default.ensures.fits in
    record {
      going = going_more (length (replica_of c.args.kept.now).machine.waiting) c.loop-k.k
          (replica_of c.args.kept.now) (replica_of c.loop-k.kept) (replica_of c.stage.new.self) less
          c.loop-k.invariant.going on room c.in_default.ensures.ok;
      pending = record {
        goes_on = goes_on k c.stage.new.self o.0 o.1 o.4 p.goes_on;
        some_staged = some_record (format_of k) (bytes_of (check_behind k)) (staged_bytes k)
            (staged_bytes c.stage.new.self) Next c.in_default.ensures.staged;
      };
      counted = o.3 ∙ c.loop-k.invariant.counted;
    }
