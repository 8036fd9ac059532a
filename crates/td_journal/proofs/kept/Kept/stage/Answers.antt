use Rattle.std.proofs.Common.{rules, ◌≡◌, ◌≤◌, ◌+◌, ℕ, List, ◌++◌, length, take, refl}
use Rattle.std.proofs.Common.{sym, ◌∙◌, ap, subst, arith, length-append}
use Rattle.std.proofs.lemmas.List.{take_at}
use Rattle.td_disk.specs.Gated.{end_of}
use Rattle.td_disk.specs.declared.disk.TheConstants.{MAX_DISK_LEN}
use Rattle.td_replica.specs.Replica.{ReplicaValue}
use Rattle.td_journal.specs.Check.{bytes_of}
use Rattle.td_journal.specs.Journal.{record_bytes, inputs_of}
use Rattle.td_journal.specs.Kept.{IsCounted, AreIndexed}
use Rattle.td_journal.proofs.Keeping.{as_long, counted_after, kept_after, kept_same, after_stays}
use Rattle.td_journal.proofs.Writable.{indexed_after}
use Rattle.td_journal.proofs.kept.Kept.stage.Goals as goal

pub returns-in_default-clause-err : goal.returns-in_default-clause-err
returns-in_default-clause-err g c =
    let s = c.args.self.now in
    let same : c.step_on.new.self ≡ c.args.self.now.replica = search rules in
    let cut : c.truncate.new.self ≡ c.args.self.now.staged =
    c.truncate.ensures ∙ ap (take c.len-staged.result) c.in_ok-push.ensures.ok
    ∙ take_at s.staged c.as_slice-2.result.now c.len-staged.result (sym c.len-staged.ensures) in
    (same, refl, cut)

pub invariant_of-self-in_default : goal.invariant_of-self-in_default
invariant_of-self-in_default g c =
    let s = c.args.self.now in
    let same : c.step_on.new.self ≡ c.args.self.now.replica = search rules in
    let cut : c.truncate.new.self ≡ c.args.self.now.staged =
    c.truncate.ensures ∙ ap (take c.len-staged.result) c.in_ok-push.ensures.ok
    ∙ take_at s.staged c.as_slice-2.result.now c.len-staged.result (sym c.len-staged.ensures) in
    record {
      counted = subst (λ (r : ReplicaValue). IsCounted r s.acknowledged s.released) (sym same) s.counted;
      writable = subst (λ (r : ReplicaValue). AreIndexed (inputs_of r.entries)) (sym same) s.writable;
      kept = λ is_open.
          kept_same g.K.Disk s.replica c.step_on.new.self s.journal s.check s.staged c.truncate.new.self
          s.acknowledged same cut (s.kept is_open);
    }

pub invariant_of-self-2 : goal.invariant_of-self-2
invariant_of-self-2 g c =
    let s = c.args.self.now in
    let written : c.as_slice-2.result.now ≡ record_bytes c.args.self.now.check.format (bytes_of c.args.self.now.check)
    c.args.input = search rules in
    let more : c.push.new.self ≡ c.args.self.now.staged
    ++ record_bytes c.args.self.now.check.format (bytes_of c.args.self.now.check) c.args.input =
    c.in_ok-push.ensures.ok ∙ ap (λ (l : List ℕ). c.args.self.now.staged ++ l) written in
    let room : end_of c.args.self.now.journal + length c.push.new.self + 1 ≤ MAX_DISK_LEN =
    omega (
      arith,
      c.if-as_slice-end.false,
      c.len-staged.ensures,
      c.end.ensures,
      ap length c.as_slice.ensures,
      ap length c.as_slice-2.ensures,
      ap length c.in_ok-push.ensures.ok,
      length-append c.args.self.now.staged c.as_slice-2.result.now,
    ) in
    record {
      writable = indexed_after s.replica c.step_on.new.self c.args.input s.writable c.in_ok-record.ensures.can
          c.in-Ok.ensures.ok;
      counted = counted_after s.replica c.step_on.new.self c.args.input s.acknowledged s.released
          c.entries.ensures.replica c.in_ok-record.ensures.can c.in-Ok.ensures.ok s.counted;
      kept = λ is_open.
          kept_after g.K.Disk s.check.format c.in_ok-record.record.check.format s.replica c.step_on.new.self
          c.args.input s.acknowledged s.journal
          (bytes_of s.check) (bytes_of c.in_ok-record.record.check) s.staged c.push.new.self
          c.entries.ensures.replica c.in_ok-record.ensures.can c.in-Ok.ensures.ok (s.kept is_open) s.counted.within
          (sym c.in_ok-record.ensures.format)
          c.in_ok-record.ensures.check more room;
    }

pub returns-clause-place : goal.returns-clause-place
returns-clause-place g c =
    let p = after_stays c.args.self.now.replica c.step_on.new.self c.args.input c.entries.ensures.replica
    c.in_ok-record.ensures.can c.in-Ok.ensures.ok in
    (p.site, p.size)

pub returns-in_default-clause-place : goal.returns-in_default-clause-place
returns-in_default-clause-place g c =
    let same : c.step_on.new.self ≡ c.args.self.now.replica = search rules in
    (ap (λ (r : ReplicaValue). r.machine.site) same, ap (λ (r : ReplicaValue). r.machine.size) same)

pub returns-in_err-record-clause-long : goal.returns-in_err-record-clause-long
returns-in_err-record-clause-long g c = λ is_open.
    let s = c.args.self.now in
    as_long g.K.Disk s.replica s.journal s.check s.staged s.acknowledged (s.kept is_open)

pub returns-then-as_slice-end-clause-long : goal.returns-then-as_slice-end-clause-long
returns-then-as_slice-end-clause-long g c = λ is_open.
    let s = c.args.self.now in
    as_long g.K.Disk s.replica s.journal s.check s.staged s.acknowledged (s.kept is_open)

pub returns-in_err-push-clause-long : goal.returns-in_err-push-clause-long
returns-in_err-push-clause-long g c = λ is_open.
    let s = c.args.self.now in
    as_long g.K.Disk s.replica s.journal s.check s.staged s.acknowledged (s.kept is_open)

pub returns-in_default-clause-long : goal.returns-in_default-clause-long
returns-in_default-clause-long g c = λ is_open.
    let s = c.args.self.now in
    as_long g.K.Disk s.replica s.journal s.check s.staged s.acknowledged (s.kept is_open)

pub returns-clause-long : goal.returns-clause-long
returns-clause-long g c = λ is_open.
    let s = c.args.self.now in
    as_long g.K.Disk s.replica s.journal s.check s.staged s.acknowledged (s.kept is_open)
