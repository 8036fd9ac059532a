use Rattle.std.proofs.Common.{◌≡◌, true, length, rules}
use Rattle.std.proofs.lemmas.Result.{err_from_is_err_and}
use Rattle.td_journal.specs.Seen.{replica_of}
use Rattle.td_op.specs.declared.input.Input.TheVariants.{Next}
use Rattle.td_replica.specs.Replica.{after_step, has_ready}
use Rattle.td_shell.specs.Taking.{catch_up}
use Rattle.td_shell.proofs.Going.{went_on, went_start}
use Rattle.td_shell.proofs.Staged.{more_staged, none_staged}
use Rattle.td_shell.proofs.Wanting.{LeadsTo, next_leads, wanting_on}
use Rattle.td_shell.proofs.taking.catch_up.Goals as goal

pub loop-count-init : goal.loop-count-init
loop-count-init g c =
    let all : c.waiting-waiting.result ≡ length (replica_of c.args.kept.now).machine.waiting = search rules in
    record {
      shut = search rules;
      staged = none_staged c.args.kept.now;
      went = went_start c.waiting-waiting.result (replica_of c.args.kept.now) all;
    }

pub loop-count-preserved : goal.loop-count-preserved
loop-count-preserved g c =
    let on : has_ready (replica_of c.loop-count.kept).machine ≡ true = search rules in
    let after : replica_of c.stage.new.kept ≡ after_step Next (replica_of c.loop-count.kept) = search rules in
    record {
      shut = search rules;
      staged = more_staged c.args.kept.now c.loop-count.kept c.stage.new.kept c.loop-count.invariant.staged
          c.stage.ensures.staged;
      went = went_on c.waiting-waiting.result c.loop-count.count (replica_of c.loop-count.kept)
          (replica_of c.stage.new.kept) (catch_up (replica_of c.args.kept.now)) c.loop-count-test.true on after
          c.loop-count.invariant.went;
    }

pub returns-in_err-stage-clause-wanting : goal.returns-in_err-stage-clause-wanting
returns-in_err-stage-clause-wanting g c =
    let r = replica_of c.loop-count.kept in
    let on : has_ready r.machine ≡ true = search rules in
    let all = catch_up (replica_of c.args.kept.now) in
    let p = err_from_is_err_and c.from_residual.result c.from_residual.ensures.1 in
    let leads : LeadsTo (after_step Next r) all.replica = next_leads c.waiting-waiting.result c.loop-count.count r all
    c.loop-count-test.true on c.loop-count.invariant.went in
    rw (p.1, p.2) (wanting_on c.stage.new.kept (after_step Next r) all.replica c.in_err-stage.field-0.0 leads
    c.in_err-stage.ensures.wanting)
