use Rattle.std.proofs.Common.{◌≡◌, ◌+◌, ◌-◌, ℕ, true, ap, arith, ◌∙◌, rules}
use Rattle.std.proofs.lemmas.Result.{err_from_is_err_and}
use Rattle.td_journal.specs.Seen.{replica_of}
use Rattle.td_op.specs.declared.request.Request.TheVariants.{Delete}
use Rattle.td_replica.specs.Replica.{ReplicaValue}
use Rattle.td_report.specs.Asking.{deletes, is_made}
use Rattle.td_shell.specs.Asking.{after_request, ask_all, done_before, reply_to}
use Rattle.td_shell.proofs.NextEdits.{done_twice, made_on, next_delete, none_before}
use Rattle.td_shell.proofs.Staged.{more_staged, none_staged}
use Rattle.td_shell.proofs.Wanting.{LeadsTo, delete_leads, wanting_on}
use Rattle.td_shell.proofs.asking.delete_all.Goals as goal

pub loop-done-init : goal.loop-done-init
loop-done-init g c =
    let k = c.args.kept.now in
    let all : c.args.count ≡ c.args.count - 0 = omega arith in
    record {
      shut = c.requires;
      staged = none_staged k;
      asked = none_before (ask_all (deletes c.args.index c.args.count) (replica_of k))
          ∙ ap (λ (n : ℕ). done_before 0 (ask_all (deletes c.args.index n) (replica_of k))) all;
    }

pub loop-done-preserved : goal.loop-done-preserved
loop-done-preserved g c =
    let r : ReplicaValue = replica_of c.loop-done.kept in
    let after : ReplicaValue = after_request (Delete c.args.index) r in
    let others = ask_all (deletes c.args.index (c.args.count - (c.loop-done.done + 1))) after in
    let made : is_made (reply_to (Delete c.args.index) r) ≡ true = search rules in
    let next = next_delete c.args.index c.args.count c.loop-done.done r c.loop-done-test.true in
    let there : after ≡ replica_of c.ask.new.kept = search rules in
    record {
      shut = search rules;
      staged = more_staged c.args.kept.now c.loop-done.kept c.ask.new.kept c.loop-done.invariant.staged
          c.ask.ensures.staged;
      asked = c.loop-done.invariant.asked
          ∙ ap (done_before c.loop-done.done)
          (next ∙ made_on (reply_to (Delete c.args.index) r) after 1 others made)
          ∙ done_twice c.loop-done.done 1 others
          ∙ ap (λ (v : ReplicaValue). done_before (c.loop-done.done + 1)
          (ask_all (deletes c.args.index (c.args.count - (c.loop-done.done + 1))) v)) there;
    }

pub returns-in_err-reply-clause-wanting : goal.returns-in_err-reply-clause-wanting
returns-in_err-reply-clause-wanting g c =
    let r : ReplicaValue = replica_of c.loop-done.kept in
    let all = ask_all (deletes c.args.index c.args.count) (replica_of c.args.kept.now) in
    let p = err_from_is_err_and c.from_residual.result c.from_residual.ensures.1 in
    let near = after_request (Delete c.args.index) r in
    let leads : LeadsTo near all.replica = delete_leads c.args.index c.args.count c.loop-done.done r all
    c.loop-done-test.true c.loop-done.invariant.asked in
    rw (p.1, p.2) (wanting_on c.ask.new.kept near all.replica c.in_err-reply.field-0.0 leads
    c.in_err-reply.ensures.wanting)
