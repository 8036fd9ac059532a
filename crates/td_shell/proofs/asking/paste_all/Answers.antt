use Rattle.std.proofs.Common.{◌≡◌, ◌∷◌, ◌∙◌, ℕ, List, true, ap, sym, arith, rules, length, length-append}
use Rattle.std.specs.List.{flat_map}
use Rattle.std.proofs.lemmas.Result.{err_from_is_err_and}
use Rattle.td_journal.specs.Seen.{replica_of}
use Rattle.td_op.specs.declared.request.Request.TheVariants.{Paste}
use Rattle.td_report.specs.Asking.{is_made, pastes}
use Rattle.td_shell.specs.Asking.{after_request, ask_all, done_before, reply_to}
use Rattle.td_text.specs.Runs.{runs_of}
use Rattle.td_shell.proofs.NextEdits.{none_before, pasted}
use Rattle.td_shell.proofs.Staged.{more_staged, none_staged}
use Rattle.td_shell.proofs.Wanting.{LeadsTo, paste_leads, wanting_on}
use Rattle.td_text.proofs.RunLemmas.{atoms_of_runs}
use Rattle.td_shell.proofs.asking.paste_all.Goals as goal

abbrev atoms_in : List (List (List ℕ)) → ℕ
atoms_in runs = length (flat_map (λ (run : List (List ℕ)). run) runs)

pub loop-run-init : goal.loop-run-init
loop-run-init g c =
    let atoms : List (List ℕ) = c.args.atoms.now in
    let all : c.into_iter-run-iterator.result ≡ runs_of atoms = search rules in
    record {
      can = tt;
      ends = tt;
      shut = search rules;
      staged = none_staged c.args.kept.now;
      asked = none_before (ask_all (pastes c.args.index (runs_of atoms)) (replica_of c.args.kept.now))
          ∙ ap (λ (runs : List (List (List ℕ))). done_before 0
          (ask_all (pastes c.args.index runs) (replica_of c.args.kept.now))) (sym all);
      counted = omega (arith, ap atoms_in all, ap length (atoms_of_runs atoms));
    }

pub loop-run-preserved : goal.loop-run-preserved
loop-run-preserved g c =
    let run : List (List ℕ) = c.in-Some.run' in
    let rest : List (List (List ℕ)) = c.next.new.self in
    let left : c.loop-run.run-iterator ≡ run ∷ rest = c.in-Some.ensures.steps in
    let size : c.from-len.result ≡ length run = search rules in
    let made : is_made (reply_to (Paste c.loop-run.index run) (replica_of c.loop-run.kept)) ≡ true = search rules in
    let after : replica_of c.ask.new.kept ≡ after_request (Paste c.loop-run.index run) (replica_of c.loop-run.kept) =
    search rules in
    record {
      can = tt;
      ends = tt;
      shut = search rules;
      staged = more_staged c.args.kept.now c.loop-run.kept c.ask.new.kept c.loop-run.invariant.staged
          c.ask.ensures.staged;
      asked = pasted c.loop-run.index c.loop-run.done c.from-len.result c.in_ok-index.index run rest
          c.loop-run.run-iterator (replica_of c.loop-run.kept) (replica_of c.ask.new.kept)
          (ask_all (pastes c.args.index (runs_of c.args.atoms.now)) (replica_of c.args.kept.now))
          left made after size c.in_ok-index.ensures c.loop-run.invariant.asked;
      counted = omega (
        arith,
        c.loop-run.invariant.counted,
        ap atoms_in left,
        size,
        length-append run
            (flat_map (λ (r : List (List ℕ)). r) rest),
      );
    }

pub returns-in_err-reply-clause-wanting : goal.returns-in_err-reply-clause-wanting
returns-in_err-reply-clause-wanting g c =
    let run : List (List ℕ) = c.in-Some.run' in
    let left : c.loop-run.run-iterator ≡ run ∷ c.next.new.self = c.in-Some.ensures.steps in
    let all = ask_all (pastes c.args.index (runs_of c.args.atoms.now)) (replica_of c.args.kept.now) in
    let p = err_from_is_err_and c.from_residual.result c.from_residual.ensures.1 in
    let near = after_request (Paste c.loop-run.index run) (replica_of c.loop-run.kept) in
    let leads : LeadsTo near all.replica = paste_leads c.loop-run.index c.loop-run.done run c.next.new.self
    c.loop-run.run-iterator (replica_of c.loop-run.kept) all left c.loop-run.invariant.asked in
    rw (p.1, p.2) (wanting_on c.ask.new.kept near all.replica c.in_err-reply.field-0.0 leads
    c.in_err-reply.ensures.wanting)
