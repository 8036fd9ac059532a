use Rattle.std.proofs.Common.{◌≡◌, ◌∷◌, ◌∙◌, ℕ, List, true, ap, sym, refl, arith, rules, length, length-append}
use Rattle.std.specs.List.{flat_map}
use Rattle.td_op.specs.declared.request.Request.TheVariants.{Paste}
use Rattle.td_world.specs.World.{moved, reply_to}
use Rattle.td_world.specs.Calls.{ask}
use Rattle.td_report.specs.Asking.{is_made, pastes}
use Rattle.td_run.specs.Asking.{ask_all, done_before}
use Rattle.td_text.specs.Runs.{runs_of}
use Rattle.td_run.proofs.NextEdits.{none_before, pasted}
use Rattle.td_text.proofs.RunLemmas.{atoms_of_runs}
use Rattle.td_run.proofs.edits.paste_all.Goals as goal

abbrev atoms_in : List (List (List ℕ)) → ℕ
atoms_in runs = length (flat_map (λ (run : List (List ℕ)). run) runs)

pub loop-run-init : goal.loop-run-init
loop-run-init g c =
    let atoms : List (List ℕ) = c.args.atoms.now in
    let all : c.into_iter-run-iterator.result ≡ runs_of atoms = search rules in
    record {
      can = tt;
      ends = tt;
      same = refl;
      asked = none_before (ask_all c.args.site (pastes c.args.index (runs_of atoms)) c.args.world.now)
          ∙ ap (λ (runs : List (List (List ℕ))). done_before 0
          (ask_all c.args.site (pastes c.args.index runs) c.args.world.now)) (sym all);
      counted = omega (arith, ap atoms_in all, ap length (atoms_of_runs atoms));
    }

pub loop-run-preserved : goal.loop-run-preserved
loop-run-preserved g c =
    let run : List (List ℕ) = c.in-Some.run' in
    let rest : List (List (List ℕ)) = c.next.new.self in
    let left : c.loop-run.run-iterator ≡ run ∷ rest = c.in-Some.ensures.steps in
    let size : c.from-len.result ≡ length run = search rules in
    let made : is_made (reply_to (ask c.args.site (Paste c.loop-run.index run)) c.loop-run.world)
    ≡ true = search rules in
    let after : c.call.new.self ≡ moved (ask c.args.site (Paste c.loop-run.index run)) c.loop-run.world =
    search rules in
    record {
      can = tt;
      ends = tt;
      same = search rules;
      asked = pasted c.args.site c.loop-run.index c.loop-run.done c.from-len.result c.in_ok-index.index run rest
          c.loop-run.run-iterator
          c.loop-run.world c.call.new.self (ask_all c.args.site (pastes c.args.index (runs_of c.args.atoms.now))
          c.args.world.now)
          left made after size c.in_ok-index.ensures c.loop-run.invariant.asked;
      counted = omega (
        arith,
        c.loop-run.invariant.counted,
        ap atoms_in left,
        size,
        length-append run
            (flat_map (λ (r : List (List ℕ)). r) rest),
      );
    }
