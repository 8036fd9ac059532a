use Rattle.std.proofs.Common.{◌≡◌, ◌+◌, List, Ok, Some, length, sym, subst, ◌∙◌, eqb-true, arith}
use Rattle.td_script.specs.declared.kept.before.KeptBefore.{KeptBefore}
use Rattle.td_script.specs.declared.kept.command.KeptCommand.{KeptCommand}
use Rattle.td_script.specs.KeptFaults.{kept_after, kept_judged}
use Rattle.td_script.specs.KeptScript.{SpellsKept}
use Rattle.td_script.proofs.ReadKept.{IsKeptReadTo, one_more, all_read}
use Rattle.td_script.proofs.KeptScriptLaws.{kept_of_lines}
use Rattle.td_script.proofs.kept.script.read_kept.Goals as goal

pub loop-rest-preserved : goal.loop-rest-preserved
loop-rest-preserved c =
    let before = c.loop-rest.before in
    let number = c.loop-rest.number in
    let command = c.in-Ok-Some.command in
    let said : kept_judged (length c.args.bytes.now) before c.split_line.result.0.now
    ≡ Ok (Some command) = rw c.in-Ok-Some.field-0-is at c.in-Ok-Some.ensures in
    let more = one_more c.args.bytes.now c.loop-rest.rest.now c.split_line.result.0.now c.split_line.result.1.now
    c.loop-rest.commands before number command c.loop-rest.invariant.read c.split_line.ensures.lines said in
    record {
      read =
          subst
          (λ (b : KeptBefore). IsKeptReadTo c.args.bytes.now c.split_line.result.1.now c.push.new.self b (number + 1))
          (sym c.after-before.ensures.after)
          (subst (λ (cs : List KeptCommand). IsKeptReadTo c.args.bytes.now c.split_line.result.1.now cs
          (kept_after before command) (number + 1)) (sym c.in_ok-push-in-Ok-Some.ensures.ok) more);
      count = omega (arith, c.split_line.ensures.shorter, c.loop-rest.invariant.count);
      requests = omega (arith, c.after-before.ensures.bound, c.loop-rest.invariant.requests);
      crashes = omega (arith, c.after-before.ensures.crashes, c.loop-rest.invariant.crashes);
    }

pub returns-clause-ok : goal.returns-clause-ok
returns-clause-ok c =
    let bytes = c.args.bytes.now in
    let read = c.loop-rest.invariant.read in
    let none : length c.loop-rest.rest.now ≡ 0 = eqb-true (length c.loop-rest.rest.now) 0
    (sym c.is_empty.ensures ∙ c.loop-rest-test.false) in
    let spelled = kept_of_lines bytes c.loop-rest.commands c.if-bytes-gt-MAX_SCRIPT.false
    (all_read bytes c.loop-rest.rest.now c.loop-rest.commands c.loop-rest.before c.loop-rest.number read
    (omega arith)) in
    subst (λ (b : KeptBefore). SpellsKept bytes (record { sites = b.sites; commands = c.loop-rest.commands }))
    (sym read.before_is) spelled
