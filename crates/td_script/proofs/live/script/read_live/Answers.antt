use Rattle.std.proofs.Common.{◌≡◌, ◌+◌, Ok, Some, None, length, sym, subst, ◌∙◌, eqb-true, arith}
use Rattle.td_script.specs.declared.live.before.LiveBefore.{LiveBefore}
use Rattle.td_script.specs.LiveFaults.{live_judged}
use Rattle.td_script.specs.LiveScript.{SpellsLive}
use Rattle.td_script.proofs.LiveLineLaws.{has_place, no_sum_fault}
use Rattle.td_script.proofs.ReadLive.{IsLiveReadTo, all_read, nothing_more, one_more, stands_here}
use Rattle.td_script.proofs.live.script.read_live.Goals as goal

pub loop-rest-preserved-in-Ok-None : goal.loop-rest-preserved-in-Ok-None
loop-rest-preserved-in-Ok-None c =
    let said : live_judged (length c.args.bytes.now) c.loop-rest.before c.split_line.result.0.now ≡ Ok None =
    rw c.in-Ok-None.field-0-is at c.in-Ok-None.ensures in
    record {
      read = nothing_more c.args.bytes.now c.loop-rest.rest.now c.split_line.result.0.now c.split_line.result.1.now
          c.loop-rest.before c.loop-rest.number c.loop-rest.invariant.read c.split_line.ensures.lines said;
      count = omega (arith, c.split_line.ensures.shorter, c.loop-rest.invariant.count);
    }

pub put-requires-clause-place : goal.put-requires-clause-place
put-requires-clause-place c =
    let said : live_judged (length c.args.bytes.now) c.loop-rest.before c.split_line.result.0.now
    ≡ Ok (Some c.in-Ok-Some.command) = rw c.in-Ok-Some.field-0-is at c.in-Ok-Some.ensures in
    has_place (length c.args.bytes.now) c.loop-rest.before c.in-Ok-Some.command
    (stands_here c.args.bytes.now c.loop-rest.rest.now c.split_line.result.0.now c.loop-rest.before c.loop-rest.number
    c.in-Ok-Some.command c.loop-rest.invariant.read said)

pub put-requires-clause-sums : goal.put-requires-clause-sums
put-requires-clause-sums c =
    let said : live_judged (length c.args.bytes.now) c.loop-rest.before c.split_line.result.0.now
    ≡ Ok (Some c.in-Ok-Some.command) = rw c.in-Ok-Some.field-0-is at c.in-Ok-Some.ensures in
    no_sum_fault (length c.args.bytes.now) c.loop-rest.before c.in-Ok-Some.command
    (stands_here c.args.bytes.now c.loop-rest.rest.now c.split_line.result.0.now c.loop-rest.before c.loop-rest.number
    c.in-Ok-Some.command c.loop-rest.invariant.read said)

pub loop-rest-preserved : goal.loop-rest-preserved
loop-rest-preserved c =
    let said : live_judged (length c.args.bytes.now) c.loop-rest.before c.split_line.result.0.now
    ≡ Ok (Some c.in-Ok-Some.command) = rw c.in-Ok-Some.field-0-is at c.in-Ok-Some.ensures in
    let more = one_more c.args.bytes.now c.loop-rest.rest.now c.split_line.result.0.now c.split_line.result.1.now
    c.loop-rest.before c.loop-rest.number c.in-Ok-Some.command c.loop-rest.invariant.read c.split_line.ensures.lines
    said
    in
    record {
      read =
          subst (λ (b : LiveBefore). IsLiveReadTo c.args.bytes.now c.split_line.result.1.now b (c.loop-rest.number + 1))
          (sym c.in_ok-put-in-Ok-Some.ensures) more;
      count = omega (arith, c.split_line.ensures.shorter, c.loop-rest.invariant.count);
    }

pub returns-clause-ok : goal.returns-clause-ok
returns-clause-ok c =
    let none : length c.loop-rest.rest.now ≡ 0 =
    eqb-true (length c.loop-rest.rest.now) 0 (sym c.is_empty.ensures ∙ c.loop-rest-test.false) in
    subst (SpellsLive c.args.bytes.now) (sym c.into_live.ensures)
    (all_read c.args.bytes.now c.loop-rest.rest.now c.loop-rest.before c.loop-rest.number
    c.if-bytes-gt-MAX_LIVE_SCRIPT.false c.loop-rest.invariant.read (omega arith))
