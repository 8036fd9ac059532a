use Rattle.std.proofs.Common.{ℕ, sym, subst}
use Rattle.td_reader.specs.Answers.{IsReadTraceFault}
use Rattle.td_reader.specs.Form.{IsFaultyForm, cut_lines}
use Rattle.td_check.specs.Verdict.{IsVerdict, TooLong, NoTrace}
use Rattle.td_check.proofs.AtSeats.{if_ok_so}
use Rattle.td_check.proofs.Possible.{verdict_is, yes_is_possible}
use Rattle.td_check.proofs.check.check_trace.Goals as goal

pub returns-then-bytes-gt-MAX_TRACE-clause-verdict : goal.returns-then-bytes-gt-MAX_TRACE-clause-verdict
returns-then-bytes-gt-MAX_TRACE-clause-verdict c =
    subst (IsVerdict c.args.bytes.now) (sym c.no.ensures) (TooLong c.if-bytes-gt-MAX_TRACE.true)

pub returns-in-Ok-clause-verdict : goal.returns-in-Ok-clause-verdict
returns-in-Ok-clause-verdict c =
    if_ok_so _ (IsVerdict c.args.bytes.now) c.judge_trace.result
    (λ v found. verdict_is c.args.bytes.now c.in-Ok.trace v c.if-bytes-gt-MAX_TRACE.false c.in-Ok.ensures.ok found)
    c.judge_trace.ensures

pub returns-in-Ok-clause-possible : goal.returns-in-Ok-clause-possible
returns-in-Ok-clause-possible c =
    if_ok_so _ _ c.judge_trace.result
    (λ v found. yes_is_possible c.args.bytes.now v
    (verdict_is c.args.bytes.now c.in-Ok.trace v c.if-bytes-gt-MAX_TRACE.false c.in-Ok.ensures.ok found))
    c.judge_trace.ensures

pub returns-in-Err-Form-clause-verdict : goal.returns-in-Err-Form-clause-verdict
returns-in-Err-Form-clause-verdict c =
    let faulty : IsFaultyForm (cut_lines c.args.bytes.now) c.in-Err-Form.line =
    subst (IsReadTraceFault c.args.bytes.now) c.in-Err-Form.field-0-is c.in-Err-Form.ensures.fault in
    subst (IsVerdict c.args.bytes.now) (sym c.no-in-Err-Form.ensures)
    (NoTrace c.if-bytes-gt-MAX_TRACE.false
    (subst (λ (line : ℕ). IsFaultyForm (cut_lines c.args.bytes.now) line) (sym c.in-Err-Form.line-is) faulty))

pub returns-in-Err-Form-clause-possible : goal.returns-in-Err-Form-clause-possible
returns-in-Err-Form-clause-possible c =
    let faulty : IsFaultyForm (cut_lines c.args.bytes.now) c.in-Err-Form.line =
    subst (IsReadTraceFault c.args.bytes.now) c.in-Err-Form.field-0-is c.in-Err-Form.ensures.fault in
    yes_is_possible c.args.bytes.now c.no-in-Err-Form.result
    (subst (IsVerdict c.args.bytes.now) (sym c.no-in-Err-Form.ensures)
    (NoTrace c.if-bytes-gt-MAX_TRACE.false
    (subst (λ (line : ℕ). IsFaultyForm (cut_lines c.args.bytes.now) line) (sym c.in-Err-Form.line-is) faulty)))
