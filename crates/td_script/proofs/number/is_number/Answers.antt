use Rattle.std.proofs.Common.{◌≡◌, ◌↔◌, All, IsTrue, get_or, sym, ◌∙◌, rules, arith}
use Rattle.std.specs.Int.{IsInRange}
use Rattle.td_script.proofs.Numbers.{empty_number, long_number, zero_number, other_number}
use Rattle.td_script.proofs.number.is_number.Goals as goal

pub returns-in-None : goal.returns-in-None
returns-in-None c = empty_number c.args.digits.now c.in-None.ensures.item.3

pub returns-in-Some-eq48 : goal.returns-in-Some-eq48
returns-in-Some-eq48 c = zero_number c.args.digits.now
    (sym (c.in-Some-eq48.ensures.item.4 (omega arith) 0) ∙ c.in-Some-eq48.field-0-test)

pub returns-then-digits-le-MAX_DIGITS : goal.returns-then-digits-le-MAX_DIGITS
returns-then-digits-le-MAX_DIGITS c =
    let digits : IsTrue c.all.result ↔ All (IsInRange 48 57) c.args.digits.now = search rules in
    let first = c.in-Some.ensures.item in
    other_number c.args.digits.now c.all.result first.3.0 c.if-digits-le-MAX_DIGITS.true
    (λ (e : get_or c.args.digits.now 0 0 ≡ 48). c.in-Some.field-0-test.1 (first.4 (omega arith) 0 ∙ e)) digits

pub returns-else-digits-le-MAX_DIGITS : goal.returns-else-digits-le-MAX_DIGITS
returns-else-digits-le-MAX_DIGITS c = long_number c.args.digits.now c.if-digits-le-MAX_DIGITS.false
