use Rattle.std.proofs.Common.{◌≡◌, take, refl, sym, ap, ◌∙◌, arith}
use Rattle.std.specs.Fmt.{decimal}
use Rattle.std.specs.Str.Parse.{digits_value}
use Rattle.std.proofs.lemmas.List.{take_all}
use Rattle.td_script.proofs.Numbers.{IsNumberWord, AddsDigit, adds_digit, value_of_number}
use Rattle.td_script.proofs.number.number_of.Goals as goal

pub overflow_mul-value : goal.overflow_mul-value
overflow_mul-value c =
    let number : IsNumberWord c.args.digits.now = c.if-not-is_number.ensures.0 refl in
    let step : AddsDigit c.args.digits.now c.loop-digit.digit-index c.loop-digit.value =
    adds_digit c.args.digits.now c.loop-digit.digit-index c.loop-digit.value number c.loop-digit-test.true
    c.loop-digit.invariant in
    omega (arith, step.below)

pub overflow_sub-digit : goal.overflow_sub-digit
overflow_sub-digit c =
    let number : IsNumberWord c.args.digits.now = c.if-not-is_number.ensures.0 refl in
    (adds_digit c.args.digits.now c.loop-digit.digit-index c.loop-digit.value number c.loop-digit-test.true
    c.loop-digit.invariant).low

pub overflow_add-value : goal.overflow_add-value
overflow_add-value c =
    let number : IsNumberWord c.args.digits.now = c.if-not-is_number.ensures.0 refl in
    let step : AddsDigit c.args.digits.now c.loop-digit.digit-index c.loop-digit.value =
    adds_digit c.args.digits.now c.loop-digit.digit-index c.loop-digit.value number c.loop-digit-test.true
    c.loop-digit.invariant in
    omega (arith, step.below)

pub loop-digit-preserved : goal.loop-digit-preserved
loop-digit-preserved c =
    let number : IsNumberWord c.args.digits.now = c.if-not-is_number.ensures.0 refl in
    let step : AddsDigit c.args.digits.now c.loop-digit.digit-index c.loop-digit.value =
    adds_digit c.args.digits.now c.loop-digit.digit-index c.loop-digit.value number c.loop-digit-test.true
    c.loop-digit.invariant in
    omega (arith, step.more)

pub returns-clause-some : goal.returns-clause-some
returns-clause-some c =
    let number : IsNumberWord c.args.digits.now = c.if-not-is_number.ensures.0 refl in
    let all : take c.loop-digit.digit-index c.args.digits.now ≡ c.args.digits.now =
    take_all c.loop-digit.digit-index c.args.digits.now (omega arith) in
    let value : c.loop-digit.value ≡ number.0 = c.loop-digit.invariant ∙ ap (digits_value 10) all
    ∙ value_of_number c.args.digits.now number in
    (omega (arith, number.1), number.2 ∙ ap decimal (sym value))
