use Rattle.std.proofs.Common.{◌<◌, arith, sym, ◌∙◌}
use Rattle.std.proofs.lemmas.Fmt.{decimal_injective}
use Rattle.td_reader.proofs.Numbers.{number_none, parsed_other, parsed_there}
use Rattle.td_reader.proofs.number.number_of.Goals as goal

pub returns-in_err-number-clause-value : goal.returns-in_err-number-clause-value
returns-in_err-number-clause-value c =
    c.from_residual.ensures ∙ sym (number_none c.args.most c.args.digits.now (omega arith) c.in_err-number.ensures)

pub returns-then-number-most-clause-value : goal.returns-then-number-most-clause-value
returns-then-number-most-clause-value c =
    let more : c.args.most < c.in_ok-number.number = c.if-number-most.true in
    sym (parsed_other c.args.most c.in_ok-number.number c.args.digits.now (omega arith)
    (λ n small is. decimal_injective c.in_ok-number.number n (omega arith) small (sym c.in_ok-number.ensures ∙ is))
    (λ few e. absurd (omega arith)))

pub returns-clause-value : goal.returns-clause-value
returns-clause-value c =
    sym (parsed_there c.args.most c.in_ok-number.number c.args.digits.now (omega arith) (omega
    (arith, c.if-number-most.false))
    c.in_ok-number.ensures)
