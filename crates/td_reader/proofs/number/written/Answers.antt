use Rattle.std.proofs.Common.{◌≡◌, ◌≢◌, ◌^◌, ◌<◌, ℕ, Option, MatchOption, sym, subst}
use Rattle.std.specs.Fmt.{decimal}
use Rattle.td_reader.proofs.Numbers.{few_none}
use Rattle.td_reader.proofs.number.written.Goals as goal

pub returns-in_err-number_of : goal.returns-in_err-number_of
returns-in_err-number_of c =
    subst (λ (o : Option ℕ). MatchOption o ((n : ℕ) → n < 2 ^ 64 → c.args.digits.now ≢ decimal n)
    (λ number. c.args.digits.now ≡ decimal number)) (sym c.from_residual.ensures)
    (few_none c.args.digits.now c.if-digits-le-MAX_DIGITS.true c.in_err-number_of.ensures.none)
