use Rattle.std.proofs.Common.{[]}
use Rattle.td_brackets.proofs.Once.{stand_once}
use Rattle.td_brackets.proofs.laws.no_token_stands_twice.Goals as goal

pub returns : goal.returns
returns c = λ table tokens w d. stand_once table [] tokens w.0 d
