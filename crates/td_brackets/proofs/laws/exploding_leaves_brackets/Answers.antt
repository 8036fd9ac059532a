use Rattle.td_brackets.proofs.Once.{explode_brackets}
use Rattle.td_brackets.proofs.laws.exploding_leaves_brackets.Goals as goal

pub returns : goal.returns
returns c = λ table front back before m after half b. explode_brackets table front back before m after half b
