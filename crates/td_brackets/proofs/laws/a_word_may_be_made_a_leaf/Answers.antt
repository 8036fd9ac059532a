use Rattle.td_brackets.proofs.Flattened.{flattened_leaf, flat_brackets}
use Rattle.td_brackets.proofs.laws.a_word_may_be_made_a_leaf.Goals as goal

pub returns-clause-rows : goal.returns-clause-rows
returns-clause-rows c = λ table stack word. flattened_leaf table stack word

pub returns-clause-brackets : goal.returns-clause-brackets
returns-clause-brackets c = λ table front word back w b d. flat_brackets table front word back w b d
