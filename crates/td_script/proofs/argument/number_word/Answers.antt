use Rattle.std.proofs.Common.{◌≡◌, ℕ, List, ◌∙◌, subst}
use Rattle.std.specs.Option.{ok_or}
use Rattle.td_script.specs.declared.kind.Kind.TheVariants.{Number}
use Rattle.td_script.specs.Arguments.{number_of}
use Rattle.td_script.proofs.NumberWords.{number_or_fault}
use Rattle.td_script.proofs.argument.number_word.Goals as goal

pub returns : goal.returns
returns c =
    c.ok_or.ensures.value
    ∙ subst (λ (word : List ℕ). ok_or c.number_of.result Number ≡ number_of word) c.as_bytes.ensures.value
    (number_or_fault c.as_bytes.result.now c.number_of.result c.number_of.ensures.some c.number_of.ensures.none)
