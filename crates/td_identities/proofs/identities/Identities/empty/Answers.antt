use Rattle.std.proofs.Common.{◌∙◌, ap, List}
use Rattle.td_identities.specs.declared.numbers.Stray.{Stray}
use Rattle.td_identities.specs.Numbers.{NumbersValue, nth}
use Rattle.td_identities.specs.Identities.{insert_of, with_strays, number_of}
use Rattle.td_identities.proofs.Strays.{none_yet}
use Rattle.td_identities.proofs.identities.Identities.empty.Goals as goal

pub returns : goal.returns
unfolding number_of
returns c = λ x.
    ap (λ (strays : List Stray). with_strays strays x (nth (insert_of c.new.result.items x.dot) x.offset))
    c.new-2.ensures.items
    ∙ ap (λ (sites : List (List NumbersValue)). nth (insert_of sites x.dot) x.offset) c.new.ensures.items
    ∙ none_yet x.offset
