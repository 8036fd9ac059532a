use Rattle.std.proofs.Common.{◌∙◌, ap, List}
use Rattle.td_base.specs.Value.{AtomIdValue}
use Rattle.td_identities.specs.declared.numbers.Stray.{Stray}
use Rattle.td_identities.specs.Numbers.{NumbersValue, nth}
use Rattle.td_identities.specs.Identities.{insert_of, with_strays, number_of}
use Rattle.td_identities.proofs.identities.Identities.number.Goals as goal

pub returns : goal.returns
unfolding number_of
returns c =
    let strays = c.args.self.now.strays.items in
    let sites = c.args.self.now.sites.items in
    c.number_or.ensures ∙ ap (λ (l : List Stray). with_strays l c.args.id c.nth.result) c.deref.ensures.value
    ∙ ap (with_strays strays c.args.id) (c.nth.ensures
    ∙ ap (λ (n : NumbersValue). nth n c.id.inside.offset) c.insert_of-numbers.ensures)
    ∙ ap (λ (x : AtomIdValue). with_strays strays c.args.id (nth (insert_of sites x.dot) x.offset)) c.id.view_is
