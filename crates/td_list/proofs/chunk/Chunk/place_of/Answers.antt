use Rattle.std.proofs.Common.{◌≡◌, ◌<◌, ◌∙◌, List, length, get_or, ap, sym, subst}
use Rattle.td_list.specs.Items.{Item}
use Rattle.td_list.specs.Places.{nothing}
use Rattle.td_list.proofs.Distinct.{only_place}
use Rattle.td_list.proofs.chunk.Chunk.place_of.Goals as goal

pub returns-in-Some-clause-value : goal.returns-in-Some-clause-value
returns-in-Some-clause-value c =
    let read : c.deref.result.now ≡ c.args.self.now = c.deref.ensures.value ∙ c.self.view_is in
    let found = c.in-Some.ensures in
    sym (only_place c.args.name c.args.self.now c.requires.apart c.in-Some.place
    (subst (λ (items : List Item). c.in-Some.place < length items) read found.0)
    (ap (λ (items : List Item). (get_or items c.in-Some.place nothing).name) (sym read) ∙ found.1))
