use Rattle.std.proofs.Common.{◌∙◌, ◌+◌, ap, drop}
use Rattle.td_list.specs.Items.{first_marked}
use Rattle.td_list.proofs.Parted.{drop_after}
use Rattle.td_list.proofs.line.LineSequence.next_marked.Goals as goal

pub returns : goal.returns
returns c =
    c.first_marked.ensures ∙ (λ i. first_marked (drop (c.place.ensures.value i + 1)
    ((c.deref.ensures.value ∙ c.self.view_is) i)))
    ∙ ap first_marked (drop_after c.args.name c.args.self.now c.requires)
