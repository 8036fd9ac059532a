use Rattle.std.proofs.Common.{◌∙◌, ◌+◌, ℕ, ap, drop}
use Rattle.td_list.specs.Items.{first_name}
use Rattle.td_list.proofs.Parted.{drop_after}
use Rattle.td_list.proofs.line.LineSequence.next.Goals as goal

pub returns : goal.returns
returns c =
    c.name_at.ensures ∙ ap (λ (n : ℕ). first_name (drop (n + 1) c.args.self.now)) c.place.ensures.value
    ∙ ap first_name (drop_after c.args.name c.args.self.now c.requires)
