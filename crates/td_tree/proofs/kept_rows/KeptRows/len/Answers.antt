use Rattle.std.proofs.Common.{◌∙◌, length, ap, sym}
use Rattle.td_tree.specs.KeptRows.{Column, several_at}
use Rattle.td_tree.proofs.KeptRows.{entries_long}
use Rattle.td_tree.proofs.kept_rows.KeptRows.len.Goals as goal

pub returns : goal.returns
returns c =
    c.len.ensures ∙ c.self.inside.rows.ok.0
    ∙ sym (entries_long 0 c.self.inside.long.items (several_at c.self.inside.several) 0 c.self.inside.rows.items)
    ∙ ap (λ (k : Column). length k.entries) c.self.view_is
