use Rattle.std.proofs.Common.{◌∙◌, ap}
use Rattle.td_list.specs.Items.{weight_of}
use Rattle.td_tree.specs.Parts.{Parts}
use Rattle.td_tree.proofs.Weighed.{live_is}
use Rattle.td_tree.proofs.tokens.Tokens.live.Goals as goal

pub returns : goal.returns
returns c = c.weight.ensures ∙ ap (λ (p : Parts). weight_of p.items) c.self.view_is
    ∙ live_is c.args.self.now c.requires.each
