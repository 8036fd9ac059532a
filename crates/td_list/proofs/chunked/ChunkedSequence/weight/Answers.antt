use Rattle.std.proofs.Common.{◌∙◌, sym, ap}
use Rattle.td_list.specs.Items.{weight_of}
use Rattle.td_list.proofs.Joined.{all_weight}
use Rattle.td_list.proofs.chunked.ChunkedSequence.weight.Goals as goal

pub returns : goal.returns
returns g c = c.weight.ensures ∙ sym (all_weight c.self.inside.index c.self.invariant) ∙ ap weight_of c.self.view_is
