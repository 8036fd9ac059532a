use Rattle.std.proofs.Common.{◌∙◌, ap, sym}
use Rattle.td_list.specs.Items.{weight_of}
use Rattle.td_list.proofs.Names.{weight-parts}
use Rattle.td_list.proofs.gap.GapBuffer.weight_to.Goals as goal

pub loop-behind-init : goal.loop-behind-init
loop-behind-init c = c.self.invariant.weighed ∙ ap weight_of c.self.view_is
    ∙ sym (weight-parts c.args.place c.args.self.now)
