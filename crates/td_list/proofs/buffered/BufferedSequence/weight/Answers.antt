use Rattle.std.proofs.Common.{◌+◌, ◌∙◌, ap, sym, arith}
use Rattle.td_list.specs.Items.{weight_of}
use Rattle.td_list.proofs.Waiting.{weight_all}
use Rattle.td_list.proofs.buffered.BufferedSequence.weight.Goals as goal

pub overflow_add-result : goal.overflow_add-result
overflow_add-result g c = omega (arith, c.weight.ensures, c.weight-2.ensures.value, c.self.invariant.light)

pub returns : goal.returns
returns g c =
    (λ i. c.weight.ensures i + c.weight-2.ensures.value i)
    ∙ sym (weight_all c.self.inside.at c.self.inside.waiting c.self.inside.list) ∙ ap weight_of c.self.view_is
