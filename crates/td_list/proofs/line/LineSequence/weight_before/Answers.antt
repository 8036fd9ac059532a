use Rattle.std.proofs.Common.{◌∙◌, ap, take, arith}
use Rattle.td_list.specs.Items.{weight_of}
use Rattle.td_list.proofs.Parted.{take_place}
use Rattle.td_list.proofs.Names.{weight-parts}
use Rattle.td_list.proofs.line.LineSequence.weight_before.Goals as goal

pub weight_of-requires : goal.weight_of-requires
weight_of-requires c =
    let parts = weight-parts c.place.result c.self.inside.items.items in
    let read = ap (λ q. weight_of (take c.place.result q)) c.deref.ensures.value in
    omega (arith, c.self.invariant.0.light)

pub returns : goal.returns
returns c =
    c.weight_of.ensures ∙ (λ i. weight_of (take (c.place.ensures.value i) ((c.deref.ensures.value ∙ c.self.view_is) i)))
    ∙ ap weight_of (take_place c.args.name c.args.self.now c.requires)
