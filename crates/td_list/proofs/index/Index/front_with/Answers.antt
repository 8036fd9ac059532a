use Rattle.std.proofs.Common.{ap, arith}
use Rattle.td_list.specs.Items.{weight_of}
use Rattle.td_list.proofs.Names.{weight-parts}
use Rattle.td_list.proofs.index.Index.front_with.Goals as goal

pub of-requires : goal.of-requires
of-requires g c =
    let parts = weight-parts c.args.place c.items_of.result.now in
    let same = ap weight_of c.items_of.ensures in
    omega (arith, c.requires.light)

pub splice-requires-clause-light : goal.splice-requires-clause-light
splice-requires-clause-light g c =
    let parts = weight-parts c.args.place c.items_of.result.now in
    let same = ap weight_of c.items_of.ensures in
    let new = ap weight_of c.in_ok-new.ensures in
    omega (arith, c.requires.light)
