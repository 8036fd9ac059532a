use Rattle.std.proofs.Common.{ap, arith}
use Rattle.std.proofs.lemmas.List.{drop_all}
use Rattle.td_list.specs.Items.{place_of}
use Rattle.td_list.proofs.Parted.{place_below}
use Rattle.td_list.proofs.scan.place_of.Goals as goal

pub returns-clause-bound : goal.returns-clause-bound
returns-clause-bound c = λ i.
    let b = place_below c.args.name c.args.items.now i in
    let none = ap (place_of c.args.name) (drop_all c.loop-item.item-index c.args.items.now (omega arith)) in
    omega (arith, c.loop-item.invariant.left, c.loop-item.invariant.counted)
