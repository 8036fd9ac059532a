use Rattle.std.proofs.Common.{List, arith}
use Rattle.td_list.specs.Items.{Item}
use Rattle.td_list.proofs.Reweighed.{weight_now, weight_told}
use Rattle.td_list.proofs.deferred.Pending.weight.Goals as goal

pub overflow_sub-result : goal.overflow_sub-result
overflow_sub-result g c =
    let items : List Item = g.S.Sequence.items c.args.list.now in
    omega (arith, c.weight.ensures, weight_told c.args.self items c.requires)

pub overflow_add-result : goal.overflow_add-result
overflow_add-result g c =
    let items : List Item = g.S.Sequence.items c.args.list.now in
    omega (
      arith,
      c.weight.ensures,
      c.requires.light,
      c.weight-2.ensures,
      weight_now c.args.self items c.requires,
      weight_told c.args.self items c.requires,
    )

pub returns-clause-value : goal.returns-clause-value
returns-clause-value g c =
    let items : List Item = g.S.Sequence.items c.args.list.now in
    omega (
      arith,
      c.weight.ensures,
      c.weight-2.ensures,
      weight_now c.args.self items c.requires,
      weight_told
          c.args.self items c.requires,
    )
