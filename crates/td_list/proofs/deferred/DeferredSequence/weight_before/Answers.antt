use Rattle.std.proofs.Common.{List, sym}
use Rattle.td_list.specs.Items.{Item}
use Rattle.td_list.proofs.Reweighed.{alike_now, item_alike}
use Rattle.td_list.proofs.deferred.DeferredSequence.weight_before.Goals as goal

pub weight_before-requires-clause-there : goal.weight_before-requires-clause-there
weight_before-requires-clause-there g c =
    let items : List Item = g.S.Sequence.items c.self.inside.list in
    let alike = alike_now c.self.inside.pending items c.args.self.now c.self.invariant c.self.view_is in
    item_alike c.args.self.now items (sym alike) c.args.name c.requires
