use Rattle.std.proofs.Common.{List, sym}
use Rattle.td_list.specs.Items.{Item}
use Rattle.td_list.proofs.Reweighed.{alike_now, item_alike}
use Rattle.td_list.proofs.deferred.DeferredSequence.get.Goals as goal

pub get-requires-clause-there : goal.get-requires-clause-there
get-requires-clause-there g c =
    let items : List Item = g.S.Sequence.items c.self.inside.list in
    let alike = alike_now c.self.inside.pending items c.args.self.now c.self.invariant c.self.view_is in
    item_alike c.args.self.now items (sym alike) c.args.name c.requires
