use Rattle.std.proofs.Common.{◌∙◌, List}
use Rattle.td_list.specs.Items.{Item}
use Rattle.td_list.proofs.Reweighed.{alike_now, last_alike}
use Rattle.td_list.proofs.deferred.DeferredSequence.last.Goals as goal

pub returns : goal.returns
returns g c =
    let items : List Item = g.S.Sequence.items c.self.inside.list in
    let alike = alike_now c.self.inside.pending items c.args.self.now c.self.invariant c.self.view_is in
    c.last.ensures ∙ last_alike items c.args.self.now alike
