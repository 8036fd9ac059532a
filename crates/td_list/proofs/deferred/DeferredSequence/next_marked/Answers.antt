use Rattle.std.proofs.Common.{◌∙◌, List, sym}
use Rattle.td_list.specs.Items.{Item}
use Rattle.td_list.proofs.Reweighed.{alike_now, item_alike, mark_alike}
use Rattle.td_list.proofs.deferred.DeferredSequence.next_marked.Goals as goal

pub next_marked-requires : goal.next_marked-requires
next_marked-requires g c =
    let items : List Item = g.S.Sequence.items c.self.inside.list in
    let alike = alike_now c.self.inside.pending items c.args.self.now c.self.invariant c.self.view_is in
    item_alike c.args.self.now items (sym alike) c.args.name c.requires

pub returns : goal.returns
returns g c =
    let items : List Item = g.S.Sequence.items c.self.inside.list in
    let alike = alike_now c.self.inside.pending items c.args.self.now c.self.invariant c.self.view_is in
    c.next_marked.ensures ∙ mark_alike items c.args.self.now alike c.args.name
