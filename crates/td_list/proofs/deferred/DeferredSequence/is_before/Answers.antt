use Rattle.std.proofs.Common.{◌∙◌, List, nat_lt, sym}
use Rattle.td_list.specs.Items.{Item}
use Rattle.td_list.proofs.Reweighed.{alike_now, item_alike, place_alike}
use Rattle.td_list.proofs.deferred.DeferredSequence.is_before.Goals as goal

pub is_before-requires-clause-first : goal.is_before-requires-clause-first
is_before-requires-clause-first g c =
    let items : List Item = g.S.Sequence.items c.self.inside.list in
    let alike = alike_now c.self.inside.pending items c.args.self.now c.self.invariant c.self.view_is in
    item_alike c.args.self.now items (sym alike) c.args.first c.requires.first

pub is_before-requires-clause-second : goal.is_before-requires-clause-second
is_before-requires-clause-second g c =
    let items : List Item = g.S.Sequence.items c.self.inside.list in
    let alike = alike_now c.self.inside.pending items c.args.self.now c.self.invariant c.self.view_is in
    item_alike c.args.self.now items (sym alike) c.args.second c.requires.second

pub returns : goal.returns
returns g c =
    let items : List Item = g.S.Sequence.items c.self.inside.list in
    let alike = alike_now c.self.inside.pending items c.args.self.now c.self.invariant c.self.view_is in
    c.is_before.ensures
    ∙ (λ i. nat_lt (place_alike items c.args.self.now alike c.args.first i)
    (place_alike items c.args.self.now alike c.args.second i))
