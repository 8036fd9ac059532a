use Rattle.std.proofs.Common.{List}
use Rattle.td_list.specs.Items.{Item}
use Rattle.td_list.proofs.Reweighed.{just_told}
use Rattle.td_list.proofs.deferred.begin.Goals as goal

pub returns-clause-pending : goal.returns-clause-pending
returns-clause-pending g c =
    let items : List Item = g.S.Sequence.items c.args.list.now in
    rw c.weight.ensures ((just_told c.args.item items (g.S.Sequence.items c.renew.new.self) c.requires.there
    c.requires.light c.renew.ensures).0)

pub returns-clause-items : goal.returns-clause-items
returns-clause-items g c =
    let items : List Item = g.S.Sequence.items c.args.list.now in
    (just_told c.args.item items (g.S.Sequence.items c.renew.new.self) c.requires.there c.requires.light
    c.renew.ensures).1
