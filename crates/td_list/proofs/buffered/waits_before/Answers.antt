use Rattle.std.proofs.Common.{◌∙◌, ℕ, List, nat_lt, ap}
use Rattle.td_list.specs.Items.{Item}
use Rattle.td_list.proofs.Waiting.{item_all, both_wait, first_waits}
use Rattle.td_list.proofs.buffered.waits_before.Goals as goal

pub is_front-requires-clause-there : goal.is_front-requires-clause-there
is_front-requires-clause-there g c =
    let items : List Item = g.S.Sequence.items c.args.list.now in
    item_all c.args.end c.args.waiting.now items c.args.second c.requires.there c.in-None.ensures.none

pub returns-in-Some : goal.returns-in-Some
returns-in-Some g c =
    let items : List Item = g.S.Sequence.items c.args.list.now in
    ap (λ (n : ℕ). nat_lt c.args.place n) c.in-Some.ensures.place
    ∙ both_wait c.args.end c.args.waiting.now items c.requires.new c.args.place c.args.second c.in-Some.ensures.there

pub returns-in-None : goal.returns-in-None
returns-in-None g c =
    let items : List Item = g.S.Sequence.items c.args.list.now in
    first_waits c.args.end c.args.waiting.now items c.args.place c.args.second c.requires.place c.in-None.ensures.none
    c.is_front.result c.is_front.ensures
