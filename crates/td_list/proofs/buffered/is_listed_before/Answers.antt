use Rattle.std.proofs.Common.{◌∙◌, List}
use Rattle.td_list.specs.Items.{Item}
use Rattle.td_list.proofs.Waiting.{item_all, second_waits, none_waits}
use Rattle.td_list.proofs.buffered.is_listed_before.Goals as goal

pub is_before-requires-clause-second : goal.is_before-requires-clause-second
is_before-requires-clause-second g c =
    let items : List Item = g.S.Sequence.items c.args.list.now in
    item_all c.args.end c.args.waiting.now items c.args.second c.requires.there c.in-None.ensures.none

pub returns-in-Some : goal.returns-in-Some
returns-in-Some g c =
    let items : List Item = g.S.Sequence.items c.args.list.now in
    second_waits c.args.end c.args.waiting.now items c.requires.new c.args.first c.args.second c.requires.listed
    c.in-Some.ensures.there c.is_front.result c.is_front.ensures

pub returns-in-None : goal.returns-in-None
returns-in-None g c =
    let items : List Item = g.S.Sequence.items c.args.list.now in
    c.is_before.ensures ∙ none_waits c.args.end c.args.waiting.now items c.args.first c.args.second c.requires.listed
    c.in-None.ensures.none
