use Rattle.std.proofs.Common.{◌∙◌, ap}
use Rattle.td_list.specs.Items.{share_at}
use Rattle.td_tree.specs.Parts.{Parts}
use Rattle.td_tree.proofs.Weighed.{live_row_is, no_live_row, share_there}
use Rattle.td_tree.proofs.Orders.{known_result}
use Rattle.td_tree.proofs.tokens.Tokens.live_row.Goals as goal

pub row_at-requires-clause-there : goal.row_at-requires-clause-there
row_at-requires-clause-there c =
    let p = c.args.self.now in
    share_there p c.requires.each c.args.index c.in-Some.share
    (c.in-Some.ensures ∙ ap (λ (q : Parts). share_at c.args.index q.items) c.self.view_is)

pub returns-in-Some-clause-id : goal.returns-in-Some-clause-id
returns-in-Some-clause-id c =
    let p = c.args.self.now in
    live_row_is p c.requires.each c.args.index c.in-Some.share
    (c.in-Some.ensures ∙ ap (λ (q : Parts). share_at c.args.index q.items) c.self.view_is) c.row_at.result
    c.row_at.ensures

pub returns-in-Some-clause-known : goal.returns-in-Some-clause-known
returns-in-Some-clause-known c =
    let p = c.args.self.now in
    known_result p c.requires c.in-Some.share.name
    (share_there p c.requires.each c.args.index c.in-Some.share
    (c.in-Some.ensures ∙ ap (λ (q : Parts). share_at c.args.index q.items) c.self.view_is)) c.in-Some.share.rest
    c.row_at.result c.row_at.ensures

pub returns-in-None-clause-id : goal.returns-in-None-clause-id
returns-in-None-clause-id c = no_live_row c.args.self.now c.requires.each c.args.index
    (c.in-None.ensures ∙ ap (λ (q : Parts). share_at c.args.index q.items) c.self.view_is)
