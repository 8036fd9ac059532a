use Rattle.std.proofs.Common.{◌∙◌, ap, nat_lt}
use Rattle.td_list.specs.Items.{place_of}
use Rattle.td_tree.specs.Parts.{Parts}
use Rattle.td_tree.proofs.RowOrder.{order_in, order_of_items}
use Rattle.td_tree.proofs.tokens.Tokens.is_row_before.Goals as goal

pub returns-then-first-second : goal.returns-then-first-second
returns-then-first-second c =
    order_in c.args.self.now c.requires.tree c.args.row c.args.other c.place_of-first.result.name
    c.place_of-second.result.name c.place_of-first.result.rest c.place_of-second.result.rest
    c.place_of-first.ensures.place c.place_of-second.ensures.place c.if-first-second.true

pub returns-else-first-second : goal.returns-else-first-second
returns-else-first-second c =
    c.is_before.ensures
    ∙ ap (λ (p : Parts). nat_lt (place_of c.place_of-first.result.name p.items)
    (place_of c.place_of-second.result.name p.items)) c.self.view_is
    ∙ order_of_items c.args.self.now c.requires.tree c.args.row c.args.other c.place_of-first.result.name
    c.place_of-second.result.name c.place_of-first.result.rest c.place_of-second.result.rest
    c.place_of-first.ensures.place c.place_of-second.ensures.place c.if-first-second.false
