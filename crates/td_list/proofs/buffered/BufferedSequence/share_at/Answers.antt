use Rattle.std.proofs.Common.{◌-◌, ◌∙◌, ℕ, List, ap, sym, arith}
use Rattle.td_list.specs.Items.{Item, share_at}
use Rattle.td_list.proofs.Waiting.{share_weightless, share_first, share_waiting, share_last}
use Rattle.td_list.proofs.buffered.BufferedSequence.share_at.Goals as goal

pub returns-then-more-eq0 : goal.returns-then-more-eq0
returns-then-more-eq0 g c =
    c.share_at.ensures
    ∙ share_weightless c.self.inside.at c.self.inside.waiting c.self.inside.list c.args.unit
    (sym c.weight-more.ensures.value ∙ c.if-more-eq0.true)
    ∙ ap (share_at c.args.unit) c.self.view_is

pub returns-then-unit-before : goal.returns-then-unit-before
returns-then-unit-before g c =
    c.share_at-then-unit-before.ensures
    ∙ share_first c.self.inside.at c.self.inside.waiting c.self.inside.list c.args.unit
    (omega (arith, c.weight_of_front-before.ensures, c.if-unit-before.true))
    ∙ ap (share_at c.args.unit) c.self.view_is

pub returns-then-rest-more : goal.returns-then-rest-more
returns-then-rest-more g c =
    let w : List Item = c.self.inside.waiting in
    c.share_at-then-rest-more.ensures
    ∙ ap (λ (n : ℕ). share_at (c.args.unit - n) w) c.weight_of_front-before.ensures
    ∙ share_waiting c.self.inside.at w c.self.inside.list c.args.unit
    (omega (arith, c.weight_of_front-before.ensures, c.if-unit-before.false))
    (omega (arith, c.weight_of_front-before.ensures, c.weight-more.ensures.value, c.if-rest-more.true))
    ∙ ap (share_at c.args.unit) c.self.view_is

pub returns : goal.returns
returns g c =
    let items : List Item = c.self.inside.list in
    c.share_at-2.ensures
    ∙ ap (λ (n : ℕ). share_at (c.args.unit - n) items) c.weight-more.ensures.value
    ∙ share_last c.self.inside.at c.self.inside.waiting items c.args.unit
    (omega (arith, c.weight_of_front-before.ensures, c.if-unit-before.false))
    (omega (arith, c.weight_of_front-before.ensures, c.weight-more.ensures.value, c.if-rest-more.false))
    ∙ ap (share_at c.args.unit) c.self.view_is
