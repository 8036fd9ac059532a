use Rattle.std.proofs.Common.{◌∙◌, ◌+◌, ◌∷◌, ℕ, List, [], ap, sym, subst}
use Rattle.td_list.specs.Items.{Item}
use Rattle.td_tree.specs.Ways.{IsWay}
use Rattle.td_tree.proofs.Ways.{IsGoing, sets_out, laid, goes_further, has_arrived}
use Rattle.td_tree.proofs.tokens.Tokens.way_down.Goals as goal

pub loop-way-init : goal.loop-way-init
loop-way-init c =
    let first = c.in_ok-way.ensures.piece ∙ ap (λ (i : Item). i ∷ []) c.whole.ensures in
    subst (λ (x : List Item × List ℕ). IsGoing c.args.self.now c.args.whole c.args.whole c.args.index x.0 0 x.1)
    (λ i. (sym first i, sym c.in_ok-way.ensures.tops i))
    (sets_out c.args.self.now c.requires.tree c.args.whole c.args.index c.requires.part c.requires.there
    c.requires.low c.requires.high)

pub loop-way-preserved : goal.loop-way-preserved
loop-way-preserved c =
    let p = c.args.self.now in
    let l = c.loop-way in
    let piece = c.in_ok-open_in.ensures.piece ∙ laid p c.requires.tree c.args.whole l.leaf c.args.index l.place
    l.way.piece.items l.way.tops.items l.invariant in
    subst (λ (x : List Item × List ℕ). IsGoing p c.args.whole c.half_with-leaf.result c.args.index x.0
    (l.place + c.tokens_before_half-place.result) x.1)
    (λ i. (sym piece i, sym c.in_ok-open_in.ensures.tops i))
    (goes_further p c.requires.tree c.args.whole l.leaf c.args.index l.place l.way.piece.items l.way.tops.items
    l.invariant c.half_with-leaf.result (l.place + c.tokens_before_half-place.result)
    (λ e. c.loop-way-test.true (c.middle.ensures ∙ e)) c.half_with-leaf.ensures
    (ap (λ (n : ℕ). l.place + n) c.tokens_before_half-place.ensures))

pub returns : goal.returns
returns c =
    let p = c.args.self.now in
    let l = c.loop-way in
    let piece = c.in_ok-open_in-2.ensures.piece ∙ laid p c.requires.tree c.args.whole l.leaf c.args.index l.place
    l.way.piece.items l.way.tops.items l.invariant in
    subst (λ (x : List Item × List ℕ). IsWay p c.args.whole c.args.index x.0 x.1)
    (λ i. (sym piece i, sym c.in_ok-open_in-2.ensures.tops i))
    (has_arrived p c.requires.tree c.args.whole l.leaf c.args.index l.place l.way.piece.items l.way.tops.items
    l.invariant (sym c.middle.ensures ∙ c.loop-way-test.false) c.requires.part c.requires.tree)
