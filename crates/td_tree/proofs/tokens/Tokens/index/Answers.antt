use Rattle.std.proofs.Common.{◌∙◌, ◌+◌, ℕ, ap, arith}
use Rattle.td_list.specs.Items.{weight_of, items_before}
use Rattle.td_tree.specs.Parts.{Parts}
use Rattle.td_tree.proofs.Indexes.{index_is, light_before}
use Rattle.td_tree.proofs.tokens.Tokens.index.Goals as goal

pub overflow_add-result : goal.overflow_add-result
overflow_add-result c =
    let w = c.weight_before.ensures ∙ ap (λ (p : Parts). weight_of
    (items_before c.place_of-place.result.name p.items)) c.self.view_is in
    let light = light_before c.args.self.now c.requires.tree c.place_of-place.result.name in
    let few = c.place_of-place.ensures.few in
    omega arith

pub returns : goal.returns
returns c =
    ap (λ (n : ℕ). n + c.place_of-place.result.rest)
    (c.weight_before.ensures ∙ ap (λ (p : Parts). weight_of (items_before c.place_of-place.result.name p.items))
    c.self.view_is)
    ∙ index_is c.args.self.now c.requires.tree c.args.row c.place_of-place.result.name c.place_of-place.result.rest
    c.place_of-place.ensures.place
