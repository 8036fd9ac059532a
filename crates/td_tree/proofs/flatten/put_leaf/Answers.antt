use Rattle.std.proofs.Common.{◌∙◌, ◌++◌, ◌∷◌, ◌<◌, List, [], length, ap, sym, subst}
use Rattle.td_list.specs.Items.{Item, AreNew, items_before, items_from_end}
use Rattle.td_tree.proofs.SlotStretches.{leaf_some, not_none}
use Rattle.td_tree.proofs.flatten.put_leaf.Goals as goal

pub replace-requires-2-clause-new : goal.replace-requires-2-clause-new
replace-requires-2-clause-new c =
    let some : 0 < length c.args.live.now = not_none (length c.args.live.now)
    (sym c.is_empty.ensures ∙ c.if-is_empty.false) in
    subst (λ (q : List Item). AreNew q (items_before c.args.first c.args.list.now
    ++ items_from_end c.args.end c.args.list.now))
    (leaf_some c.args.live.now some ∙ ap (λ (i : Item). i ∷ []) (sym c.atom_item-top.ensures)) c.requires.new
