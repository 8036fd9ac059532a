use Rattle.std.proofs.Common.{◌∙◌, sym, ap, subst}
use Rattle.td_base.specs.declared.bit.Bit.TheVariants.{Right}
use Rattle.td_base.proofs.Equals.{same_id_true}
use Rattle.td_list.specs.Items.{Item}
use Rattle.td_path.specs.declared.slot.Slot.TheVariants.{At}
use Rattle.td_tree.specs.Last.{IsEmptyEnd}
use Rattle.td_tree.specs.Parts.{Parts}
use Rattle.td_tree.proofs.BehindLast.{end_of_last}
use Rattle.td_tree.proofs.LastRow.{last_is}
use Rattle.td_tree.proofs.tree.Tree.end_behind.Goals as goal

pub returns : goal.returns
returns c =
    let p : Parts = c.self.inside.tokens in
    let k = last_is p c.self.inside.identities c.self.inside.last c.in-Some.last c.self.invariant.1 c.in-Some.is in
    subst (λ (q : Parts). IsEmptyEnd q (At c.args.atom Right) c.name.result) c.self.view_is
    (end_of_last p c.self.inside.identities c.self.inside.seen c.self.invariant.0 c.in-Some.last k c.args.atom
    (same_id_true c.in-Some.last.id c.args.atom (sym c.if-eq.ensures)) c.name.result
    (c.name.ensures ∙ ap (λ (i : Item). i.name) c.close_item.ensures))
