use Rattle.std.proofs.Common.{◌∙◌, ap, sym, subst, ℕ, Option}
use Rattle.td_base.specs.declared.bit.Bit.{Bit}
use Rattle.td_base.specs.declared.bit.Bit.TheVariants.{Left, Right}
use Rattle.td_path.specs.declared.slot.Slot.TheVariants.{At}
use Rattle.td_list.specs.Items.{Item, IsItem, items_after, first_name}
use Rattle.td_tree.specs.Parts.{table}
use Rattle.td_tree.specs.Places.{IsPlace}
use Rattle.td_tree.proofs.ItemTokens.{open_name, atom_name}
use Rattle.td_tree.proofs.Places.{open_there, atom_there, left_place, right_place}
use Rattle.td_tree.proofs.tokens.Tokens.first_on.Goals as goal

pub next-requires : goal.next-requires
next-requires c =
    let p = c.args.self.now in
    subst (λ (n : ℕ). IsItem n p.items) (sym (c.name.ensures ∙ ap (λ (k : Item). k.name) c.open_item.ensures))
    (open_name p p.items c.args.row (open_there p c.requires.tree c.args.row c.requires.row c.requires.node))

pub next-requires-in-Right : goal.next-requires-in-Right
next-requires-in-Right c =
    let p = c.args.self.now in
    subst (λ (n : ℕ). IsItem n p.items) (sym (c.name-in-Right.ensures
    ∙ ap (λ (k : Item). k.name) c.atom_item.ensures))
    (atom_name p p.items c.args.row (atom_there p c.requires.tree c.args.row c.requires.row c.requires.node))

pub returns-in-Left : goal.returns-in-Left
returns-in-Left c = λ id.
    let p = c.args.self.now in
    subst (λ (b : Bit). IsPlace p (At (table p c.args.row).id b) id c.next.result) (sym c.in-Left.is)
    (subst (λ (o : Option ℕ). IsPlace p (At (table p c.args.row).id Left) id o)
    (sym (c.next.ensures ∙ ap (λ (n : ℕ). first_name (items_after n p.items))
    (c.name.ensures ∙ ap (λ (k : Item). k.name) c.open_item.ensures)))
    (left_place p c.requires.tree c.args.row c.requires.row c.requires.node id))

pub returns-in-Right : goal.returns-in-Right
returns-in-Right c = λ id.
    let p = c.args.self.now in
    subst (λ (b : Bit). IsPlace p (At (table p c.args.row).id b) id c.next-in-Right.result) (sym c.in-Right.is)
    (subst (λ (o : Option ℕ). IsPlace p (At (table p c.args.row).id Right) id o)
    (sym (c.next-in-Right.ensures ∙ ap (λ (n : ℕ). first_name (items_after n p.items))
    (c.name-in-Right.ensures ∙ ap (λ (k : Item). k.name) c.atom_item.ensures)))
    (right_place p c.requires.tree c.args.row c.requires.row c.requires.node id))
