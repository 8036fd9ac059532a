use Rattle.std.proofs.Common.{◌∙◌, ap, sym, subst, ℕ, Option, Some}
use Rattle.td_path.specs.declared.slot.Slot.TheVariants.{At}
use Rattle.td_list.specs.Items.{IsItem, items_after, first_name}
use Rattle.td_tree.specs.Parts.{Parts, table}
use Rattle.td_tree.specs.Stretches.{IsSlotItems}
use Rattle.td_tree.proofs.NodeParts.{node_at}
use Rattle.td_tree.proofs.SideItems.{side_items, start_there}
use Rattle.td_tree.proofs.SlotItems.{side_items_of}
use Rattle.td_tree.proofs.tokens.Tokens.flatten_side.Goals as goal
use Rattle.td_tree.proofs.tokens.Tokens.flatten_side.Goals.{After-side_end}

pub next-first-requires : goal.next-first-requires
next-first-requires c =
    let p : Parts = c.args.self.now in
    let s = side_items p c.args.row (node_at p c.requires.tree c.args.row c.requires.row c.requires.node) c.args.bit in
    subst (λ (x : ℕ). IsItem x p.items) (sym c.side_start.ensures)
    (start_there p c.requires.tree c.args.row c.args.bit s)

there : (c : After-side_end) → IsSlotItems c.args.self.now (At (table c.args.self.now c.args.row).id c.args.bit)
    c.next-first.result (Some c.side_end.result)
there c =
    let p : Parts = c.args.self.now in
    subst (λ (x : Option ℕ × ℕ). IsSlotItems p (At (table p c.args.row).id c.args.bit) x.0 (Some x.1))
    (λ i. (
      (sym (c.next-first.ensures ∙ ap (λ (x : ℕ). first_name (items_after x p.items)) c.side_start.ensures)) i,
      sym c.side_end.ensures i,
    ))
    (side_items_of p c.requires.tree c.args.row c.requires.row c.requires.node c.args.bit)

pub flatten_stretch-requires-clause-items : goal.flatten_stretch-requires-clause-items
flatten_stretch-requires-clause-items c = (
  At (table c.args.self.now c.args.row).id c.args.bit,
  there
      (goal.at.flatten_stretch-requires-clause-items c).After-side_end,
)

pub returns-clause-ok : goal.returns-clause-ok
returns-clause-ok c =
    c.in_ok-flatten_stretch.ensures.ok (At (table c.args.self.now c.args.row).id c.args.bit)
    (there (goal.at.returns-clause-ok c).After-side_end)
