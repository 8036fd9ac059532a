use Rattle.std.proofs.Common.{◌∙◌, refl, sym, Some, length}
use Rattle.td_tree.specs.Parts.{table}
use Rattle.td_tree.proofs.OwnSlots.{told_row}
use Rattle.td_tree.proofs.tokens.Tokens.told.Goals as goal

pub returns : goal.returns
returns c =
    let p = c.args.self.now in
    told_row p c.requires.tree c.args.row c.requires.row c.requires.stands c.own_slot-slot.result c.args.index
    c.own_slot-slot.ensures c.requires.index (table p c.args.row) refl (length (table p c.args.row).deletes) refl
    ∙ (λ i. Some (record {
      id = sym c.id.ensures i;
      slot = c.own_slot-slot.result;
      atom = sym c.atom.ensures i;
      deletes = sym c.delete_count.ensures i;
      index = c.args.index;
    }))
