use Rattle.td_tree.proofs.LeafSides.{leaf_left_rows, leaf_right_rows}
use Rattle.td_tree.proofs.tokens.Tokens.leaf_side.Goals as goal

pub returns-in-Left-clause-rows : goal.returns-in-Left-clause-rows
returns-in-Left-clause-rows c =
    rw c.before-in-Left.ensures
    (rw c.in-Left.is
    (leaf_left_rows c.args.self.now c.requires.tree c.args.array c.args.index c.leaf_of-leaf.result.array
    c.leaf_of-leaf.result.from c.leaf_of-leaf.result.len c.part_of-part.result.rows.from
    c.part_of-part.result.rows.len c.part_of-part.result.slot
    c.leaf_of-leaf.ensures.array c.leaf_of-leaf.ensures.part c.leaf_of-leaf.ensures.leaf c.part_of-part.ensures.part
    c.part_of-part.ensures.middle c.part_of-part.ensures.there))

pub returns-in-Right-clause-rows : goal.returns-in-Right-clause-rows
returns-in-Right-clause-rows c =
    rw c.after.ensures
    (rw c.in-Right.is
    (leaf_right_rows c.args.self.now c.requires.tree c.args.array c.args.index c.leaf_of-leaf.result.array
    c.leaf_of-leaf.result.from c.leaf_of-leaf.result.len c.part_of-part.result.rows.from
    c.part_of-part.result.rows.len c.part_of-part.result.slot
    c.leaf_of-leaf.ensures.array c.leaf_of-leaf.ensures.part c.leaf_of-leaf.ensures.leaf c.part_of-part.ensures.part
    c.part_of-part.ensures.middle c.part_of-part.ensures.there))
