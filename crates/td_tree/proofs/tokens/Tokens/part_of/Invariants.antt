use Rattle.std.proofs.Common.{◌≡◌, ◌<◌, ◌≤◌, ◌+◌}
use Rattle.td_path.specs.declared.slot.Slot.{Slot}
use Rattle.td_brackets.specs.Brackets.{LeafIn}
use Rattle.td_tree.specs.Parts.{table, array_at, part, doc_rows, IsPart}
use Rattle.td_tree.specs.Reading.{slot_or}
use Rattle.td_tree.proofs.tokens.Tokens.part_of.Given as goal

abbrev pub invariant-loop-slot : goal.invariant-loop-slot
invariant-loop-slot l = record {
  array : l.rows.array ≡ l.fn.leaf.array;
  is_part : IsPart l.self l.fn.leaf.array l.rows.from l.rows.len;
  low : l.rows.from ≤ l.index;
  high : l.index < l.rows.from + l.rows.len;
  there : (round : Slot) → LeafIn (table l.self) (doc_rows l.self)
      (part (array_at l.self l.fn.leaf.array) l.fn.leaf.from l.fn.leaf.len) round
      → LeafIn (table l.self) (doc_rows l.self) (part (array_at l.self l.fn.leaf.array) l.rows.from l.rows.len)
      (slot_or round l.slot);
}

abbrev pub decreases-loop-slot : goal.decreases-loop-slot
decreases-loop-slot l = l.rows.len
