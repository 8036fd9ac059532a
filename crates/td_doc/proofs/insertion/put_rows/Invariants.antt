use Rattle.std.proofs.Common.{◌≡◌, ◌+◌, ◌≤◌, length, vec_len, vec_capacity}
use Rattle.std.specs.Vec.Iter.{into_iter_items}
use Rattle.td_doc.specs.Insertion.{put_rows}
use Rattle.td_doc.proofs.insertion.put_rows.Given as goal

-- with the rows that are left put too, all are put, and there is room for them
abbrev pub invariant-loop-row : goal.invariant-loop-row
invariant-loop-row l = record {
  can_next : (goal.iterator-loop-row).can_next l.row-iterator;
  is_finite : (goal.iterator-loop-row).is_finite l.row-iterator;
  rows : put_rows (into_iter_items l.row-iterator) l.rows.items ≡ put_rows l.fn.new.items l.fn.rows.items;
  room : vec_len l.rows + length (into_iter_items l.row-iterator) ≤ vec_capacity l.rows;
}
